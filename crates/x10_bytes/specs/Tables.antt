-- Items that are read one after another, and where they stand in all of the bytes.
use Rattle.std.specs.Prelude.{◌≡◌, ℕ, ◌+◌, ◌≤◌, List, length, Option, Result, Ok, Err, slice_range}
use Rattle.x10_model.specs.Readers.{after_all}
use Rattle.x10_model.specs.Offsets.{EndsWith, AreAt}
use Rattle.x10_bytes.specs.Faults.{IsFault, IsFaultOrMemory}

-- the bytes from one place on
pub record IsPart (bytes : List ℕ) (from : ℕ) (part : List ℕ) : Type 0 where
  pub end : from + length part ≤ length bytes
  pub is : part ≡ slice_range bytes from (from + length part)

-- reading gives some items, and what is known after them
pub record IsWalk {E S A : Type 0} (after : S → A → S) (first last : S) (rest : List ℕ)
    (read : Result (List A × List ℕ) E) : Type 0 where
  pub items : List A
  pub reads : read ≡ Ok (items, rest)
  pub state : last ≡ after_all after first items

-- what is known after the items, and the bytes after them
abbrev pub Walks : {F E S A X : Type 0} → (F → Option E) → (S → A → S) → S → (X → S) → (X → List ℕ)
    → Result X F → Result (List A × List ℕ) E → Type 0
Walks named after first last rest (Ok x) read = IsWalk after first (last x) (rest x) read
Walks named after first last rest (Err e) read = IsFault (named e) read

-- what reading gives, with the places of the items in all of the bytes
pub record IsTable {E A : Type 0} (spell : A → List ℕ) (whole table rest : List ℕ)
    (read : Result (List A × List ℕ) E) : Type 0 where
  pub items : List A
  pub reads : read ≡ Ok (items, rest)
  pub places : AreAt spell whole table items
  pub ends : EndsWith whole rest

-- a table and the bytes after its items are what reading gives, unless memory ran out
abbrev pub GivesTable : {F E A X : Type 0} → (F → Option E) → (A → List ℕ) → List ℕ → (X → List ℕ)
    → (X → List ℕ) → Result X F → Result (List A × List ℕ) E
    → Type 0
GivesTable named spell whole table rest (Ok x) read = IsTable spell whole (table x) (rest x) read
GivesTable named spell whole table rest (Err e) read = IsFaultOrMemory (named e) read
