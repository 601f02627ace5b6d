-- Reading items one after the other, with the place of each.
use Rattle.std.proofs.Common.{◌≡◌, ℕ, ◌-◌, ◌+◌, ◌≤◌, ◌<◌, List, [], ◌∷◌, ◌++◌, length, Option, Result, Ok}
use Rattle.x10_model.specs.Readers.{Reader, IsBytes, many}
use Rattle.x10_model.specs.Offsets.{StandsAt, EndsWith, AreAt}
use Rattle.x10_model.proofs.ReaderLaws.{Reads}
use Rattle.x10_model.proofs.Offsets.{place_is, still_ends, Pairwise-push}
use Rattle.x10_bytes.specs.Faults.{IsFault, IsFaultOrMemory}
use Rattle.x10_bytes.specs.Tables.{IsTable}
use Rattle.x10_bytes.proofs.Loops.{Along, along_start, along_next, along_fault, along_end, lenient}

-- with k items left, the places of those before are in the table
pub record Placed {E S A : Type 0} (item : S → Reader E A) (after : S → A → S) (spell : A → List ℕ) (whole : List ℕ) (k : ℕ) (first s : S)
    (bytes table : List ℕ) (all : Result (List A × List ℕ) E) : Type 0 where
  pub along : Along item after k first s bytes all
  pub places : AreAt spell whole table along.front
  pub ends : EndsWith whole bytes

pub placed_start : {E S A : Type 0} (item : S → Reader E A) (after : S → A → S) (spell : A → List ℕ) (whole : List ℕ) (n : ℕ) (s : S)
    (bytes table : List ℕ) → table ≡ [] → EndsWith whole bytes → Placed item after spell whole (n - 0) s s bytes table (many item after n s bytes)
unfolding along_start
placed_start item after spell whole n s bytes table empty e =
    rw empty (record { along = along_start item after n s bytes; places = tt; ends = e })

pub placed_next : {E S A : Type 0} (item : S → Reader E A) (after : S → A → S) (spell : A → List ℕ) (Fits : S → A → Type 0)
    → ((s : S) → Reads (item s) spell (Fits s))
    → (whole : List ℕ) (n i : ℕ) (first s t : S) (bytes table new : List ℕ) (x : A) (rest : List ℕ) (all : Result (List A × List ℕ) E)
    → i < n → IsBytes bytes → Placed item after spell whole (n - i) first s bytes table all → item s bytes ≡ Ok (x, rest) → t ≡ after s x
    → new ≡ table ++ (length whole - length bytes) ∷ []
    → Placed item after spell whole (n - (i + 1)) first t rest new all
unfolding along_next
placed_next item after spell Fits laws whole n i first s t bytes table new x rest all lt b p h e is =
    let took = (laws s).takes bytes x rest b h in
    let stands = place_is whole bytes (spell x) rest p.ends took.0.parts in
    rw is (record {
      along = along_next item after n i first s t bytes x rest all lt p.along h e;
      places = Pairwise-push (λ (at : ℕ) (y : _). StandsAt whole at (spell y)) table p.along.front (length whole - length bytes) x p.places stands;
      ends = still_ends whole bytes (spell x) rest p.ends took.0.parts;
    })

pub placed_fault : {E S A : Type 0} (item : S → Reader E A) (after : S → A → S) (spell : A → List ℕ) (whole : List ℕ) (n i : ℕ) (first s : S)
    (bytes table : List ℕ) (all : Result (List A × List ℕ) E) (f : Option E)
    → i < n → Placed item after spell whole (n - i) first s bytes table all → IsFault f (item s bytes) → IsFaultOrMemory f all
placed_fault item after spell whole n i first s bytes table all f lt p h = lenient f all (along_fault item after n i first s bytes all f lt p.along h)

pub placed_end : {E S A : Type 0} (item : S → Reader E A) (after : S → A → S) (spell : A → List ℕ) (whole : List ℕ) (n i : ℕ) (first s : S)
    (bytes table : List ℕ) (all : Result (List A × List ℕ) E)
    → n ≤ i → Placed item after spell whole (n - i) first s bytes table all → IsTable spell whole table bytes all
placed_end item after spell whole n i first s bytes table all le p =
    record { items = p.along.front; reads = along_end item after n i first s bytes all le p.along; places = p.places; ends = p.ends }
