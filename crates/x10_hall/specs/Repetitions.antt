-- A list in which an item that comes again and again is kept once.
use Rattle.std.specs.Prelude.{◌≡◌, ℕ, ◌-◌, ◌<◌, List, [], ◌∷◌, ◌++◌, Option, Some, None, refl, slice_get, length}
use Rattle.std.specs.Coded.{Coded, code_by, coded_list}
use Rattle.std.specs.List.{AllByRecursion}

-- the items, one after another
pub record Items (T : Type 0) : Type 0 where
  pub items : List T

-- it is stored as these
abbrev pub items_code : {T : Type 0} → Coded T → Coded (Items T)
items_code {T} code = code_by (List T) (coded_list code) (λ r. r.items)
    (λ xs. record { items = xs }) (λ _. refl)

module _ {X : Type 0} where
  -- an item, if there is one
  abbrev pub some_one : Option X → List X
  some_one None = []
  some_one (Some x) = x ∷ []

  -- what stands at some positions of a list
  abbrev pub picked : List X → List ℕ → List X
  picked xs [] = []
  picked xs (i ∷ is) = some_one (slice_get xs i) ++ picked xs is

-- these are positions of a list of so many
abbrev pub AreWithin : ℕ → List ℕ → Type 0
AreWithin count order = AllByRecursion (λ i. i < count) order

-- an item is the last one of a list
abbrev pub IsLast : {X : Type 0} → List X → X → Type 0
IsLast xs x = slice_get xs (length xs - 1) ≡ Some x
