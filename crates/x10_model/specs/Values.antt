-- Values, each with its tag, and the heap of a place.
use Rattle.std.specs.Prelude.{◌≡◌, ℕ, ℤ, List, Option, Some}
use Rattle.x10_kinds.specs.declared.kind.Kind.{Kind}
use Rattle.x10_kinds.specs.declared.kind.Kind.TheVariants as kind

-- rails and objects are references of one place
pub data Value : Type 0 where
  Int : ℤ → Value
  Place : ℕ → Value
  Text : List ℕ → Value
  Rail : ℕ → Value
  Object : ℕ → Value
  Null : Value
  Ref : (home id class : ℕ) → Value

-- what a reference leads to: an object with its class and fields, or the bytes of a rail
pub data Cell : Type 0 where
  Fields : ℕ → List Value → Cell
  Bytes : List ℕ → Cell

abbrev pub Cells : Type 0
Cells = ℕ → Option Cell

-- the reference leads to an object of the class
abbrev pub IsObjectOf : Cells → ℕ → ℕ → Type 0
IsObjectOf cells reference class = (fields : List Value)
    × (cells reference ≡ Some (Fields class fields))

-- the reference leads to a rail
abbrev pub IsRail : Cells → ℕ → Type 0
IsRail cells reference = (bytes : List ℕ) × (cells reference ≡ Some (Bytes bytes))

-- The value is of the kind, where it is known which references lead to rails, and to objects of which class.
abbrev pub IsOfKindBy : (ℕ → Type 0) → (ℕ → ℕ → Type 0) → Value → Kind → Type 0
IsOfKindBy rail object (Int z) kind.Int = Unit {0}
IsOfKindBy rail object (Place p) kind.Place = Unit {0}
IsOfKindBy rail object (Text t) kind.Text = Unit {0}
IsOfKindBy rail object (Rail r) kind.Rail = rail r
IsOfKindBy rail object (Object r) (kind.Obj c) = object r c
IsOfKindBy rail object (Object r) (kind.Opt c) = object r c
IsOfKindBy rail object Null (kind.Opt c) = Unit {0}
IsOfKindBy rail object (Ref home id class) (kind.GRef c) = class ≡ c
IsOfKindBy rail object _ _ = ⊥

-- the value is of the kind in a heap
abbrev pub IsOfKind : Cells → Value → Kind → Type 0
IsOfKind cells v kind = IsOfKindBy (IsRail cells) (IsObjectOf cells) v kind
