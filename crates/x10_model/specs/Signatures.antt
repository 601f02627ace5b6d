-- Which values fit a signature or a class, by whatever says of which kind a value is.
use Rattle.std.specs.Prelude.{◌≡◌, ℕ, IsTrue, List}
use Rattle.x10_kinds.specs.declared.kind.Kind.{Kind}
use Rattle.x10_model.specs.Maps.{Pairwise}
use Rattle.x10_model.specs.declared.slot.Slot.{Slot}
use Rattle.x10_model.specs.Values.{Value, Ref}

-- a global reference whose home is the place
abbrev pub HasHome : ℕ → Value → Type 0
HasHome at (Ref home id class) = home ≡ at
HasHome at _ = ⊥

-- the value is of the slot's kind, and where the slot asks for a home here, that is the place at
pub record FitsSlotAt (of_kind : Value → Kind → Type 0) (at : ℕ) (v : Value)
    (slot : Slot) : Type 0 where
  pub kind : of_kind v slot.kind
  pub home : IsTrue slot.home_here → HasHome at v

-- one value for each slot, and each fits
abbrev pub FitSlots : (Value → Kind → Type 0) → ℕ → List Value → List Slot → Type 0
FitSlots of_kind at values slots = Pairwise (FitsSlotAt of_kind at) values slots

-- one value for each kind, and each is of it
abbrev pub AreOfKinds : (Value → Kind → Type 0) → List Value → List Kind → Type 0
AreOfKinds of_kind values kinds = Pairwise of_kind values kinds
