-- What the verifier keeps of a state: a kind, or none, for each of 64 registers, and the equations.
use Rattle.std.specs.Prelude.{◌≡◌, ◌==◌, ◌/◌, ◌%◌, ℕ, if◌then◌else◌, List, Option, Some, None, IsTrue, slice_get}
use Rattle.x10_kinds.specs.declared.kind.Kind.{Kind}
use Rattle.x10_kinds.specs.declared.kind.Kind.TheVariants as kind
use Rattle.x10_kinds.specs.Equations.{equations}
use Rattle.x10_model.specs.declared.slot.Slot.{Slot}
use Rattle.x10_model.specs.Modules.{takes_flag}
use Rattle.x10_model.specs.Assignments.{State, parameter_kind, homes_here}
use Rattle.x10_verify.specs.declared.known.Known.{Known}

-- the kind of a case, by its number, and a class
abbrev pub kind_by : ℕ → ℕ → Option Kind
kind_by case class =
    if case == 0 then None else
    if case == 1 then Some kind.Int else
    if case == 2 then Some kind.Place else
    if case == 3 then Some kind.Text else
    if case == 4 then Some kind.Rail else
    if case == 5 then Some (kind.Obj class) else
    if case == 6 then Some (kind.Opt class) else Some (kind.GRef class)

-- the kind that a number of a row stands for, or none: its case below, its class above
unfoldable pub kind_coded : ℕ → Option Kind
kind_coded number = kind_by (number % 65536) (number / 65536)

-- the entry of a row, and none past its end
abbrev pub coded_if : Option ℕ → Option Kind
coded_if None = None
coded_if (Some number) = kind_coded number

abbrev pub kind_in : List ℕ → ℕ → Option Kind
kind_in kinds r = coded_if (slice_get kinds r)

abbrev pub state_of : Known → State
state_of k = record { kinds = kind_in k.kinds; homes = equations k.homes }

-- the state at the entry of a function with these parameters
abbrev pub entered : List Slot → State
entered parameters = record {
  kinds = λ r. parameter_kind (slice_get parameters r);
  homes = homes_here 0 parameters;
}

-- only global references are said to have their home here
abbrev pub FlagsFit : List Slot → Type 0
FlagsFit parameters = (i : ℕ) (slot : Slot) → slice_get parameters i ≡ Some slot
    → IsTrue slot.home_here → IsTrue (takes_flag slot.kind)
