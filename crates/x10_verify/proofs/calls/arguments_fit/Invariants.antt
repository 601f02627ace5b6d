use Rattle.std.proofs.Common.{◌≡◌, ℕ, ◌<◌, ◌+◌, Some}
use Rattle.std.specs.Prelude.{slice_get}
use Rattle.x10_model.specs.declared.slot.Slot.{Slot}
use Rattle.x10_model.specs.Assignments.{FitsAs}
use Rattle.x10_verify.specs.Known.{state_of}
use Rattle.x10_verify.proofs.calls.arguments_fit.Given as goal

-- the arguments so far fit
abbrev pub invariant-loop-n : goal.invariant-loop-n
invariant-loop-n l = (k : ℕ) (slot : Slot) → k < l.n → slice_get l.signature.parameters k ≡ Some slot
    → FitsAs (state_of l.known) l.at (l.first + k) slot
