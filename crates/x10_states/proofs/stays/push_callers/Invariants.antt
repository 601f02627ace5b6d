use Rattle.std.proofs.Common.{◌≡◌, ◌++◌, ◌-◌, length}
use Rattle.std.specs.Prelude.{slice_get}
use Rattle.std.specs.String.{string_bytes}
use Rattle.x10_states.specs.Json.{others}
use Rattle.x10_states.specs.Stays.{frame_if}
use Rattle.x10_states.proofs.stays.push_callers.Given as goal

abbrev pub invariant-loop-i : goal.invariant-loop-i
invariant-loop-i l = string_bytes l.out ≡ string_bytes l.initial.out
    ++ others l.i (λ i. frame_if l.kinds l.heap (slice_get l.stay.callers (length l.stay.callers - 1 - i)))
