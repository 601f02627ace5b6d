use Rattle.std.proofs.Common.{◌-◌, length}
use Rattle.std.specs.Prelude.{slice_get}
use Rattle.std.specs.String.{string_bytes}
use Rattle.x10_states.specs.Stays.{frame_if}
use Rattle.x10_states.proofs.Elements.{one_behind}
use Rattle.x10_states.proofs.stays.push_callers.Goals as goal

pub loop-i-preserved : goal.loop-i-preserved
loop-i-preserved c = one_behind c.loop-i.i
    (λ i. frame_if c.args.kinds.now c.args.heap.now (slice_get c.args.stay.now.callers (length c.args.stay.now.callers - 1 - i)))
    (string_bytes c.args.out.now) (string_bytes c.loop-i.out) (string_bytes c.push_caller.new.out) c.loop-i.invariant c.in_ok-push_caller.ensures
