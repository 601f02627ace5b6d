use Rattle.std.specs.Prelude.{decimal, slice_index}
use Rattle.std.specs.String.{string_bytes}
use Rattle.x10_states.proofs.Elements.{one_more}
use Rattle.x10_states.proofs.heap.push_bytes.Goals as goal

pub loop-i-preserved : goal.loop-i-preserved
loop-i-preserved c = one_more c.loop-i.i (λ i. decimal (slice_index c.args.bytes.now i)) (string_bytes c.args.out.now)
    (string_bytes c.loop-i.out) (string_bytes c.push_byte.new.out) c.loop-i.invariant c.in_ok-push_byte.ensures
