use Rattle.std.specs.Prelude.{slice_index}
use Rattle.std.specs.String.{string_bytes}
use Rattle.x10_states.specs.Frames.{register_text}
use Rattle.x10_states.specs.Kinds.{known_kind}
use Rattle.x10_states.proofs.Elements.{one_more}
use Rattle.x10_states.proofs.frames.push_registers.Goals as goal

pub loop-i-preserved : goal.loop-i-preserved
loop-i-preserved c = one_more c.loop-i.i
    (λ i. register_text c.args.heap.now (slice_index c.args.registers.now i)
    (known_kind c.args.kinds.now c.args.frame.now.function c.args.frame.now.pc (slice_index c.args.registers.now i))
    (slice_index c.args.frame.now.registers.items (slice_index c.args.registers.now i)))
    (string_bytes c.args.out.now) (string_bytes c.loop-i.out) (string_bytes c.push_listed.new.out) c.loop-i.invariant c.in_ok-push_listed.ensures
