use Rattle.std.proofs.Common.{sym}
use Rattle.x10_model.specs.Structure.{around, has_slot}
use Rattle.x10_bounds.proofs.FirstFailure.{goes_on, fails}
use Rattle.x10_bounds.proofs.rules.slot_fault.Goals as goal

pub returns-then-not-has_slot : goal.returns-then-not-has_slot
returns-then-not-has_slot c = sym (fails (λ pc i. has_slot c.args.loops (around c.args.code.now pc) i i.op) c.args.code.now c.loop-pc.pc
    c.has_slot.result _ c.loop-pc-test.true c.has_slot.ensures c.if-not-has_slot.true c.loop-pc.invariant)

pub loop-pc-preserved : goal.loop-pc-preserved
loop-pc-preserved c = goes_on (λ pc i. has_slot c.args.loops (around c.args.code.now pc) i i.op) c.args.code.now c.loop-pc.pc c.has_slot.result _
    c.loop-pc-test.true c.has_slot.ensures c.if-not-has_slot.false c.loop-pc.invariant
