use Rattle.std.proofs.Common.{sym}
use Rattle.x10_model.specs.Structure.{around, stays_out}
use Rattle.x10_bounds.proofs.FirstFailure.{goes_on, fails}
use Rattle.x10_bounds.proofs.rules.atomic_fault.Goals as goal

pub returns-then-not-stays_out : goal.returns-then-not-stays_out
returns-then-not-stays_out c = sym (fails (λ pc i. stays_out i.op (around c.args.code.now pc)) c.args.code.now c.loop-pc.pc c.stays_out.result _
    c.loop-pc-test.true c.stays_out.ensures c.if-not-stays_out.true c.loop-pc.invariant)

pub loop-pc-preserved : goal.loop-pc-preserved
loop-pc-preserved c = goes_on (λ pc i. stays_out i.op (around c.args.code.now pc)) c.args.code.now c.loop-pc.pc c.stays_out.result _
    c.loop-pc-test.true c.stays_out.ensures c.if-not-stays_out.false c.loop-pc.invariant
