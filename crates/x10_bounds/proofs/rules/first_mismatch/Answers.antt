use Rattle.std.proofs.Common.{sym}
use Rattle.x10_model.specs.Structure.{around, nests}
use Rattle.x10_bounds.proofs.FirstFailure.{goes_on, fails}
use Rattle.x10_bounds.proofs.rules.first_mismatch.Goals as goal

pub returns-then-not-nests : goal.returns-then-not-nests
returns-then-not-nests c = sym (fails (λ pc i. nests i.op (around c.args.code.now pc)) c.args.code.now c.loop-pc.pc c.nests.result _
    c.loop-pc-test.true c.nests.ensures c.if-not-nests.true c.loop-pc.invariant)

pub loop-pc-preserved : goal.loop-pc-preserved
loop-pc-preserved c = goes_on (λ pc i. nests i.op (around c.args.code.now pc)) c.args.code.now c.loop-pc.pc c.nests.result _ c.loop-pc-test.true
    c.nests.ensures c.if-not-nests.false c.loop-pc.invariant
