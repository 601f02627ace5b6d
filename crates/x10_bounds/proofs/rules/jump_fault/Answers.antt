use Rattle.std.proofs.Common.{sym}
use Rattle.x10_model.specs.Structure.{jumps_well}
use Rattle.x10_bounds.proofs.FirstFailure.{goes_on, fails}
use Rattle.x10_bounds.proofs.rules.jump_fault.Goals as goal

pub returns-then-not-jumps_well : goal.returns-then-not-jumps_well
returns-then-not-jumps_well c = sym (fails (λ pc i. jumps_well c.args.code.now pc i i.op) c.args.code.now c.loop-pc.pc c.jumps_well.result _
    c.loop-pc-test.true c.jumps_well.ensures c.if-not-jumps_well.true c.loop-pc.invariant)

pub loop-pc-preserved : goal.loop-pc-preserved
loop-pc-preserved c = goes_on (λ pc i. jumps_well c.args.code.now pc i i.op) c.args.code.now c.loop-pc.pc c.jumps_well.result _ c.loop-pc-test.true
    c.jumps_well.ensures c.if-not-jumps_well.false c.loop-pc.invariant
