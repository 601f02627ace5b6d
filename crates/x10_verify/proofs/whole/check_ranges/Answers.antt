use Rattle.std.proofs.Common.{arith, length}
use Rattle.x10_verify.specs.Verdict.{AreInRangeTo}
use Rattle.x10_verify.proofs.Wholes.{first_out_is, functions_more, all_in_range}
use Rattle.x10_verify.proofs.whole.check_ranges.Goals as goal

pub returns-in-Some-clause-err : goal.returns-in-Some-clause-err
returns-in-Some-clause-err c = first_out_is c.args.image.now c.loop-function.function c.in-Some.pc
    (omega arith) c.loop-function.invariant c.in-Some.ensures.first

pub loop-function-preserved : goal.loop-function-preserved
loop-function-preserved c = functions_more c.args.image.now (λ function. AreInRangeTo c.args.image.now function (length function.code))
    c.loop-function.function c.loop-function.invariant c.in_default.ensures.first

pub returns-clause-ok : goal.returns-clause-ok
returns-clause-ok c = all_in_range c.args.image.now c.loop-function.function (omega arith) c.loop-function.invariant
