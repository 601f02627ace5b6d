use Rattle.std.proofs.Common.{arith}
use Rattle.x10_verify.proofs.Wholes.{all_lengths, length_more, length_one}
use Rattle.x10_verify.proofs.whole.longest.Goals as goal

pub loop-function-preserved : goal.loop-function-preserved
loop-function-preserved c = rw c.max-longest.ensures record {
  each = length_more c.args.image.now c.loop-function.function c.loop-function.longest c.code_len.result c.loop-function.invariant.each
      c.code_len.ensures.value;
  one = length_one c.args.image.now c.loop-function.function c.loop-function.longest c.code_len.result c.loop-function.invariant.one
      c.code_len.ensures.value;
}

pub returns-clause-each : goal.returns-clause-each
returns-clause-each c = all_lengths c.args.image.now c.loop-function.function c.loop-function.longest (omega arith) c.loop-function.invariant.each
