use Rattle.std.proofs.Common.{arith}
use Rattle.x10_asm.proofs.LinesAndWords.{count_other, count_here, count_end}
use Rattle.x10_asm.proofs.split.position_of.Goals as goal

pub loop-at-preserved : goal.loop-at-preserved
loop-at-preserved c = omega (
  arith,
  count_other c.args.byte c.args.bytes.now c.loop-at.at c.loop-at-test.true c.if-bytes-at.false,
  c.loop-at.invariant,
)

pub returns-then-bytes-at-clause-at : goal.returns-then-bytes-at-clause-at
returns-then-bytes-at-clause-at c = omega (
  arith,
  c.loop-at.invariant,
  count_here c.args.byte c.args.bytes.now c.loop-at.at c.loop-at-test.true c.if-bytes-at.true,
)

pub returns-clause-at : goal.returns-clause-at
returns-clause-at c = omega (arith, c.loop-at.invariant, count_end c.args.byte c.args.bytes.now c.loop-at.at c.loop-at-test.false)
