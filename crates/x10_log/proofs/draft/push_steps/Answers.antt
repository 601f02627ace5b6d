use Rattle.std.proofs.Common.{arith}
use Rattle.x10_log.proofs.Repeats.{all_repeated, length_repeated}
use Rattle.x10_log.proofs.draft.push_steps.Goals as goal

pub returns-clause-ok : goal.returns-clause-ok
returns-clause-ok c = all_repeated c.args.keys.now.items c.loop.keys.items c.args.key c.args.count c.loop.counter c.loop.invariant
    c.loop.auto.counter-end c.loop-test.false

pub returns-clause-few : goal.returns-clause-few
returns-clause-few c = length_repeated c.args.keys.now.items c.loop.keys.items c.args.key c.args.count c.loop.counter c.loop.invariant
    c.loop.auto.counter-end (omega (arith, c.if-count-most.false, c.len-else-len-most.ensures, c.if-len-most.false, c.len.ensures))
