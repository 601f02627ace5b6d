use Rattle.std.proofs.Common.{subst, arith, take_all}
use Rattle.x10_workers.specs.Plays.{plays_none, Plays}
use Rattle.x10_workers.proofs.PlayLemmas.{plays_next}
use Rattle.x10_workers.proofs.WorkLemmas.{take_seen}
use Rattle.x10_workers.proofs.auditing.replay_log.Goals as goal

pub loop-at-init : goal.loop-at-init
loop-at-init c = (plays_none, c.requires)

pub loop-at-preserved : goal.loop-at-preserved
loop-at-preserved c = (
  plays_next c.args.world.now c.loop-at.world c.replay_turn.new.world c.args.log.now.items c.loop-at.at c.at.result.now
      (take_seen c.args.log.now.items c.loop-at.at c.at.result.now c.at.ensures) c.loop-at.invariant.0
      (c.in-Ok-true.ensures.plays c.in-Ok-true.field-0-test),
  c.in-Ok-true.ensures.goes,
)

pub returns-clause-plays : goal.returns-clause-plays
returns-clause-plays c = subst (λ ts. Plays c.args.world.now ts c.loop-at.world)
    (take_all c.loop-at.at c.args.log.now.items (omega (arith, c.loop-at-test.false, c.len-at-end.ensures))) c.loop-at.invariant.0
