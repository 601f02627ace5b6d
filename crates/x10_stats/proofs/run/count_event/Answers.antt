use Rattle.x10_world.proofs.RunCounts.{runs_event, runs_self, runs_still}
use Rattle.x10_stats.proofs.run.count_event.Goals as goal

pub returns-in_err-prepare-clause-runs : goal.returns-in_err-prepare-clause-runs
returns-in_err-prepare-clause-runs c = runs_self c.args.world.now

pub returns-in_err-done-clause-runs : goal.returns-in_err-done-clause-runs
returns-in_err-done-clause-runs c = runs_still c.args.world.now c.event.new.self c.event.ensures.kept c.in_err-done.ensures.left

pub returns-clause-runs : goal.returns-clause-runs
returns-clause-runs c = runs_event c.args.world.now c.event.new.self c.args.event c.event.ensures.kept c.in_ok-done.ensures.ok
