use Rattle.std.proofs.Common.{subst, arith}
use Rattle.std.proofs.lemmas.List.{take_more}
use Rattle.x10_model.specs.Worlds as machine
use Rattle.x10_world.specs.StandsForWorld.{StandsForWorld}
use Rattle.x10_world.specs.Runs.{Runs}
use Rattle.x10_world.proofs.RunLemmas.{keeps_more, keeps_self, if_ok}
use Rattle.x10_world.proofs.EventRuns.{follows_by, through_none, runs_more}
use Rattle.x10_world.proofs.world.World.make.Goals as goal

pub make_one-requires : goal.make_one-requires
make_one-requires c = c.loop-done.invariant.goes

pub loop-done-init : goal.loop-done-init
loop-done-init c = record { goes = c.requires; kept = keeps_self c.args.self.now; runs = through_none c.args.self.now }

pub loop-done-preserved : goal.loop-done-preserved
loop-done-preserved c = record {
  goes = if_ok c.make_one.result _ c.make_one.ensures.goes c.in_default.not-Err;
  kept = keeps_more c.args.self.now c.loop-done.self c.make_one.new.self c.loop-done.invariant.kept c.make_one.ensures.kept;
  runs = runs_more c.args.self.now c.loop-done.self c.make_one.new.self c.args.events.now c.loop-done.done _ c.loop-done.invariant.kept
      (follows_by c.loop-done.self c.make_one.new.self _ c.make_one.result c.make_one.ensures.told c.make_one.ensures.kept c.make_one.ensures.goes
      c.in_default.not-Err)
      (take_more c.args.events.now c.loop-done.done _ c.loop-done-test.true) c.loop-done.invariant.runs
      (if_ok c.make_one.result _ c.make_one.ensures.ok c.in_default.not-Err);
}

pub returns-clause-runs : goal.returns-clause-runs
returns-clause-runs c = λ none. subst (λ n. (w : machine.World) → StandsForWorld c.args.self.now w
    → Runs c.args.self.now w n c.args.events.now c.loop-done.self)
    (omega (arith, c.loop-done-test.false, c.loop-done.auto.done-end)) c.loop-done.invariant.runs
