use Rattle.std.specs.Prelude.{◌≡◌, ◌≢◌, true}
use Rattle.x10_schedule.specs.declared.schedule.Schedule.TheVariants as schedules
use Rattle.x10_schedule.specs.Schedules.{Acts}
use Rattle.x10_world.specs.Rounds.{RunsIn}
use Rattle.x10_schedule.proofs.run.run_by.Given as goal

abbrev pub invariant-loop-made : goal.invariant-loop-made
invariant-loop-made l = record {
  runs : RunsIn l.initial.world l.made l.world;
  goes : l.world.stopped ≢ true;
  acts : l.scheduler ≢ schedules.Rounds → Acts l.initial.world l.made l.world;
  follows : l.scheduler ≡ l.initial.scheduler;
}
