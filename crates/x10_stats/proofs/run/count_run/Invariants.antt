use Rattle.std.specs.Prelude.{◌≡◌, ◌≢◌, true, List, length}
use Rattle.x10_model.specs.declared.event.Event.{Event}
use Rattle.x10_world.specs.Rounds.{RunsTo}
use Rattle.x10_schedule.specs.declared.schedule.Schedule.TheVariants as schedules
use Rattle.x10_stats.specs.Counts.{Counted, EachIsDue}
use Rattle.x10_stats.proofs.run.count_run.Given as goal

abbrev pub invariant-loop-made : goal.invariant-loop-made
invariant-loop-made l = record {
  runs : RunsTo l.initial.world l.world;
  events : List Event;
  count : length events ≡ l.made;
  counted : Counted l.initial.counts l.initial.world events l.counts l.world;
  goes : l.world.stopped ≢ true;
  due : l.scheduler ≢ schedules.Rounds → EachIsDue l.initial.counts l.initial.world events l.counts l.world counted;
  follows : l.scheduler ≡ l.initial.scheduler;
}
