use Rattle.std.specs.Prelude.{◌≡◌, List, length}
use Rattle.x10_model.specs.declared.event.Event.{Event}
use Rattle.x10_cli.specs.Events.{Skips}
use Rattle.x10_cli.proofs.shown.skip_events.Given as goal

abbrev pub invariant-loop-made : goal.invariant-loop-made
invariant-loop-made l = record {
  events : List Event;
  skips : Skips l.initial.world events l.world;
  count : length events ≡ l.made;
}
