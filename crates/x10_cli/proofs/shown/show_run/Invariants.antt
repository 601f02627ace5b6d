use Rattle.std.specs.Prelude.{◌≡◌, ◌≤◌, ◌⊎◌, ◌+◌, List, length}
use Rattle.x10_model.specs.declared.event.Event.{Event}
use Rattle.x10_cli.specs.Showing.{Follows, Tells, manner_of}
use Rattle.x10_cli.proofs.shown.show_run.Given as goal

abbrev pub invariant-loop-made : goal.invariant-loop-made
invariant-loop-made g l = record {
  same : manner_of l.show ≡ manner_of l.initial.show;
  follows : Follows l.show l.world;
  events : List Event;
  tells : Tells (manner_of l.initial.show) l.initial.world events l.world (g.O.Write.contents l.initial.out) (g.O.Write.contents l.out);
  count : l.skipped + length events ≡ l.made;
  few : (l.skipped + length events ≤ l.last) ⊎ (length events ≡ 0);
}
