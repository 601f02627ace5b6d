use Rattle.std.specs.Prelude.{◌≡◌, ◌≢◌, true, ◌+◌, ◌-◌, ◌++◌, ◌⊎◌, List, length, option_map}
use Rattle.x10_model.specs.declared.event.Event.{Event}
use Rattle.x10_cli.specs.Showing.{Follows, Tells, manner_of}
use Rattle.x10_cli.specs.Windows.{IsWithin}
use Rattle.x10_cli.proofs.log_shown.show_turns.Given as goal

abbrev pub invariant-loop-event : goal.invariant-loop-event
invariant-loop-event g l = record {
  same : manner_of l.show ≡ manner_of l.initial.show;
  follows : Follows l.show l.world;
  made : List Event;
  split : made ++ l.events ≡ l.initial.events;
  goes : l.world.stopped ≢ true;
  tells : Tells (manner_of l.initial.show) l.initial.world made l.world (g.O.Write.contents l.initial.out) (g.O.Write.contents l.out);
  left : l.left ≡ option_map (λ to. to - (l.skipped + length made)) l.fn.window.to;
  within : IsWithin l.fn.window.to (l.skipped + length made) ⊎ (length made ≡ 0);
}

abbrev pub decreases-loop-event : goal.decreases-loop-event
decreases-loop-event g l = length l.events
