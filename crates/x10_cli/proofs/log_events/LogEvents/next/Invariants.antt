use Rattle.std.proofs.Common.{length, ◌-◌, ◌≡◌}
use Rattle.x10_cli.specs.Shown.{left_of_turns}
use Rattle.x10_cli.proofs.log_events.LogEvents.next.Given as goal

abbrev pub invariant-loop-self : goal.invariant-loop-self
invariant-loop-self l = (l.turns ≡ l.self-inside.turns.now)
    × (left_of_turns l.turns l.self-inside.turn l.self-inside.made.taken l.self-inside.made.steps ≡ l.fn.self)

abbrev pub decreases-loop-self : goal.decreases-loop-self
decreases-loop-self l = length l.turns - l.self-inside.turn
