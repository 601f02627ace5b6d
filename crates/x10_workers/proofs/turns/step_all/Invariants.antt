use Rattle.std.specs.Prelude.{◌≢◌, true, take}
use Rattle.x10_workers.specs.Plays.{StepsAll}
use Rattle.x10_workers.proofs.turns.step_all.Given as goal

abbrev pub invariant-loop-at : goal.invariant-loop-at
invariant-loop-at l = StepsAll l.fn.world l.place (take l.at l.keys) l.world × (l.world.stopped ≢ true)
