use Rattle.std.specs.Prelude.{◌≢◌, true, take}
use Rattle.x10_workers.specs.Plays.{TakesFrames}
use Rattle.x10_workers.proofs.turns.take_all.Given as goal

abbrev pub invariant-loop-at : goal.invariant-loop-at
invariant-loop-at l = TakesFrames l.fn.world l.place (take l.at l.taken) l.world × (l.world.stopped ≢ true)
