use Rattle.std.specs.Prelude.{◌≢◌, true, take}
use Rattle.x10_workers.specs.Plays.{Plays}
use Rattle.x10_workers.proofs.auditing.replay_log.Given as goal

abbrev pub invariant-loop-at : goal.invariant-loop-at
invariant-loop-at l = Plays l.fn.world (take l.at l.log.items) l.world × (l.world.stopped ≢ true)
