use Rattle.std.specs.Prelude.{◌≢◌, true}
use Rattle.x10_model.specs.Worlds as machine
use Rattle.x10_world.specs.StandsForWorld.{StandsForWorld, KeepsSetting}
use Rattle.x10_world.specs.Runs.{Runs}
use Rattle.x10_world.proofs.world.World.make.Given as goal

abbrev pub invariant-loop-done : goal.invariant-loop-done
invariant-loop-done l = record {
  goes : l.self.stopped ≢ true;
  kept : KeepsSetting l.fn.self l.self;
  runs : (w : machine.World) → StandsForWorld l.fn.self w → Runs l.fn.self w l.done l.events l.self;
}
