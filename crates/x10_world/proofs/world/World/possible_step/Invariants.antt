use Rattle.std.specs.Prelude.{ℕ, ◌<◌}
use Rattle.x10_world.specs.Happenings.{AllIdle}
use Rattle.x10_world.proofs.world.World.possible_step.Given as goal

abbrev pub invariant-loop-place : goal.invariant-loop-place
invariant-loop-place l = (id : ℕ) → id < l.place → AllIdle l.self id
