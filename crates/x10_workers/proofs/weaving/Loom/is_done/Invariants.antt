use Rattle.std.specs.Prelude.{◌≡◌, ℕ, ◌<◌, Some, length, slice_get}
use Rattle.x10_workers.specs.declared.trail.Trail.{Trail}
use Rattle.x10_workers.proofs.weaving.Loom.is_done.Given as goal

abbrev pub invariant-loop-at : goal.invariant-loop-at
invariant-loop-at l = (id : ℕ) (t : Trail) → id < l.at → slice_get l.trails id ≡ Some t → slice_get l.self.cursors.items id ≡ Some (length t.turns)
