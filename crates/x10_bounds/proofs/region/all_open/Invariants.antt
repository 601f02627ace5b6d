use Rattle.std.proofs.Common.{◌≡◌, length, ℕ, ◌<◌, Some, None}
use Rattle.std.specs.Prelude.{slice_get}
use Rattle.x10_bounds.proofs.region.all_open.Given as goal

abbrev pub invariant-loop : goal.invariant-loop
invariant-loop l = (length l.closers.items ≡ l.counter) × ((o : ℕ) → o < length l.closers.items → slice_get l.closers.items o ≡ Some None)
