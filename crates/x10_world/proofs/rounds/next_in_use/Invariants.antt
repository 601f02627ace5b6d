use Rattle.std.specs.Prelude.{◌≡◌, ℕ, ◌<◌, ◌≤◌, Some, slice_get}
use Rattle.x10_world.specs.Rounds.{IsPresent}
use Rattle.x10_world.proofs.rounds.next_in_use.Given as goal

-- those before the position are gone
abbrev pub invariant-loop-position : goal.invariant-loop-position
invariant-loop-position l = (i key : ℕ) → l.from ≤ i → i < l.position → slice_get l.keys i ≡ Some key → IsPresent l.world l.place key → ⊥
