use Rattle.std.specs.Prelude.{◌≡◌, ℕ, ◌<◌, ◌≤◌, None}
use Rattle.slab.specs.Slab.{get}
use Rattle.x10_place.proofs.place.Place.next_key.Given as goal

abbrev pub invariant-loop-key : goal.invariant-loop-key
invariant-loop-key l = (k : ℕ) → l.from ≤ k → k < l.key → get l.self-inside.ground.stays k ≡ None
