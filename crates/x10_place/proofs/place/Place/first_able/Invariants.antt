use Rattle.std.specs.Prelude.{ℕ, ◌<◌}
use Rattle.x10_place.specs.StandsFor.{IsIdleAt}
use Rattle.x10_place.proofs.place.Place.first_able.Given as goal

abbrev pub invariant-loop-key : goal.invariant-loop-key
invariant-loop-key l = (k : ℕ) → k < l.key → IsIdleAt l.self k
