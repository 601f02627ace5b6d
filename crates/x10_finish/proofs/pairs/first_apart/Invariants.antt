use Rattle.std.proofs.Common.{◌≡◌, ◌<◌, ℕ, true}
use Rattle.x10_finish.specs.Pairs.{pair_at, agreed}
use Rattle.x10_finish.proofs.pairs.first_apart.Given as goal

abbrev pub invariant-loop-q : goal.invariant-loop-q
invariant-loop-q l = (k : ℕ) → k < l.q → agreed l.home (pair_at l.places l.pairs) l.sent l.received k ≡ true
