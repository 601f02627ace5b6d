use Rattle.std.proofs.Common.{◌≡◌, ◌+◌, ◌<◌, ℕ, slice_index}
use Rattle.x10_finish.proofs.pairs.has_counted.Given as goal

abbrev pub invariant-loop-q : goal.invariant-loop-q
invariant-loop-q l = record {
  sent : l.all ≡ 0 → (k : ℕ) → k < l.q → slice_index l.sent (l.from + k) ≡ 0;
  received : l.all ≡ 0 → (k : ℕ) → k < l.q → slice_index l.received (l.from + k) ≡ 0;
}
