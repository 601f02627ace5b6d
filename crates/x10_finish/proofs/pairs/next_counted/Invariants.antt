use Rattle.std.proofs.Common.{◌≡◌, ◌≤◌, ◌<◌, ℕ, slice_index}
use Rattle.x10_finish.proofs.pairs.next_counted.Given as goal

abbrev pub invariant-loop-q : goal.invariant-loop-q
invariant-loop-q l = record {
  sent : (k : ℕ) → l.from ≤ k → k < l.q → slice_index l.sent k ≡ 0;
  received : (k : ℕ) → l.from ≤ k → k < l.q → slice_index l.received k ≡ 0;
}
