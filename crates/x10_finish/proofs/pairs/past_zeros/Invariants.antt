use Rattle.std.proofs.Common.{◌≡◌, ◌≤◌, ◌<◌, ℕ, length, slice_index}
use Rattle.x10_finish.proofs.pairs.past_zeros.Given as goal

abbrev pub invariant-loop : goal.invariant-loop
invariant-loop l = record {
  past : l.from ≤ l.at;
  within : l.at ≤ length l.sent;
  sent : (k : ℕ) → l.from ≤ k → k < l.at → slice_index l.sent k ≡ 0;
  received : (k : ℕ) → l.from ≤ k → k < l.at → slice_index l.received k ≡ 0;
}
