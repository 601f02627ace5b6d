use Rattle.std.proofs.Common.{◌≡◌, ℕ, ◌<◌, ◌≤◌, ◌%◌, get_or}
use Rattle.x10_hall.proofs.keys.recurs.Given as goal

abbrev pub invariant-loop-at : goal.invariant-loop-at
invariant-loop-at l = record {
  past : l.period ≤ l.at;
  again : (k : ℕ) → k < l.at → get_or l.keys k 0 ≡ get_or l.keys (k % l.period) 0;
}
