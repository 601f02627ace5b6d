use Rattle.std.proofs.Common.{◌≡◌, ◌≤◌, ◌*◌, ℕ, length}
use Rattle.x10_finish.specs.Pairs.{pair_at, unequal_in, merged_to}
use Rattle.x10_finish.proofs.pairs.merge.Given as goal

abbrev pub invariant-loop-done : goal.invariant-loop-done
invariant-loop-done l = record {
  far : l._done ≤ l.at;
  within : l.at ≤ length l.sent;
  whole : length l.pairs ≡ length l.sent * length l.sent;
  unequal : l.unequal ≡ unequal_in l.home (length l.sent) l.pairs;
  pairs : (a b : ℕ) → pair_at (length l.sent) l.pairs a b
      ≡ merged_to l.place l.sent l.received l.at (pair_at (length l.sent) l.initial.pairs) a b;
}
