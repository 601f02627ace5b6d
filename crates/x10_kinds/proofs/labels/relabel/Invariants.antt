use Rattle.std.proofs.Common.{◌≡◌, ℕ, ◌<◌, ◌≤◌, ◌==◌, slice_index, if◌then◌else◌}
use Rattle.x10_kinds.proofs.labels.relabel.Given as goal

abbrev pub invariant-loop-label : goal.invariant-loop-label
invariant-loop-label l = record {
  replaced : (k : ℕ) → k < l.label-index → slice_index l.labels k ≡ (if slice_index l.fn.labels k == l.from then l.to else slice_index l.fn.labels k);
  same : (k : ℕ) → l.label-index ≤ k → slice_index l.labels k ≡ slice_index l.fn.labels k;
}
