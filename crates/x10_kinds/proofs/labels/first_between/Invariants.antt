use Rattle.std.proofs.Common.{◌≡◌, ◌≢◌, ℕ, ◌<◌, ◌≤◌, slice_index}
use Rattle.x10_kinds.proofs.labels.first_between.Given as goal

abbrev pub invariant-loop-first : goal.invariant-loop-first
invariant-loop-first l = (i : ℕ) → l.from ≤ i → i < l.first → slice_index l.a i ≡ slice_index l.a l.at → slice_index l.b i ≢ slice_index l.b l.at
