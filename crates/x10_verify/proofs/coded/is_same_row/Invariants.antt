use Rattle.std.proofs.Common.{◌≡◌, ◌↔◌, ◌<◌, ℕ, IsTrue, slice_index}
use Rattle.x10_verify.proofs.coded.is_same_row.Given as goal

abbrev pub invariant-loop-register : goal.invariant-loop-register
invariant-loop-register l = IsTrue l.same ↔ ((i : ℕ) → i < l.register → slice_index l.one i ≡ slice_index l.other i)
