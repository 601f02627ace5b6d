use Rattle.std.proofs.Common.{◌≡◌, ℕ, ◌<◌, ◌≤◌, None, length}
use Rattle.std.specs.Prelude.{slice_get}
use Rattle.x10_verify.specs.States.{state_in}
use Rattle.x10_verify.proofs.states.clear.Given as goal

abbrev pub invariant-loop-at : goal.invariant-loop-at
invariant-loop-at l = record {
  cleared : (q : ℕ) → q < l.at → state_in (slice_get l.table.items q) ≡ None;
  rest : (q : ℕ) → l.at ≤ q → slice_get l.table.items q ≡ slice_get l.fn.table.items q;
  size : length l.table.items ≡ length l.fn.table.items;
}
