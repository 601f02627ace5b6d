use Rattle.std.proofs.Common.{◌≡◌, ℕ, ◌<◌, Some, length}
use Rattle.x10_model.specs.Modules.{Function}
use Rattle.x10_model.specs.Ranges.{function_at}
use Rattle.x10_verify.specs.Least.{HasLeast}
use Rattle.x10_verify.specs.Printing.{AreNoted, HasRows, bit_at}
use Rattle.x10_verify.specs.States.{IsFresh}
use Rattle.x10_verify.proofs.whole.check_flow.Given as goal

abbrev pub invariant-loop-function : goal.invariant-loop-function
invariant-loop-function l = record {
  assigned : (g : ℕ) (function : Function) → g < l.function → function_at l.image g ≡ Some function → HasLeast l.image function;
  rows : HasRows l.image l.rows.items;
  noted : (g : ℕ) → g < l.function → AreNoted l.image (bit_at l.rows.items g) g;
  fresh : IsFresh l.table.items;
  size : length l.table.items ≡ length l.fn.table.items;
}
