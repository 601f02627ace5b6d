use Rattle.std.proofs.Common.{◌≡◌, ℕ, ◌<◌, Some, length}
use Rattle.x10_model.specs.Modules.{Function}
use Rattle.x10_model.specs.Ranges.{function_at}
use Rattle.x10_verify.specs.Verdict.{AreInRangeTo}
use Rattle.x10_verify.proofs.whole.check_ranges.Given as goal

abbrev pub invariant-loop-function : goal.invariant-loop-function
invariant-loop-function l = (g : ℕ) (function : Function) → g < l.function → function_at l.image g ≡ Some function
    → AreInRangeTo l.image function (length function.code)
