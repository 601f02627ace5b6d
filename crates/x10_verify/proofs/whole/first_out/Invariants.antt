use Rattle.std.proofs.Common.{◌≡◌, Some}
use Rattle.x10_model.specs.Modules.{Function}
use Rattle.x10_model.specs.Ranges.{function_at}
use Rattle.x10_verify.specs.Verdict.{AreInRangeTo}
use Rattle.x10_verify.proofs.whole.first_out.Given as goal

abbrev pub invariant-loop-pc : goal.invariant-loop-pc
invariant-loop-pc l = (function : Function) → function_at l.image l.f ≡ Some function → AreInRangeTo l.image function l.pc
