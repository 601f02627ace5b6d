use Rattle.std.proofs.Common.{◌≡◌, drop}
use Rattle.x10_model.specs.Structure.{calls_earlier, first_failing}
use Rattle.x10_bounds.proofs.rules.order_fault.Given as goal

abbrev pub invariant-loop-pc : goal.invariant-loop-pc
invariant-loop-pc l = first_failing (λ pc i. calls_earlier l.function i) 0 l.code
    ≡ first_failing (λ pc i. calls_earlier l.function i) l.pc (drop l.pc l.code)
