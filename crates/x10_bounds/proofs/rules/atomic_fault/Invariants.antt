use Rattle.std.proofs.Common.{◌≡◌, drop}
use Rattle.x10_model.specs.Structure.{around, stays_out, first_failing}
use Rattle.x10_bounds.proofs.rules.atomic_fault.Given as goal

abbrev pub invariant-loop-pc : goal.invariant-loop-pc
invariant-loop-pc l = first_failing (λ pc i. stays_out i.op (around l.code pc)) 0 l.code
    ≡ first_failing (λ pc i. stays_out i.op (around l.code pc)) l.pc (drop l.pc l.code)
