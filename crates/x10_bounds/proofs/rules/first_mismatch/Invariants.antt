use Rattle.std.proofs.Common.{◌≡◌, drop}
use Rattle.x10_model.specs.Structure.{around, nests, first_failing}
use Rattle.x10_bounds.proofs.rules.first_mismatch.Given as goal

abbrev pub invariant-loop-pc : goal.invariant-loop-pc
invariant-loop-pc l = first_failing (λ pc i. nests i.op (around l.code pc)) 0 l.code
    ≡ first_failing (λ pc i. nests i.op (around l.code pc)) l.pc (drop l.pc l.code)
