use Rattle.std.proofs.Common.{◌≡◌, drop}
use Rattle.x10_model.specs.Structure.{jumps_well, first_failing}
use Rattle.x10_bounds.proofs.rules.jump_fault.Given as goal

abbrev pub invariant-loop-pc : goal.invariant-loop-pc
invariant-loop-pc l = first_failing (λ pc i. jumps_well l.code pc i i.op) 0 l.code
    ≡ first_failing (λ pc i. jumps_well l.code pc i i.op) l.pc (drop l.pc l.code)
