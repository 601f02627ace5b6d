use Rattle.std.proofs.Common.{◌≡◌, drop}
use Rattle.x10_model.specs.Structure.{around, has_slot, first_failing}
use Rattle.x10_bounds.proofs.rules.slot_fault.Given as goal

abbrev pub invariant-loop-pc : goal.invariant-loop-pc
invariant-loop-pc l = first_failing (λ pc i. has_slot l.loops (around l.code pc) i i.op) 0 l.code
    ≡ first_failing (λ pc i. has_slot l.loops (around l.code pc) i i.op) l.pc (drop l.pc l.code)
