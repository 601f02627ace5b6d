use Rattle.std.proofs.Common.{◌≡◌, drop}
use Rattle.x10_model.specs.Structure.{around, nests, jumps_well, has_slot, calls_earlier, stays_out, first_failing}
use Rattle.x10_bounds.proofs.rules.all_hold.Given as goal

abbrev pub invariant-loop-pc : goal.invariant-loop-pc
invariant-loop-pc l = record {
  nests : first_failing (λ pc i. nests i.op (around l.code pc)) 0 l.code
      ≡ first_failing (λ pc i. nests i.op (around l.code pc)) l.pc (drop l.pc l.code);
  jumps : first_failing (λ pc i. jumps_well l.code pc i i.op) 0 l.code ≡ first_failing (λ pc i. jumps_well l.code pc i i.op) l.pc (drop l.pc l.code);
  slots : first_failing (λ pc i. has_slot l.loops (around l.code pc) i i.op) 0 l.code
      ≡ first_failing (λ pc i. has_slot l.loops (around l.code pc) i i.op) l.pc (drop l.pc l.code);
  calls : first_failing (λ pc i. calls_earlier l.function i) 0 l.code ≡ first_failing (λ pc i. calls_earlier l.function i) l.pc (drop l.pc l.code);
  atomics : first_failing (λ pc i. stays_out i.op (around l.code pc)) 0 l.code
      ≡ first_failing (λ pc i. stays_out i.op (around l.code pc)) l.pc (drop l.pc l.code);
}
