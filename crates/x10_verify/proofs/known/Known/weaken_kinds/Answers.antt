use Rattle.std.proofs.Common.{arith, refl}
use Rattle.x10_verify.specs.Known.{kind_in}
use Rattle.x10_verify.proofs.WeakestState.{weakened_equal, weakened_on_same, weakened_on_more}
use Rattle.x10_verify.proofs.known.Known.weaken_kinds.Goals.{then-weaken_register, else-weaken_register}
use Rattle.x10_verify.proofs.known.Known.weaken_kinds.Goals as goal

pub returns-then-is_same_row : goal.returns-then-is_same_row
returns-then-is_same_row c = weakened_equal c.args.self.now c.args.other.now 64 (c.is_same_row.ensures.0 c.if-is_same_row.true)

pub loop-register-preserved : goal.loop-register-preserved
loop-register-preserved c = elim c.if-weaken_register.branch [
  | then-weaken_register w ↦ (let f = c.weaken_register.ensures.changed w.if-weaken_register.true in
      weakened_on_more c.args.self.now c.args.other.now c.loop-register.register c.loop-register.self c.weaken_register.new.self
      c.loop-register.changed c.if-weaken_register.changed (kind_in c.args.other.now.kinds c.loop-register.register) w.changed-is
      c.loop-register.invariant (omega arith) refl f.0 f.1)
  | else-weaken_register w ↦ (let f = c.weaken_register.ensures.same w.if-weaken_register.false in
      weakened_on_same c.args.self.now c.args.other.now c.loop-register.register c.loop-register.self c.weaken_register.new.self
      c.loop-register.changed c.if-weaken_register.changed (kind_in c.args.other.now.kinds c.loop-register.register) w.changed-is
      c.loop-register.invariant refl f.0 f.1)
]
