use Rattle.std.proofs.Common.{◌≡◌, true, inl, inr, arith, refl}
use Rattle.x10_code.specs.Table.{form_of}
use Rattle.x10_model.specs.Structure.{is_target}
use Rattle.x10_verify.proofs.step.jump.Goals.{else-lead-via-then-lead+else-target-at, else-lead-via-else-lead}
use Rattle.x10_verify.proofs.step.jump.Goals as goal

pub returns-then-target-at-clause-jumps : goal.returns-then-target-at-clause-jumps
returns-then-target-at-clause-jumps c = λ entry is.
    let on : is_target (form_of c.args.instr.op).x ≡ true = cc (c.jumps.ensures, c.if-not-jumps.false) in
    rw on (c.lead.result, omega arith, c.lead.ensures.arrives entry is, inl (c.if-lead.true, omega arith, refl))

pub returns-clause-jumps : goal.returns-clause-jumps
returns-clause-jumps c = λ entry is.
    let on : is_target (form_of c.args.instr.op).x ≡ true = cc (c.jumps.ensures, c.if-not-jumps.false) in
    rw on (
      c.lead.result,
      omega arith,
      c.lead.ensures.arrives entry is,
      elim c.else-lead.branch [
        | else-lead-via-then-lead+else-target-at w ↦ inr ((λ changed. omega (arith, w.if-target-at.false)), refl)
        | else-lead-via-else-lead w ↦ inr ((λ changed. absurd (let e = w.if-lead.false in cc)), refl)
      ],
    )
