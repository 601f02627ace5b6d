use Rattle.std.proofs.Common.{ap, ◌∙◌}
use Rattle.std.proofs.lemmas.Result.{IfOk-weaker}
use Rattle.x10_asm.specs.Checks.{no_more}
use Rattle.x10_asm.proofs.SoundLines.{operands_are}
use Rattle.x10_asm.proofs.flaws.past_operands.Goals as goal

pub returns-clause-passed : goal.returns-clause-passed
returns-clause-passed c =
    let a = rw c.form-form.ensures.value at c.in_ok-line.ensures.passed.1 in
    let b = rw c.form-form.ensures.value at c.in_ok-line-2.ensures.passed.1 in
    let third = rw c.form-form.ensures.value at c.in_ok-line-3.ensures.passed.1 in
    let x = rw c.form-form.ensures.value at c.in_ok-line-4.ensures.passed.1 in
    IfOk-weaker c.past_all.result _ _ (λ u n. operands_are c.args.op _ _ _ _ _ a b third x (ap no_more c.in_ok-line-4.ensures.passed.2 ∙ n))
    c.past_all.ensures.passed
