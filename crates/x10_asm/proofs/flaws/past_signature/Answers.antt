use Rattle.std.proofs.Common.{◌∙◌, sym}
use Rattle.std.proofs.lemmas.Result.{IfOk-weaker}
use Rattle.x10_asm.specs.Lines.{words}
use Rattle.x10_asm.proofs.SoundLines.{signature_is}
use Rattle.x10_asm.proofs.flaws.past_signature.Goals as goal

pub returns-clause-passed : goal.returns-clause-passed
returns-clause-passed c = IfOk-weaker c.past_slots.result _ _ (λ u s. (
  _,
  signature_is c.args.classes (words c.args.line.now) (c.in_ok-line.ensures.passed.0, words c.in_ok-line.line.now)
      (c.in_ok-line-2.ensures.passed.0, words c.in_ok-line-2.line.now) _ _ _ s.0 c.in_ok-line.ensures.passed.1 c.in_ok-line-2.ensures.passed.1
      c.in-Some.ensures.words (sym c.result_of.ensures ∙ c.in_default-result_of.is) s.1,
)) c.past_slots.ensures.passed
