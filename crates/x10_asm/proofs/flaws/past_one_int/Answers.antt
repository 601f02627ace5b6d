use Rattle.std.proofs.Common.{sym, ◌∙◌}
use Rattle.std.proofs.lemmas.Result.{IfOk-weaker}
use Rattle.x10_asm.proofs.SoundLines.{int_is}
use Rattle.x10_asm.proofs.flaws.past_one_int.Goals as goal

pub returns-clause-passed : goal.returns-clause-passed
returns-clause-passed c = IfOk-weaker c.past_all.result _ _ (λ u n.
    (_, int_is _ _ _ _ c.in-Some.ensures.words (sym c.int_of.ensures ∙ c.in-Some-int_of.is) n)) c.past_all.ensures.passed
