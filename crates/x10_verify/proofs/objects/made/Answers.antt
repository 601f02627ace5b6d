use Rattle.std.proofs.Common.{sym, ◌∙◌, subst}
use Rattle.std.proofs.lemmas.Option.{same_Some}
use Rattle.x10_verify.specs.Known.{state_of}
use Rattle.x10_model.specs.Assignments.{KindsAre}
use Rattle.x10_verify.proofs.RuleDecided.{undecided}
use Rattle.x10_verify.proofs.objects.made.Goals as goal

pub returns-in_err-fields_fit-clause-decides : goal.returns-in_err-fields_fit-clause-decides
returns-in_err-fields_fit-clause-decides c = λ function pc. undecided _ c.from_residual.result c.from_residual.ensures.0
    (λ e h. c.in_err-fields_fit.ensures.fit (subst (KindsAre (state_of c.args.known.now) c.args.instr.b)
    (same_Some h.0 c.class.result (sym h.1 ∙ c.class.ensures.value)) h.2))
