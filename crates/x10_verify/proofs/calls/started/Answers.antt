use Rattle.std.proofs.Common.{Some, inl, inr, refl, sym, ◌∙◌}
use Rattle.std.proofs.lemmas.Result.{err_from_is_err_and}
use Rattle.x10_verify.specs.Known.{state_of}
use Rattle.x10_verify.specs.Knowledge.{point}
use Rattle.x10_verify.proofs.RuleDecided.{undecided, result_is, starts_none, starts_bad}
use Rattle.x10_verify.proofs.calls.started.Goals as goal

pub returns-in_err-signature-clause-decides : goal.returns-in_err-signature-clause-decides
returns-in_err-signature-clause-decides c = λ function pc. undecided _ c.from_residual.result c.from_residual.ensures.0
    (λ e h. c.in_err-signature.ensures.found function pc h.0 h.1)

pub returns-in-Some-clause-decides : goal.returns-in-Some-clause-decides
returns-in-Some-clause-decides c = λ function pc. starts_bad (point c.args.image.now function pc c.args.instr)
    (state_of c.args.known.now) c.args.at c.in_ok-signature.signature (c.in_ok-signature.ensures.found function pc)
    (λ e. let g = sym c.result.ensures.value ∙ c.in-Some.is in cc)

pub returns-in-None-clause-decides : goal.returns-in-None-clause-decides
returns-in-None-clause-decides c = λ function pc. starts_none (point c.args.image.now function pc c.args.instr)
    (state_of c.args.known.now) c.args.at c.in_ok-signature.signature (c.in_ok-signature.ensures.found function pc)
    (sym c.result.ensures.value ∙ c.in-None.is)

pub returns-in_err-signature-clause-cause : goal.returns-in_err-signature-clause-cause
returns-in_err-signature-clause-cause c =
    let p = err_from_is_err_and c.from_residual.result c.from_residual.ensures.1 in
    rw (p.1, p.2) (λ function pc. inl (c.in_err-signature.ensures.cause function pc))

pub returns-in-Some-clause-cause : goal.returns-in-Some-clause-cause
returns-in-Some-clause-cause c = λ function pc.
    let f = c.in_ok-signature.ensures.found function pc in
    inr (
      f.0,
      refl,
      f.1.there,
      λ e. (let g = result_is c.in_ok-signature.signature f.0 (Some c.in-Some.field-0) f.2
          (sym c.result.ensures.value ∙ c.in-Some.is) in cc),
    )
