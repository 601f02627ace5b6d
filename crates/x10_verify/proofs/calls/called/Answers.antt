use Rattle.std.proofs.Common.{None, inl, inr, refl, sym, ◌∙◌}
use Rattle.std.proofs.lemmas.Result.{err_from_is_err_and}
use Rattle.x10_verify.specs.Known.{state_of}
use Rattle.x10_verify.specs.Knowledge.{point}
use Rattle.x10_verify.proofs.RuleDecided.{undecided, result_is, calls_some, calls_none, calls_bad}
use Rattle.x10_verify.proofs.calls.called.Goals as goal

pub returns-in_err-signature-clause-decides : goal.returns-in_err-signature-clause-decides
returns-in_err-signature-clause-decides c = λ function pc. undecided _ c.from_residual.result c.from_residual.ensures.0
    (λ e h. c.in_err-signature.ensures.found function pc h.0 h.1)

pub returns-in-Some-clause-decides : goal.returns-in-Some-clause-decides
returns-in-Some-clause-decides c = λ function pc. rw c.given.ensures
    (calls_some (point c.args.image.now function pc c.args.instr) (state_of c.args.known.now) c.args.at c.in_ok-signature.signature c.in-Some.slot
    (c.in_ok-signature.ensures.found function pc) (sym c.result.ensures.value ∙ c.in-Some.is))

pub returns-then-instr-eq0-clause-decides : goal.returns-then-instr-eq0-clause-decides
returns-then-instr-eq0-clause-decides c = λ function pc. calls_none (point c.args.image.now function pc c.args.instr)
    (state_of c.args.known.now) c.args.at c.in_ok-signature.signature (c.in_ok-signature.ensures.found function pc)
    (sym c.result.ensures.value ∙ c.in-None.is) c.if-instr-eq0.true

pub returns-else-instr-eq0-clause-decides : goal.returns-else-instr-eq0-clause-decides
returns-else-instr-eq0-clause-decides c = λ function pc. calls_bad (point c.args.image.now function pc c.args.instr)
    (state_of c.args.known.now) c.args.at c.in_ok-signature.signature (c.in_ok-signature.ensures.found function pc)
    (sym c.result.ensures.value ∙ c.in-None.is) c.if-instr-eq0.false

pub returns-in_err-signature-clause-cause : goal.returns-in_err-signature-clause-cause
returns-in_err-signature-clause-cause c =
    let p = err_from_is_err_and c.from_residual.result c.from_residual.ensures.1 in
    rw (p.1, p.2) (λ function pc. inl (c.in_err-signature.ensures.cause function pc))

pub returns-else-instr-eq0-clause-cause : goal.returns-else-instr-eq0-clause-cause
returns-else-instr-eq0-clause-cause c = λ function pc.
    let f = c.in_ok-signature.ensures.found function pc in
    inr (f.0, refl, f.1.there, result_is c.in_ok-signature.signature f.0 None f.2 (sym c.result.ensures.value ∙ c.in-None.is), c.if-instr-eq0.false)
