use Rattle.std.proofs.Common.{ℕ, List, false, ◌∙◌, sym, ap, subst}
use Rattle.std.specs.Str.{IsUtf8}
use Rattle.std.specs.String.{string_bytes}
use Rattle.x10_asm.specs.Literals.{scan}
use Rattle.x10_log.specs.Reading.{IsEnd, tail_bytes}
use Rattle.x10_log.proofs.Faults.{both_handed_on}
use Rattle.x10_log.proofs.Quotes.{scan_quoted}
use Rattle.x10_log.proofs.quoted.text_at.Goals as goal

pub returns-in_err-bytes-clause-found : goal.returns-in_err-bytes-clause-found
returns-in_err-bytes-clause-found c = λ text rest utf8 end e.
    both_handed_on string_bytes tail_bytes c.from_residual.result _ text rest c.from_residual.ensures.1
    (λ cause is. is ∙ c.in_err-bytes.ensures.found text rest (ap (scan false) e ∙ scan_quoted text rest))

pub returns-in_err-rest-clause-found : goal.returns-in_err-rest-clause-found
returns-in_err-rest-clause-found c = λ text rest utf8 end e.
    let parts = c.in_ok-bytes.ensures.found text rest (ap (scan false) e ∙ scan_quoted text rest) in
    both_handed_on string_bytes tail_bytes c.from_residual-in_err-rest.result _ text rest c.from_residual-in_err-rest.ensures.1
    (λ cause is. is ∙ c.in_err-rest.ensures.found (subst (λ (l : List ℕ). IsEnd l) (sym parts.1) end))

pub returns-in_err-text-clause-found : goal.returns-in_err-text-clause-found
returns-in_err-text-clause-found c = λ text rest utf8 end e.
    let parts = c.in_ok-bytes.ensures.found text rest (ap (scan false) e ∙ scan_quoted text rest) in
    both_handed_on string_bytes tail_bytes c.from_residual-in_err-text.result _ text rest c.from_residual-in_err-text.ensures.1
    (λ cause is. is ∙ c.in_err-text.ensures (subst IsUtf8 (sym parts.0) utf8))

pub returns-clause-found : goal.returns-clause-found
returns-clause-found c = λ text rest utf8 end e.
    let parts = c.in_ok-bytes.ensures.found text rest (ap (scan false) e ∙ scan_quoted text rest) in (
      c.in_ok-text.ensures (subst IsUtf8 (sym parts.0) utf8) ∙ parts.0,
      c.in_ok-rest.ensures.found (subst (λ (l : List ℕ). IsEnd l) (sym parts.1) end) ∙ parts.1,
    )
