use Rattle.std.proofs.Common.{◌∙◌, subst, sym}
use Rattle.x10_verify.specs.Certified.{Certified}
use Rattle.x10_verify.specs.Printing.{IsKnownWell}
use Rattle.x10_verify.proofs.Prints.{prints_as_text, prints_number}
use Rattle.x10_verify.proofs.verified.Verified.prints_text.Goals as goal

pub returns-clause-text : goal.returns-clause-text
returns-clause-text c = λ yes function there.
    let known = subst (λ (v : Certified). IsKnownWell v c.self.inside.rows.items) c.self.view_is c.self.invariant in
    prints_as_text c.args.self.now.program c.args.f c.args.pc function ((known.noted c.args.f c.args.pc).0 (sym c.noted.ensures ∙ yes)) there

pub returns-clause-number : goal.returns-clause-number
returns-clause-number c = λ no function there.
    let known = subst (λ (v : Certified). IsKnownWell v c.self.inside.rows.items) c.self.view_is c.self.invariant in
    prints_number c.args.self.now.program c.args.f function there (known.least c.args.f function there) c.args.pc
    (λ h. absurd (let bit = c.noted.ensures ∙ (known.noted c.args.f c.args.pc).1 h in cc))
