use Rattle.std.proofs.Common.{◌∙◌, sym}
use Rattle.x10_log.proofs.Cuts.{same_cut}
use Rattle.x10_log.proofs.reading.line_of.Goals as goal

pub returns-in-Some-clause-found : goal.returns-in-Some-clause-found
returns-in-Some-clause-found c = λ first rest lacks e.
    same_cut 10 c.in-Some.first.now first c.in-Some.rest.now rest c.in-Some.ensures.some.0 lacks (sym c.in-Some.ensures.some.1 ∙ e)
