use Rattle.x10_verify.proofs.RuleDecided.{undecided}
use Rattle.x10_verify.proofs.objects.opened.Goals as goal

pub returns-in_err-class-clause-decides : goal.returns-in_err-class-clause-decides
returns-in_err-class-clause-decides c = λ program function pc.
    undecided _ c.from_residual.result c.from_residual.ensures.0 (λ e h. c.in_err-class.ensures.class h.0 h.1)
