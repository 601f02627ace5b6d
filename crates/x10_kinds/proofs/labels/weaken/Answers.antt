use Rattle.std.proofs.Common.{subst, arith}
use Rattle.x10_kinds.specs.Labels.{IsMetTo}
use Rattle.x10_kinds.proofs.Rows.{met_to-says}
use Rattle.x10_kinds.proofs.labels.weaken.Goals as goal

pub returns-clause-met : goal.returns-clause-met
returns-clause-met c = met_to-says c.args.labels.now c.args.other.now c.loop-part.labels
    (subst (λ n. IsMetTo c.args.labels.now c.args.other.now n c.loop-part.labels) (omega (arith, c.in-Some.ensures.0)) c.loop-part.invariant.done)
