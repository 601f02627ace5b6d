use Rattle.std.proofs.Common.{subst}
use Rattle.x10_verify.specs.Known.{state_of}
use Rattle.x10_verify.specs.Knowledge.{point}
use Rattle.x10_model.specs.Assignments.{Grants}
use Rattle.x10_verify.specs.Effects.{Decides}
use Rattle.x10_verify.proofs.RuleDecided.{granted}
use Rattle.x10_verify.proofs.decide.decide.Goals as goal

pub returns-clause-decides : goal.returns-clause-decides
returns-clause-decides c = λ function pc same. subst (λ r. Decides
    (Grants r (point c.args.image.now function pc c.args.instr) (state_of c.args.known.now)) c.settled.result) c.rule_of-rule.ensures.value
    (granted c.rule_of-rule.result (point c.args.image.now function pc c.args.instr)
    (state_of c.args.known.now) c.settled.result c.in_ok-asked.ensures.asked c.in_ok-asked-2.ensures.asked c.in_ok-asked-3.ensures.asked
    (c.settled.ensures.decides function pc same))
