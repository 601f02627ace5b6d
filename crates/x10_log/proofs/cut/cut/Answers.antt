use Rattle.x10_log.proofs.Cuts.{cut_some, cut_none}
use Rattle.x10_log.proofs.cut.cut.Goals as goal

pub returns-clause-some : goal.returns-clause-some
returns-clause-some c = cut_some c.args.at c.args.text.now c.split_once.result (c.split_once.ensures.byte c.requires (λ w o h. h))

pub returns-clause-none : goal.returns-clause-none
returns-clause-none c = cut_none c.args.at c.args.text.now c.split_once.result (c.split_once.ensures.byte c.requires (λ w o h. h))
