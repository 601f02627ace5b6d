use Rattle.x10_finish.proofs.MetLemmas.{above_removed}
use Rattle.x10_finish.proofs.table.Table.remove.Goals as goal

pub invariant_of-self : goal.invariant_of-self
invariant_of-self c = above_removed c.self.inside.highest c.self.inside.counts.entries c.remove.new.self.entries c.args.finish c.self.invariant
    c.remove.ensures.updates.0
