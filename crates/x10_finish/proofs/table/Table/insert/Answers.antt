use Rattle.x10_finish.proofs.MetLemmas.{above_written}
use Rattle.x10_finish.proofs.table.Table.insert.Goals as goal

pub invariant_of-self : goal.invariant_of-self
invariant_of-self c = above_written c.self.inside.highest c.max-self-inside.result c.self.inside.counts.entries c.insert.new.self.entries
    c.args.finish c.args.count c.max-self-inside.ensures c.self.invariant c.in-Ok.ensures.updates.0
