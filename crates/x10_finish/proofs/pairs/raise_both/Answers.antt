use Rattle.std.proofs.Common.{◌∙◌}
use Rattle.x10_finish.specs.Pairs.{pair_at, raised_at}
use Rattle.x10_finish.proofs.MergedReports.{raised_same}
use Rattle.x10_finish.proofs.pairs.raise_both.Goals as goal

pub returns-clause-pairs : goal.returns-clause-pairs
returns-clause-pairs c a b = c.raise.ensures.pairs a b
    ∙ raised_same c.args.other c.args.place (record { sent = 0; received = c.args.received })
    (pair_at c.args.places c.raise-unequal.new.pairs)
    (raised_at c.args.place c.args.other (record { sent = c.args.sent; received = 0 }) (pair_at c.args.places c.args.pairs.now))
    a b (c.raise-unequal.ensures.pairs a b)
