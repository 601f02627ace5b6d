use Rattle.x10_hall.proofs.Picks.{picked_again}
use Rattle.std.proofs.Common.{ap, ◌∙◌}
use Rattle.x10_hall.specs.Repetitions.{picked}
use Rattle.x10_hall.proofs.repeats.Repeats.again.Goals as goal

pub returns-clause-ok : goal.returns-clause-ok
returns-clause-ok g c item last = ap (λ is. picked c.self.inside.kept.items is) c.in_ok-push.ensures.items
    ∙ picked_again c.self.inside.kept.items c.self.inside.order.items c.len.result c.index-last.result.now item c.args.self.now.items c.self.invariant
    (ap (λ r. r.items) c.self.view_is) (c.len.ensures ∙ c.self.inside.order.ok.0) c.requires c.index-last.ensures last
