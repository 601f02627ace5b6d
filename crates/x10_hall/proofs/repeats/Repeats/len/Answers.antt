use Rattle.std.proofs.Common.{sym, ap, ◌∙◌}
use Rattle.std.specs.Prelude.{length}
use Rattle.x10_hall.proofs.Picks.{picked_length}
use Rattle.x10_hall.proofs.repeats.Repeats.len.Goals as goal

pub returns : goal.returns
returns g c = c.len.ensures ∙ c.self.inside.order.ok.0 ∙ sym (picked_length c.self.inside.kept.items c.self.inside.order.items c.self.invariant)
    ∙ ap (λ r. length r.items) c.self.view_is
