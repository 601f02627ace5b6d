use Rattle.std.proofs.Common.{List, ℕ, ap, ap₂, ◌∙◌, ◌++◌, ◌∷◌, []}
use Rattle.x10_hall.specs.Repetitions.{picked}
use Rattle.x10_hall.proofs.Picks.{picked_pushed}
use Rattle.x10_hall.proofs.repeats.Repeats.push.Goals as goal

pub returns-clause-ok : goal.returns-clause-ok
returns-clause-ok g c =
    let order = c.push_reserved.ensures.items ∙ ap (λ (is : List ℕ). is ++ c.len-number.result ∷ []) c.reserve.ensures.items in
    ap₂ (λ xs is. picked xs is) c.in_ok-push.ensures.items order
    ∙ picked_pushed c.self.inside.kept.items c.self.inside.order.items c.args.item c.len-number.result c.self.invariant
    (c.len-number.ensures ∙ c.self.inside.kept.ok.0)
    ∙ ap (λ r. r.items ++ c.args.item ∷ []) c.self.view_is
