use Rattle.std.proofs.Common.{Some, sym, ap, ◌∙◌}
use Rattle.std.specs.Prelude.{slice_get}
use Rattle.std.proofs.lemmas.Option.{slice_get-get_or}
use Rattle.x10_world.proofs.QueryLemmas.{step_can, delivery_can}
use Rattle.x10_world.proofs.world.World.can_happen.Goals as goal

pub returns-in-Some : goal.returns-in-Some
returns-in-Some c = step_can _ c.args.self.now c.args.event c.in-Step.place c.in-Step.key c.in-Some.place.now c.is_idle.result c.self.view_is
    c.in-Step.is (ap (λ ps. slice_get ps c.in-Step.place) (sym c.list.ensures) ∙ ap (λ n. slice_get c.list.result.now n) (sym c.from.ensures)
    ∙ slice_get-get_or c.list.result.now c.from.result c.in-Some.place.now c.in-Some.ensures.lookup.3.0 ∙ ap Some (sym c.in-Some.ensures.lookup.1))
    c.is_idle.ensures

pub returns-in-Deliver : goal.returns-in-Deliver
returns-in-Deliver c = delivery_can _ c.args.self.now c.args.event c.in-Deliver.number c.get-in-Deliver.result c.is_some.result c.self.view_is
    c.in-Deliver.is c.get-in-Deliver.ensures c.is_some.ensures
