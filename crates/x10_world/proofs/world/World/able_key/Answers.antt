use Rattle.std.proofs.Common.{Some, sym, ap, ◌∙◌}
use Rattle.std.specs.Prelude.{slice_get}
use Rattle.std.proofs.lemmas.Option.{slice_get-get_or}
use Rattle.x10_world.proofs.QueryLemmas.{able_key_is}
use Rattle.x10_world.proofs.world.World.able_key.Goals as goal

pub returns : goal.returns
returns c = able_key_is _ c.args.self.now c.args.place c.in_ok-place.place.now c.first_able.result c.self.view_is
    (ap (λ ps. slice_get ps c.args.place) (sym c.list.ensures) ∙ ap (λ n. slice_get c.list.result.now n) (sym c.from.ensures)
    ∙ slice_get-get_or c.list.result.now c.from.result c.in_ok-place.place.now c.in_ok-place.ensures.lookup.3.0
    ∙ ap Some (sym c.in_ok-place.ensures.lookup.1)) c.first_able.ensures
