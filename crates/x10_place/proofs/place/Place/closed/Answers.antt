use Rattle.std.proofs.Common.{◌↔◌, sym, ap, subst, ◌∙◌}
use Rattle.std.specs.Prelude.{IsTrue}
use Rattle.x10_place.specs.StandsFor.{PlaceState, store_of}
use Rattle.x10_place.specs.Stays.{IsDoneHere}
use Rattle.x10_place.proofs.place.Place.closed.Goals as goal

pub returns-then-here-eq0 : goal.returns-then-here-eq0
returns-then-here-eq0 c =
    let here = ap (λ (p : PlaceState). p.id) (sym c.self.view_is) ∙ sym c.locality-here.ensures.here ∙ c.if-here-eq0.true in
    let done : IsTrue c.is_done.result ↔ IsDoneHere (store_of c.args.self.now) 0 =
    subst (λ s. IsTrue c.is_done.result ↔ IsDoneHere s 0) (ap store_of c.self.view_is) c.is_done.ensures in
    ((λ t. (here, done.0 t)), (λ h. done.1 h.1))
