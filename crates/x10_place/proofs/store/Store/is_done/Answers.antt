use Rattle.std.proofs.Common.{◌↔◌, ◌∙◌, IsTrue, None, refl, sym, ap, subst}
use Rattle.x10_model.proofs.Lists.{none_some}
use Rattle.x10_place.specs.Stays.{IsDoneHere, HasBook, books_in, cut_of}
use Rattle.x10_place.specs.contracts.store.Store.{the_view}
use Rattle.x10_place.proofs.StoreLemmas.{done_here}
use Rattle.x10_place.proofs.store.Store.is_done.Goals as goal

pub returns-in-Some : goal.returns-in-Some
returns-in-Some c =
    subst (λ s. IsTrue c.done.result ↔ IsDoneHere s c.args.number) c.self.view_is
    (done_here c.done.result (the_view c.self.inside) c.args.number c.in-Some.book.now c.in-Some.ensures
    (c.self.invariant c.args.number c.in-Some.book.now c.in-Some.ensures) c.done.ensures)

pub returns-in-None : goal.returns-in-None
returns-in-None c =
    let has = subst (λ s. HasBook (books_in s) c.args.number) (sym c.self.view_is) c.requires in
    absurd (none_some None has.0 refl (sym (ap cut_of c.in-None.ensures) ∙ has.1))
