use Rattle.std.proofs.Common.{ℕ, ap, ◌∙◌, sym}
use Rattle.x10_model.specs.declared.finish.Finish.{Finish}
use Rattle.x10_place.specs.Stays.{StoreState, finish_at}
use Rattle.x10_place.proofs.StoreLemmas.{entered_book}
use Rattle.x10_place.proofs.store.Store.open_finish.Goals as goal

pub invariant_of-self-2 : goal.invariant_of-self-2
invariant_of-self-2 c =
    let enters = c.in_ok-open.ensures.ok in
    entered_book c.self.inside.tally.place c.self.inside.tally.places c.finish-finish.result.number c.self.inside.books c.open.new.self enters.book
    enters.writes
    (record {
      finish = enters.is.finish ∙ ap (λ (h : ℕ). finish_at h c.finish-finish.result.number)
          (ap (λ (f : Finish). f.home) c.finish-finish.ensures ∙ ap (λ (s : StoreState). s.here) (sym c.self.view_is));
      places_are = enters.is.places_is ∙ c.places-places.ensures;
    }) c.self.invariant
