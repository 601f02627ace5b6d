use Rattle.std.proofs.Common.{refl, sym, subst}
use Rattle.x10_place.specs.Opening.{IsNewStore}
use Rattle.x10_place.specs.Stays.{StoreState}
use Rattle.x10_place.proofs.StoreLemmas.{IsBlank, new_elsewhere, new_at_root}
use Rattle.x10_place.proofs.store.Store.new.Goals as goal
use Rattle.x10_place.proofs.store.Store.new.Goals.{then-locality-eq0+in_ok-open_finish+in_ok-begin, else-locality-eq0}

-- the store before anything is opened
abbrev first : goal.Joined-locality-eq0 → StoreState
first c = record {
  heap = c.new.result;
  lines = c.new-2.result.items;
  opened = 0;
  here = c.new-3.result.place;
  places = c.new-3.result.places;
  ledger = c.new-3.result;
  books = c.new-4.result;
}

blank : (c : goal.Joined-locality-eq0) → IsBlank c.args.locality.here c.args.locality.places (first c)
blank c = record {
  heap = c.new.ensures;
  lines = c.new-2.ensures.items;
  opened = refl;
  here = c.new-3.ensures.place;
  places_are = c.new-3.ensures.places;
  totals = c.new-3.ensures.totals;
  books = c.new-4.ensures;
}

pub returns-clause-ok : goal.returns-clause-ok
returns-clause-ok c = elim c.if-locality-eq0.branch [
  | then-locality-eq0+in_ok-open_finish+in_ok-begin w ↦
      subst (λ s. IsNewStore c.args.locality.here c.args.locality.places s) (sym w.store-is)
      (new_at_root c.args.locality.here c.args.locality.places (first c) w.open_finish.new.self w.begin.new.self w.if-locality-eq0.true
      (blank c) w.in_ok-open_finish.ensures.ok w.in_ok-begin.ensures.ok)
  | else-locality-eq0 w ↦ subst (λ s. IsNewStore c.args.locality.here c.args.locality.places s) (sym w.store-is)
      (new_elsewhere c.args.locality.here c.args.locality.places (first c) w.if-locality-eq0.false (blank c))
]
