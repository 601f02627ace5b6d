-- A stay that its place counts, with a book of each finish that it has open: steps keep that.
use Rattle.std.proofs.Common.{◌≡◌, ℕ, zero, suc, ◌+◌, ◌<◌, Bool, true, false, Some, None, ◌∷◌, refl, sym, ap, subst, ◌∙◌, arith}
use Rattle.std.proofs.lemmas.Option.{same_Some}
use Rattle.slab.specs.Slab.{get}
use Rattle.x10_code.specs.declared.instr.Instr.{Instr}
use Rattle.x10_model.specs.Maps.{with_entry}
use Rattle.x10_model.specs.Places as machine
use Rattle.x10_model.specs.Places.{Stay}
use Rattle.x10_model.specs.Totals.{Totals, nothing, zeros}
use Rattle.x10_model.specs.Worlds.{same_finish}
use Rattle.x10_model.proofs.SameFinishes.{same_is}
use Rattle.x10_model.proofs.Maps.{at_key, off_key}
use Rattle.x10_finish.specs.Nesting.{nth}
use Rattle.x10_finish.proofs.Tallied.{lives_tallied}
use Rattle.x10_place.specs.declared.route.Route.{Route}
use Rattle.x10_place.specs.declared.route.Route.TheVariants as route
use Rattle.x10_place.specs.declared.outcome.Outcome.TheVariants as outcome
use Rattle.x10_place.specs.Routes.{route_of}
use Rattle.x10_place.specs.Stays.{StayState, StoreState, Location, totals_in, books_in, finish_at, changed_at, HasBook, Recounts, OpensFinish, ClosesFinish, Steps}
use Rattle.x10_place.specs.StandsFor.{Far, PlaceState, store_of, location_of, StandsFor}
use Rattle.x10_place.specs.WorkingStays.{IsRegistered}
use Rattle.x10_place.proofs.CountsOfMoves.{IsSameCount, same_count, heap_alone, totals_same, books_same, if_false}

-- the stay has the same finishes open and inherited the same, and the place counts the same
kept : (at : Location) (s t : StoreState) (a b : StayState) → IsSameCount s t → b.finishes ≡ a.finishes → b.inherited ≡ a.inherited
    → IsRegistered at s a → IsRegistered at t b
kept at s t a b same finishes inherited h = record {
  here = same.here ∙ h.here;
  places = same.places ∙ h.places;
  live = subst (λ n. 0 < n) (sym (ap (λ (u : Totals). u.live) (totals_same s t same b.inherited ∙ ap (totals_in s) inherited))) h.live;
  are_open = λ i n e. let o = h.are_open i n (subst (λ ns. nth ns i ≡ Some n) finishes e) in
      ((o.0.0, books_same s t same n ∙ o.0.1), subst (λ k. n < k) (sym same.opened) o.1);
  once = λ i j n e f. h.once i j n (subst (λ ns. nth ns i ≡ Some n) finishes e) (subst (λ ns. nth ns j ≡ Some n) finishes f);
}

opened_registered : (at : Location) (s t : StoreState) (a b : StayState) → IsRegistered at s a → OpensFinish a s b t → IsRegistered at t b
opened_registered at s t a b h made = record {
  here = r.here ∙ h.here;
  places = r.places_are ∙ h.places;
  live = subst (λ n. 0 < n) (sym (ap (λ (u : Totals). u.live)
      (r.totals_are b.inherited ∙ ap (totals_in s) (ap (λ (x : StayState). x.inherited) made.rest)))) h.live;
  are_open = λ i n e. open_at i n (subst (λ ns. nth ns i ≡ Some n) finishes e);
  once = λ i j n e f. once_at i j n (subst (λ ns. nth ns i ≡ Some n) finishes e) (subst (λ ns. nth ns j ≡ Some n) finishes f);
}
  where
    r : Recounts s t (s.opened + 1) (totals_in s) (with_entry (books_in s) s.opened (Some (λ p. zeros)))
    r = made.store

    finishes : b.finishes ≡ s.opened ∷ a.finishes
    finishes = ap (λ (x : StayState). x.finishes) made.rest

    open_at : (i n : ℕ) → nth (s.opened ∷ a.finishes) i ≡ Some n → HasBook (books_in t) n × (n < t.opened)
    open_at zero n e =
        let is = same_Some s.opened n e in (
          (
            (λ p. zeros),
            r.books_are n ∙ ap (with_entry (books_in s) s.opened (Some (λ p. zeros))) (sym is)
                ∙ at_key (books_in s) s.opened (Some (λ p. zeros)),
          ),
          (let o = r.opened_is in omega (arith, is, o)),
        )
    open_at (suc i) n e =
        let o = h.are_open i n e in
        let lt = o.1 in (
          (o.0.0, r.books_are n ∙ off_key (books_in s) s.opened n (Some (λ p. zeros)) (λ q. absurd (omega (arith, q, lt))) ∙ o.0.1),
          (let more = r.opened_is in omega (arith, lt, more)),
        )

    once_at : (i j n : ℕ) → nth (s.opened ∷ a.finishes) i ≡ Some n → nth (s.opened ∷ a.finishes) j ≡ Some n → i ≡ j
    once_at zero zero n e f = refl
    once_at (suc i) (suc j) n e f = ap suc (h.once i j n e f)
    once_at zero (suc j) n e f = absurd (let is = same_Some s.opened n e in let lt = (h.are_open j n f).1 in omega (arith, is, lt))
    once_at (suc i) zero n e f = absurd (let is = same_Some s.opened n f in let lt = (h.are_open i n e).1 in omega (arith, is, lt))

closed_registered : (at : Location) (s t : StoreState) (a b : StayState) → IsRegistered at s a → ClosesFinish a s b t → IsRegistered at t b
closed_registered at s t a b h made = record {
  here = r.here ∙ h.here;
  places = r.places_are ∙ h.places;
  live = subst (λ n. 0 < n) (sym (ap (λ (u : Totals). u.live)
      (r.totals_are b.inherited ∙ if_false (same_finish b.inherited (finish_at s.here made.number)) nothing (totals_in s b.inherited) other
      ∙ ap (totals_in s) inherited))) h.live;
  are_open = λ i n e. (let o = h.are_open (suc i) n (further i n e) in
      ((o.0.0, r.books_are n ∙ off_key (books_in s) made.number n None (left i n e) ∙ o.0.1), subst (λ k. n < k) (sym r.opened_is) o.1));
  once = λ i j n e f. (let q = h.once (suc i) (suc j) n (further i n e) (further j n f) in omega (arith, q));
}
  where
    r : Recounts s t s.opened (changed_at (totals_in s) (finish_at s.here made.number) (λ u. nothing)) (with_entry (books_in s) made.number None)
    r = made.store

    inherited : b.inherited ≡ a.inherited
    inherited = ap (λ (x : StayState). x.inherited) made.rest

    further : (i n : ℕ) → nth b.finishes i ≡ Some n → nth a.finishes (suc i) ≡ Some n
    further i n e = subst (λ ns. nth ns (suc i) ≡ Some n) (sym made.innermost) e

    left : (i n : ℕ) → nth b.finishes i ≡ Some n → n ≡ made.number → ⊥
    left i n e q = absurd (let z = h.once (suc i) 0 n (further i n e) (ap (λ ns. nth ns 0) made.innermost ∙ ap Some (sym q)) in omega (arith, z))

    -- what it inherited isn't the finish that was closed, under which nothing lives
    other : same_finish b.inherited (finish_at s.here made.number) ≡ false
    other = apart (same_finish b.inherited (finish_at s.here made.number)) refl
      where
        apart : (c : Bool) → same_finish b.inherited (finish_at s.here made.number) ≡ c → c ≡ false
        apart false e = refl
        apart true e = absurd (let none = made.done.0 in let some = h.live in
            let same = ap (λ f. (totals_in s f).live) (sym inherited ∙ same_is b.inherited (finish_at s.here made.number) e) in omega (arith, none, some, same))

-- the stay goes on
registered_by : (r : Route) (at : Location) (a b : StayState) (s t : StoreState) (i : Instr) → IsRegistered at s a → Steps r at a s i outcome.Goes b t
    → IsRegistered at t b
registered_by (route.Local l) at a b s t i h steps = kept at s t a b (heap_alone s t steps.1.store) (ap (λ (x : StayState). x.finishes) steps.1.rest)
    (ap (λ (x : StayState). x.inherited) steps.1.rest) h
registered_by (route.Make k) at a b s t i h steps = kept at s t a b (heap_alone s t steps.1.store) (ap (λ (x : StayState). x.finishes) steps.1.rest)
    (ap (λ (x : StayState). x.inherited) steps.1.rest) h
registered_by (route.Site k) at a b s t i h steps = kept at s t a b (heap_alone s t steps.1.store) (ap (λ (x : StayState). x.finishes) steps.1.rest)
    (ap (λ (x : StayState). x.inherited) steps.1.rest) h
registered_by route.Export at a b s t i h steps = kept at s t a b (heap_alone s t steps.1.store) (ap (λ (x : StayState). x.finishes) steps.1.rest)
    (ap (λ (x : StayState). x.inherited) steps.1.rest) h
registered_by route.Call at a b s t i h steps = subst (λ u. IsRegistered at u b) (sym steps.2)
    (kept at s s a b (same_count s) (ap (λ (x : StayState). x.finishes) steps.1.rest) (ap (λ (x : StayState). x.inherited) steps.1.rest) h)
registered_by route.Return at a b s t i h steps = subst (λ u. IsRegistered at u b) (sym steps.1)
    (kept at s s a b (same_count s) (ap (λ (x : StayState). x.finishes) steps.0.rest) (ap (λ (x : StayState). x.inherited) steps.0.rest) h)
registered_by route.Print at a b s t i h steps =
    kept at s t a b
    (record {
      here = ap (λ (q : StoreState). q.here) steps.1.store;
      places = ap (λ (q : StoreState). q.places) steps.1.store;
      ledger = ap (λ (q : StoreState). q.ledger) steps.1.store;
      books = ap (λ (q : StoreState). q.books) steps.1.store;
      opened = ap (λ (q : StoreState). q.opened) steps.1.store;
    })
    (ap (λ (x : StayState). x.finishes) steps.1.rest) (ap (λ (x : StayState). x.inherited) steps.1.rest) h
registered_by (route.Region inside) at a b s t i h steps = subst (λ u. IsRegistered at u b) (sym steps.2)
    (kept at s s a b (same_count s) (ap (λ (x : StayState). x.finishes) steps.1.rest) (ap (λ (x : StayState). x.inherited) steps.1.rest) h)
registered_by route.OpenFinish at a b s t i h steps = opened_registered at s t a b h steps.1
registered_by route.CloseFinish at a b s t i h steps = closed_registered at s t a b h steps
registered_by route.Async at a b s t i h steps = absurd (let f = steps.0 in cc)
registered_by route.At at a b s t i h steps = absurd (let f = steps.0 in cc)
registered_by route.Ata at a b s t i h steps = absurd (let f = steps.0 in cc)

pub registered_after : (at : Location) (a b : StayState) (s t : StoreState) (i : Instr) → IsRegistered at s a
    → Steps (route_of i.op) at a s i outcome.Goes b t → IsRegistered at t b
registered_after at a b s t i h steps = registered_by (route_of i.op) at a b s t i h steps

-- each stay of a place is registered there
pub registered_at : (far : Far) (p : PlaceState) (m : machine.Place) (key : ℕ) (a : StayState) → (stands : StandsFor far p m)
    → get p.stays key ≡ Some a → IsRegistered (location_of p) (store_of p) a
registered_at far p m key a stands e =
    let found = stands.some key a e in
    let s : Stay = found.0 in
    let is : m.stays key ≡ Some s = found.1 in
    record {
      here = refl;
      places = refl;
      live = subst (λ f. 0 < (totals_in (store_of p) f).live) found.2.inherited
          (lives_tallied m.stays key s (totals_in (store_of p)) stands.tallied is);
      are_open = λ i n f. (let g = subst (λ ns. nth ns i ≡ Some n) (sym found.2.finishes) f in
          (stands.booked.booked key i n s is g, (stands.booked.numbered key i n s is g).1));
      once = λ i j n f g. (stands.booked.apart key key i j n s s is is (subst (λ ns. nth ns i ≡ Some n) (sym found.2.finishes) f)
          (subst (λ ns. nth ns j ≡ Some n) (sym found.2.finishes) g)).1;
    }
