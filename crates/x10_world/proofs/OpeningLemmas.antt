-- The world at the beginning stands for the machine's opening.
use Rattle.std.proofs.Common.{◌≡◌, ◌≢◌, ℕ, ◌+◌, ◌<◌, ◌≤◌, ◌==◌, ◌&&◌, Bool, true, false, List, [], ◌∷◌, ◌++◌, length, Option, Some, None, Ok, refl, sym, ap, subst, ◌∙◌, inl, inr, arith, length-append}
use Rattle.std.specs.Prelude.{slice_get, nat_lt, if◌then◌else◌}
use Rattle.std.proofs.lemmas.Bool.{ne_eqb, lt-ltb, ltb-true}
use Rattle.std.proofs.lemmas.Option.{slice_get_within}
use Rattle.x10_model.specs.Structure.{bounds_of}
use Rattle.x10_model.specs.Places as machine
use Rattle.x10_model.specs.declared.finish.Finish.{Finish}
use Rattle.x10_model.specs.Places.{Setting, Message, root}
use Rattle.x10_model.specs.Totals.{nothing, zeros, first_totals}
use Rattle.x10_model.specs.Worlds.{Unused, Flying, same_finish, opening}
use Rattle.x10_model.proofs.Lists.{none_some, below_some, last_or_before}
use Rattle.x10_finish.specs.Watching.{AreFirst}
use Rattle.x10_finish.proofs.WorldLemmas.{opening_is_watched}
use Rattle.x10_verify.specs.Certified.{Certified, IsCertified}
use Rattle.x10_place.specs.StandsFor as place
use Rattle.x10_place.specs.StandsFor.{PlaceState, Far, StandsFor}
use Rattle.x10_place.specs.Opening.{opening_place}
use Rattle.x10_world.specs.Budget.{IsWithinBudget}
use Rattle.x10_flights.specs.Flights.{Flight, FlightsState, RisingBy, flight_of, flight_among}
use Rattle.x10_world.specs.StandsForWorld.{WorldState, world_of, IsWorld, setting_of_world, totals_at, kept_at, counts_in, far_in, StandsForWorld}
use Rattle.x10_world.proofs.LinkDeliveries.{answered_at_opening}
use Rattle.x10_world.specs.Opening.{IsOpenedPlace, AreOpened}
use Rattle.x10_world.proofs.BudgetRuns.{budget_at_opening}

-- ---- counts

-- elsewhere than at place 0 nothing lives at the beginning
first_none : (id : ℕ) (f : Finish) (b : Bool) → id ≢ 0 → (if b && (id == 0) then record nothing { live = 1 } else nothing) ≡ nothing
first_none id f false ne = refl
first_none id f true ne = ap (λ c. if c then record nothing { live = 1 } else nothing) (ne_eqb id 0 ne)

totals_first : (verified : Certified) (places : List PlaceState) (id : ℕ) (f : Finish) (o : Option PlaceState) → 0 < length places
    → AreOpened verified (length places) places → slice_get places id ≡ o → totals_at o f ≡ first_totals id f
totals_first verified places id f None some opened e = sym (first_none id f (same_finish f root)
    (λ zero. absurd (below_some places id e (omega (arith, zero, some)))))
totals_first verified places id f (Some p) some opened e = (opened.each id p e).is_new.store.totals f

kept_first : (verified : Certified) (places : List PlaceState) (id number : ℕ) (o : Option PlaceState) → AreOpened verified (length places) places
    → slice_get places id ≡ o → kept_at o number ≡ (λ p. zeros)
kept_first verified places id number None opened e = refl
kept_first verified places id number (Some p) opened e = (opened.each id p e).is_new.store.kept number

-- main's stay is counted and nothing else
counts_first : (verified : Certified) (places : List PlaceState) → 0 < length places → AreOpened verified (length places) places
    → AreFirst (counts_in places (λ f number. None))
counts_first verified places some opened = record {
  totals = λ id f. totals_first verified places id f (slice_get places id) some opened refl;
  kept = λ f. kept_first verified places f.home f.number (slice_get places f.home) opened refl;
  told = λ f number. refl;
}

-- ---- the opening

pub opening_stands : (c : Certified) (count : ℕ) (x : WorldState) → IsCertified c → 0 < count → x.program ≡ c.program → x.bounds ≡ c.bounds
    → AreOpened c count x.places → x.flights.flying ≡ [] → StandsForWorld x (opening (setting_of_world x) 0)
opening_stands c count x certified some program bounds opened quiet = record {
  some = each;
  none = none;
  told = λ f number. None;
  watched = opening_is_watched (setting_of_world x) 0 (counts_in x.places (λ f number. None))
      (omega (arith, some, opened.count_is)) watched_first;
  answered = answered_at_opening (setting_of_world x) 0;
  budget = budget;
  flies = record {
    rising = subst (λ fs. RisingBy (λ (f : Flight). f.number) 0 fs x.flights.posted) (sym quiet) tt;
    each = λ number flight is. absurd (none_some (flight_of x.flights number) flight (ap (λ fs. flight_among fs number) quiet) is);
    none = λ number e. ((λ message. unused_not message), (λ f. refl));
    unused = λ number le. refl;
  };
}
  where
    unused_not : (message : Message) → Unused ≡ Flying message → ⊥
    unused_not message e = cc

    -- what places export at the beginning
    no_exports : Far
    no_exports = far_in (opening (setting_of_world x) 0)

    same_setting : (id : ℕ) (p : PlaceState) → IsOpenedPlace c count id p → place.setting_of p ≡ setting_of_world x
    same_setting id p o = ap (λ m. record { program = m; places = p.places }) (o.is_new.program ∙ sym program)
        ∙ ap (λ n. record { program = x.program; places = n }) (o.is_new.store.places_is ∙ sym opened.count_is)

    stands : (id : ℕ) (p : PlaceState) → slice_get x.places id ≡ Some p → StandsFor no_exports p (opening_place (setting_of_world x) 0 id)
    stands id p is =
        let o = opened.each id p is in
        subst (λ s. StandsFor no_exports p (opening_place s 0 id)) (same_setting id p o)
        (subst (λ i. StandsFor no_exports p (opening_place (place.setting_of p) 0 i)) o.is_new.store.here (o.stands no_exports))

    each : (id : ℕ) (p : PlaceState) → slice_get x.places id ≡ Some p
        → (m : machine.Place) × ((opening (setting_of_world x) 0).net.places id ≡ Some m) × StandsFor no_exports p m
    each id p is = (
      opening_place (setting_of_world x) 0 id,
      ap (λ b. if b then Some (opening_place (setting_of_world x) 0 id) else None)
          (lt-ltb id (length x.places) (slice_get_within x.places id p is)),
      stands id p is,
    )

    none : (id : ℕ) → slice_get x.places id ≡ None → (opening (setting_of_world x) 0).net.places id ≡ None
    none id is = ap (λ b. if b then Some (opening_place (setting_of_world x) 0 id) else None) (not_below (nat_lt id (length x.places)) refl)
      where
        not_below : (b : Bool) → nat_lt id (length x.places) ≡ b → nat_lt id (length x.places) ≡ false
        not_below false e = e
        not_below true e = absurd (below_some x.places id is (ltb-true id (length x.places) e))

    watched_first : AreFirst (counts_in x.places (λ f number. None))
    watched_first = counts_first c x.places (omega (arith, some, opened.count_is)) (subst (λ n. AreOpened c n x.places) (sym opened.count_is) opened)

    budget : IsWithinBudget x.program x.bounds (opening (setting_of_world x) 0)
    budget = budget_at_opening (setting_of_world x) 0 x.bounds
        (subst (λ m. bounds_of m ≡ Ok x.bounds) (sym program) (certified.verified.bounds_are ∙ ap Ok (sym bounds)))

-- ---- one place more

pub each_more : (verified : Certified) (count n : ℕ) (old new : List PlaceState) (p : PlaceState) → length old ≡ n
    → ((id : ℕ) (q : PlaceState) → slice_get old id ≡ Some q → IsOpenedPlace verified count id q) → new ≡ old ++ p ∷ []
    → IsOpenedPlace verified count n p
    → (id : ℕ) (q : PlaceState) → slice_get new id ≡ Some q → IsOpenedPlace verified count id q
each_more verified count n old new p long each e opened id q is = elim (last_or_before old p q id (ap (λ ps. slice_get ps id) (sym e) ∙ is)) [
  | inl before ↦ each id q before
  | inr last ↦ subst (λ i. IsOpenedPlace verified count i q) (sym (last.0 ∙ long)) (subst (λ r. IsOpenedPlace verified count n r) last.1 opened)
]

pub length_more : {X : Type 0} (old new : List X) (x : X) (n : ℕ) → length old ≡ n → new ≡ old ++ x ∷ [] → length new ≡ n + 1
length_more old new x n long e = ap (λ xs. length xs) e ∙ length-append old (x ∷ []) ∙ ap (λ k. k + 1) long

-- ---- the world at the beginning

stopped_not : (b : Bool) → b ≡ false → b ≢ true
stopped_not b e f = cc

pub opened_world : (c : Certified) (count : ℕ) (places : List PlaceState) (flights : FlightsState) → IsCertified c → 0 < count → count ≤ 64
    → AreOpened c count places → flights.places ≡ count → flights.flying ≡ [] → IsWorld c.program c.bounds places flights false
opened_world c count places flights certified some few opened there quiet = record {
  belong = λ id p is. let o = opened.each id p is in record {
    program_is = o.is_new.program;
    bounds_are = o.is_new.bounds;
    id_is = o.is_new.store.here;
    places_are = o.is_new.store.places_is ∙ sym opened.count_is;
  };
  places_are = there ∙ sym opened.count_is;
  none_stopped = λ on id p is. stopped_not p.stopped (opened.each id p is).is_new.stopped;
  few = (let long = opened.count_is in omega (arith, long, few));
  world = opening (setting_of_world (world_of c places flights false)) 0;
  stands = opening_stands c count (world_of c places flights false) certified some refl refl opened quiet;
}
