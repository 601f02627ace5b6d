-- Where no activity is at any place and no frame flies, the run has ended, and place 0 knows it.
use Rattle.std.proofs.Common.{◌≡◌, ◌↔◌, ℕ, ◌<◌, ◌==◌, Bool, true, false, List, [], ◌∷◌, length, Option, Some, None, refl, sym, ap, subst, ◌∙◌}
use Rattle.std.specs.Prelude.{IsTrue, slice_get}
use Rattle.std.proofs.lemmas.Bool.{cond-true, eq-eqb, both_ways}
use Rattle.std.proofs.lemmas.Option.{same_Some, slice_get_within}
use Rattle.slab.specs.Slab.{get}
use Rattle.x10_model.specs.Modules.{Module}
use Rattle.x10_model.specs.Places.{Stay, root}
use Rattle.x10_model.specs.Worlds.{World, IsOver, stays, flies}
use Rattle.x10_model.proofs.Lists.{none_some}
use Rattle.x10_finish.specs.Chains.{IsChain}
use Rattle.x10_finish.specs.Closing.{unders_of}
use Rattle.x10_finish.specs.Nesting.{stays_in, stays_of}
use Rattle.x10_finish.proofs.WorldLemmas.{over_is_done}
use Rattle.x10_place.specs.Stays.{IsDoneHere}
use Rattle.x10_place.specs.StandsFor.{PlaceState, store_of}
use Rattle.x10_flights.specs.Flights.{Flight, flight_of, flight_among, goes_to, flies_to}
use Rattle.x10_world.specs.Queries.{IsClosed}
use Rattle.x10_world.specs.Rounds.{IsEmptyWorld}
use Rattle.x10_world.specs.StandsForWorld.{WorldState, BelongTo, IsWorld, StandsForWorld, counts_in}
use Rattle.x10_world.proofs.DeliveryEvents.{flight_below}
use Rattle.x10_world.proofs.StepLemmas.{done_by}

-- nobody is at any place
abbrev pub IsDeserted : WorldState → Type 0
IsDeserted x = (id : ℕ) (p : PlaceState) → slice_get x.places id ≡ Some p → (key : ℕ) → get p.stays key ≡ None

-- a frame that flies goes to a place that there is
pub none_flies : (x : WorldState) (w : World) → StandsForWorld x w
    → ((id : ℕ) → id < length x.places → (number : ℕ) → flies_to x.flights.flying id number ≡ false) → x.flights.flying ≡ []
none_flies x w stand none = at_list x.flights.flying refl
  where
    at_list : (fs : List Flight) → x.flights.flying ≡ fs → x.flights.flying ≡ []
    at_list [] e = e
    at_list (f ∷ fs) e =
        let found : flight_of x.flights f.number ≡ Some f = ap (λ gs. flight_among gs f.number) e
        ∙ cond-true (f.number == f.number) (Some f) (flight_among fs f.number) (eq-eqb f.number f.number refl) in
        let below = flight_below x.program x.bounds x.places x.flights w f.number f stand found in
        let goes : flies_to x.flights.flying f.to f.number ≡ true = ap (goes_to f.to) found ∙ eq-eqb f.to f.to refl in
        absurd (both_ways (flies_to x.flights.flying f.to f.number) (none f.to below f.number) goes)

module _ (x : WorldState) (w : World) (stand : StandsForWorld x w) (deserted : IsDeserted x) (still : x.flights.flying ≡ []) where
  no_flight : (number : ℕ) → flight_of x.flights number ≡ None
  no_flight number = ap (λ fs. flight_among fs number) still

  nobody_at : (place key : ℕ) (s : Stay) (o : Option PlaceState) → slice_get x.places place ≡ o → stays_of w.net place key ≡ Some s → ⊥
  nobody_at place key s None none there = none_some (stays_of w.net place key) s (ap (λ o. stays_in o key) (stand.none place none)) there
  nobody_at place key s (Some p) is there =
      let old = stand.some place p is in
      none_some (stays_of w.net place key) s (ap (λ o. stays_in o key) old.1 ∙ old.2.none key (deserted place p is key)) there

  pub nobody_lives : IsOver w
  nobody_lives a (stays stay rest begun is) =
      let chain : IsChain (stays_of w.net) (unders_of w.book a) (stay ∷ rest) =
      subst (λ names. IsChain (stays_of w.net) (unders_of w.book a) names) is (stand.watched.sound.linked.chained a begun) in
      nobody_at stay.0 stay.1 chain.0 (slice_get x.places stay.0) refl chain.1
  nobody_lives a (flies number message begun flying first carried) = (stand.flies.none number (no_flight number)).0 message flying

  -- and the home of the root lets it end
  pub root_is_done : BelongTo x.program x.bounds (length x.places) x.places → IsClosed x.places
  root_is_done belong p is =
      let belongs = belong 0 p is in
      done_by x.places stand.told 0 0 p is belongs.id_is belongs.places_are
      (over_is_done (length x.places) w (counts_in x.places stand.told) stand.watched nobody_lives
      (λ number message e. (stand.flies.none number (no_flight number)).0 message e)
      (λ number. (stand.flies.none number (no_flight number)).1 root) (slice_get_within x.places 0 p is))

pub quiet_is : (x : WorldState) → IsWorld x.program x.bounds x.places x.flights x.stopped → IsDeserted x → x.flights.flying ≡ [] → IsEmptyWorld x
quiet_is x world deserted still = record {
  nobody = deserted;
  flying = still;
  ended = record { over = λ w stand. nobody_lives x w stand deserted still };
  closed = root_is_done x world.world world.stands deserted still world.belong;
}

-- whether the root finish may end is what its home says
pub closed_is : (x z : WorldState) (program : Module) (bounds : List ℕ) (p : PlaceState) (b : Bool) → x ≡ z
    → BelongTo program bounds (length x.places) x.places → slice_get x.places 0 ≡ Some p → IsTrue b ↔ ((p.id ≡ 0) × IsDoneHere (store_of p) 0)
    → IsTrue b ↔ IsClosed z.places
closed_is x z program bounds p b seen belong is closed = subst (λ (t : WorldState). IsTrue b ↔ IsClosed t.places) seen (
  (λ t q at. subst (λ (r : PlaceState). IsDoneHere (store_of r) 0) (same_Some p q (sym is ∙ at)) (closed.0 t).1),
  (λ h. closed.1 ((belong 0 p is).id_is, h p is)),
)

-- a world without places has nothing that is open
pub closed_none : (x z : WorldState) → x ≡ z → slice_get x.places 0 ≡ None → IsClosed z.places
closed_none x z seen none = subst (λ (t : WorldState). IsClosed t.places) seen (λ p is. absurd (none_some (slice_get x.places 0) p none is))
