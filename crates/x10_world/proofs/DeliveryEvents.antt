-- What a delivery does to places and frames in flight is an event of each world of the machine for which they stand.
use Rattle.std.proofs.Common.{◌≡◌, ◌≢◌, ℕ, ◌<◌, Bool, true, false, List, length, Option, Some, None, Ok, Err, refl, sym, ap, subst, ◌∙◌, inl, inr}
use Rattle.std.specs.Prelude.{IfNone, IfSome, slice_get, slice_set}
use Rattle.std.proofs.lemmas.Option.{same_Some}
use Rattle.std.proofs.lemmas.List.{length-set}
use Rattle.x10_model.specs.Modules.{Module}
use Rattle.x10_model.specs.Structure.{bounds_of}
use Rattle.x10_model.specs.declared.event.Event.TheVariants.{Deliver}
use Rattle.x10_model.specs.Places.{receiver}
use Rattle.x10_model.specs.Worlds.{World, idle, not_flying}
use Rattle.x10_model.proofs.Lists.{none_some}
use Rattle.x10_verify.specs.Certified.{Certified}
use Rattle.x10_copy.specs.declared.refusal.Refusal.{Refusal}
use Rattle.x10_place.specs.Receiving.{IsTaken, IsRefusedBytes, stops}
use Rattle.x10_place.specs.StandsFor.{PlaceState, Keeps}
use Rattle.x10_flights.specs.Flights.{Flight, FlightsState, flight_of, taken_from}
use Rattle.x10_world.specs.StandsForWorld.{IsWorld, AllStandFor, IsWantOfRoom, stop_for_refusal}
use Rattle.x10_world.specs.EventAnswers.{Handles}
use Rattle.x10_place.proofs.KnownExports.{receiver_is}
use Rattle.x10_world.proofs.ChangedPlace.{ChangesOne, belong_after, none_stopped_after, few_after}
use Rattle.x10_world.proofs.DeliveryLemmas.{delivery_leads}
use Rattle.x10_world.proofs.RefusalLemmas.{none_is_refused}
use Rattle.x10_world.proofs.StoppedWorlds.{stand_stopped}
use Rattle.x10_world.proofs.Courses.{unchanged_self}
use Rattle.x10_world.proofs.EventLemmas.{MakesIn}

-- ---- a delivery

to_report : (to : ℕ) (flight : Flight) (count : ℕ) → flight.to ≡ to → to < count → flight.to < count
to_report to flight count e less = subst (λ n. n < count) (sym e) less

-- a frame in flight goes to a place that there is
pub flight_below : (program : Module) (bounds : List ℕ) (places : List PlaceState) (flights : FlightsState) (w : World) (number : ℕ) (flight : Flight)
    → AllStandFor program bounds places flights w → flight_of flights number ≡ Some flight → flight.to < length places
flight_below program bounds places flights w number flight stand is = elim (stand.flies.each number flight is) [
  | inl m ↦ to_report (receiver m.message) flight (length places) m.to_is
      (subst (λ n. n < length places) (sym (receiver_is m.carries.frame m.message m.carries.message_is)) m.carries.fits.to)
  | inr r ↦ r.carries.fits.to
]

-- there is no such frame
pub handles_nothing : (c : Certified) (places : List PlaceState) (flights : FlightsState) (number : ℕ)
    → IsWorld c.program c.bounds places flights false → flight_of flights number ≡ None
    → Handles c places flights (Deliver number) (Ok false) places flights
handles_nothing c places flights number world none = record {
  count = refl;
  world = world;
  made = λ w stand. (w, idle (Deliver number) (not_flying number (stand.flies.none number none).0), (λ still. tt), stand);
  told = record { none = none; places_are = refl; flights_are = unchanged_self flights };
  stops = tt;
}

module _ (c : Certified) (places : List PlaceState) (flights : FlightsState) (number : ℕ) (flight : Flight) (p q : PlaceState)
    (bounds-are : bounds_of c.program ≡ Ok c.bounds) (world : IsWorld c.program c.bounds places flights false)
    (is : flight_of flights number ≡ Some flight)
    (there : slice_get places flight.to ≡ Some p) (kept : Keeps p q) where
  changes : (Q : PlaceState → PlaceState → Type 0) → Q p q → ChangesOne Q places (slice_set places flight.to q) flight.to
  changes Q h = record {
    gone = λ e. absurd (none_some (slice_get places flight.to) p e there);
    there = λ r e. (q, refl, subst (λ x. Q x q) (same_Some p r (sym there ∙ e)) h);
  }

  still_on : false ≢ true
  still_on e = cc

  -- its receiver took it in
  pub handles_taken : IsTaken p flight.bytes q → q.stopped ≢ true
      → Handles c places flights (Deliver number) (Ok true) (slice_set places flight.to q) (taken_from flights number)
  handles_taken taken goes = record {
    count = length-set places flight.to q;
    world = record {
      belong = belong_after c.program c.bounds places (slice_set places flight.to q) flight.to world.belong (changes Keeps kept);
      places_are = world.places_are ∙ sym (length-set places flight.to q);
      none_stopped = λ off. none_stopped_after places (slice_set places flight.to q) flight.to (world.none_stopped still_on)
          (changes (λ x y. y.stopped ≢ true) goes);
      few = few_after Keeps places (slice_set places flight.to q) flight.to (changes Keeps kept) world.few;
      world = (makes world.world world.stands).0;
      stands = (makes world.world world.stands).3;
    };
    made = makes;
    told = (
      flight.to,
      record {
        flight = flight;
        place = p;
        next = q;
        flying = is;
        to_is = refl;
        is_there = there;
        taken = taken;
        places_are = refl;
        flights_are = unchanged_self (taken_from flights number);
      },
    );
    stops = tt;
  }
    where
      makes : (w : World) → AllStandFor c.program c.bounds places flights w
          → MakesIn c.program c.bounds places flights w (Deliver number) (slice_set places flight.to q) (taken_from flights number)
      makes w stand = let v = delivery_leads c.program c.bounds places flights w number flight p q bounds-are world.belong stand is there taken in
          (v.0, v.1, (λ still. v.2), v.3)

  -- why it may be refused
  for_room : (why : Refusal) → IsRefusedBytes p flight.bytes why → IsWantOfRoom why
  for_room why refused = none_is_refused c.program c.bounds places flights world.world number flight p why world.belong world.stands is there refused

  -- its receiver refused it
  pub handles_refusal : (why : Refusal) → q ≡ record p { stopped = stops why } → IsRefusedBytes p flight.bytes why
      → Handles c places flights (Deliver number) (Err (stop_for_refusal why)) (slice_set places flight.to q) flights
  handles_refusal why left refused = record {
    count = length-set places flight.to q;
    world = record {
      belong = belong_after c.program c.bounds places (slice_set places flight.to q) flight.to world.belong (changes Keeps kept);
      places_are = world.places_are ∙ sym (length-set places flight.to q);
      none_stopped = λ off. absurd (off refl);
      few = few_after Keeps places (slice_set places flight.to q) flight.to (changes Keeps kept) world.few;
      world = world.world;
      stands = stands world.world world.stands;
    };
    made = tt;
    told = tt;
    stops = record {
      hindered = record {
        flight = flight;
        flying = is;
        place = p;
        is_there = there;
        refused_as = why;
        refused = refused;
        for_room = for_room why refused;
        why_is = refl;
      };
      places = inr (flight.to, p, (flight, is, refl), there, ap (λ r. slice_set places flight.to r) same);
      flights = unchanged_self flights;
      kept = record { program = refl; bounds = refl; count = length-set places flight.to q };
      stopped = refl;
    };
  }
    where
      -- a place has stopped where memory was refused, or at a limit
      stopping : (r : Refusal) → IsWantOfRoom r → stops r ≡ true
      stopping r (inl memory) = ap (λ x. stops x) memory
      stopping r (inr limit) = ap (λ x. stops x) limit.1

      same : q ≡ record p { stopped = true }
      same = left ∙ ap (λ (b : Bool). record p { stopped = b }) (stopping why (for_room why refused))

      stands : (w : World) → AllStandFor c.program c.bounds places flights w → AllStandFor c.program c.bounds (slice_set places flight.to q) flights w
      stands w stand = subst (λ r. AllStandFor c.program c.bounds (slice_set places flight.to r) flights w) (sym same)
          (stand_stopped c.program c.bounds places flights flight.to p w there stand)

-- a frame that is in flight is what was taken
pub taken_is : {X : Type 0} (r : Option X) (found : Option Flight) (flight : Flight) (P : X → Type 0) (new old taken : FlightsState)
    → IfNone r ((found ≡ None) × (new ≡ old)) → IfSome r (λ x. P x × (new ≡ taken)) → found ≡ Some flight → new ≡ taken
taken_is None found flight P new old taken none some is = absurd (none_some found flight none.0 is)
taken_is (Some x) found flight P new old taken none some is = some.1
