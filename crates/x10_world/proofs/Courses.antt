-- Courses of a world: an event more, one after another, and with more room at either end.
use Rattle.std.proofs.Common.{◌≡◌, ℕ, ◌+◌, ◌≤◌, Bool, true, false, List, [], ◌∷◌, ◌++◌, length, Option, Some, None, refl, sym, ap, subst, ◌∙◌, inl, inr}
use Rattle.x10_kinds.specs.declared.stop.Stop.{Stop}
use Rattle.x10_model.specs.Modules.{Module}
use Rattle.x10_model.specs.declared.event.Event.{Event}
use Rattle.x10_model.specs.declared.event.Event.TheVariants.{Step, Deliver}
use Rattle.x10_model.specs.declared.finish.Finish.{Finish}
use Rattle.x10_model.specs.Places.{Setting}
use Rattle.x10_model.specs.Worlds.{World, Ideal, Happens, WithinBounds}
use Rattle.x10_model.proofs.Events.{happens_right}
use Rattle.x10_finish.specs.Detection.{Told}
use Rattle.x10_place.specs.declared.sent.Outgoing.{Outgoing}
use Rattle.x10_place.specs.declared.sent.Sent.{Sent}
use Rattle.x10_place.specs.StandsFor.{PlaceState}
use Rattle.x10_flights.specs.Flights.{FlightsState, RisingBy, flight_among, taken_from, without}
use Rattle.x10_world.specs.Happenings.{AreUnchanged, Happened}
use Rattle.x10_world.specs.Prompt.{IsPrompt}
use Rattle.x10_world.specs.StandsForWorld.{WorldState, KeepsSetting, StandsForWorld, AllStandFor, Flies, with_posted, with_sent}
use Rattle.x10_world.specs.Runs.{IsSameWorld, Follows, StopsAt, Course, rests, goes}
use Rattle.x10_world.proofs.RunLemmas.{keeps_self, keeps_more}
use Rattle.x10_world.proofs.StoppedWorlds.{stand_stopped}

-- ---- frames in flight, and more room

pub unchanged_self : (s : FlightsState) → AreUnchanged s s
unchanged_self s = record { posted = refl; flying = refl }

pub unchanged_more : (s t u : FlightsState) → AreUnchanged s t → AreUnchanged t u → AreUnchanged s u
unchanged_more s t u a b = record { posted = b.posted ∙ a.posted; flying = b.flying ∙ a.flying }

posted_same : (s t : FlightsState) (o : Option Outgoing) → AreUnchanged s t → AreUnchanged (with_posted s o) (with_posted t o)
posted_same s t None same = same
posted_same s t (Some o) same = record {
  posted = ap (λ n. n + 1) same.posted;
  flying = ap (λ fs. fs ++ (record { number = t.posted; to = o.to; bytes = o.bytes.items }) ∷ []) same.flying
      ∙ ap (λ n. s.flying ++ (record { number = n; to = o.to; bytes = o.bytes.items }) ∷ []) same.posted;
}

pub sent_same : (s t : FlightsState) (out : Sent) → AreUnchanged s t → AreUnchanged (with_sent s out) (with_sent t out)
sent_same s t out same = posted_same (with_posted s out.message) (with_posted t out.message) out.report (posted_same s t out.message same)

taken_same : (s t : FlightsState) (number : ℕ) → AreUnchanged s t → AreUnchanged (taken_from s number) (taken_from t number)
taken_same s t number same = record { posted = same.posted; flying = ap (λ fs. without number fs) same.flying }

flies_same : (program : Module) (places : ℕ) (s t : FlightsState) (w : World) (told : Finish → ℕ → Option Told) → AreUnchanged s t
    → Flies program places s w told → Flies program places t w told
flies_same program places s t w told same h = record {
  rising = subst (λ fs. RisingBy (λ f. f.number) 0 fs t.posted) (sym same.flying)
      (subst (λ n. RisingBy (λ f. f.number) 0 s.flying n) (sym same.posted) h.rising);
  each = λ number flight is. h.each number flight (ap (λ fs. flight_among fs number) (sym same.flying) ∙ is);
  none = λ number none. h.none number (ap (λ fs. flight_among fs number) (sym same.flying) ∙ none);
  unused = λ number le. h.unused number (subst (λ n. n ≤ number) same.posted le);
}

pub stand_unchanged : (program : Module) (bounds : List ℕ) (places : List PlaceState) (s t : FlightsState) (w : World) → AreUnchanged s t
    → AllStandFor program bounds places s w → AllStandFor program bounds places t w
stand_unchanged program bounds places s t w same stand = record {
  some = stand.some;
  none = stand.none;
  told = stand.told;
  watched = stand.watched;
  answered = stand.answered;
  budget = stand.budget;
  flies = flies_same program (length places) s t w stand.told same stand.flies;
}

-- ---- the same state

pub same_self : (x : WorldState) → IsSameWorld x x
same_self x = record { places = refl; flights = unchanged_self x.flights; kept = keeps_self x; stopped = refl }

pub same_more : (x y z : WorldState) → IsSameWorld x y → IsSameWorld y z → IsSameWorld x z
same_more x y z a b = record {
  places = b.places ∙ a.places;
  flights = unchanged_more x.flights y.flights z.flights a.flights b.flights;
  kept = keeps_more x y z a.kept b.kept;
  stopped = b.stopped ∙ a.stopped;
}

-- what stands with one module and its bounds stands with the same ones
moved : (x y : WorldState) (w : World) → KeepsSetting x y → AllStandFor x.program x.bounds y.places y.flights w → StandsForWorld y w
moved x y w kept stand = subst (λ m. AllStandFor m y.bounds y.places y.flights w) (sym kept.program)
    (subst (λ bs. AllStandFor x.program bs y.places y.flights w) (sym kept.bounds) stand)

pub stand_same : (x y : WorldState) (w : World) → IsSameWorld x y → StandsForWorld x w → StandsForWorld y w
stand_same x y w same stand = moved x y w same.kept (subst (λ ps. AllStandFor x.program x.bounds ps y.flights w) (sym same.places)
    (stand_unchanged x.program x.bounds x.places x.flights y.flights w same.flights stand))

-- what an event does is the same with more room before
happened_before : (places : List PlaceState) (s t : FlightsState) (event : Event) (moved : Bool) (new : List PlaceState) (after : FlightsState)
    → AreUnchanged s t → Happened places t event moved new after → Happened places s event moved new after
happened_before places s t (Step id key) false new after same h =
    record { idle = h.idle; places_are = h.places_are; flights_are = unchanged_more s t after same h.flights_are }
happened_before places s t (Step id key) true new after same (out, h) = (
  out,
  record {
    place = h.place;
    next = h.next;
    is_there = h.is_there;
    busy = h.busy;
    leads = h.leads;
    places_are = h.places_are;
    flights_are = unchanged_more (with_sent s out) (with_sent t out) after (sent_same s t out same) h.flights_are;
  },
)
happened_before places s t (Deliver number) false new after same h = record {
  none = ap (λ fs. flight_among fs number) (sym same.flying) ∙ h.none;
  places_are = h.places_are;
  flights_are = unchanged_more s t after same h.flights_are;
}
happened_before places s t (Deliver number) true new after same (to, h) = (
  to,
  record {
    flight = h.flight;
    place = h.place;
    next = h.next;
    flying = ap (λ fs. flight_among fs number) (sym same.flying) ∙ h.flying;
    to_is = h.to_is;
    is_there = h.is_there;
    taken = h.taken;
    places_are = h.places_are;
    flights_are = unchanged_more (taken_from s number) (taken_from t number) after (taken_same s t number same) h.flights_are;
  },
)

pub follows_before : (x y z : WorldState) (event : Event) → IsSameWorld x y → Follows y event z → Follows x event z
follows_before x y z event same f = record {
  moved = f.moved;
  happened = happened_before x.places x.flights y.flights event f.moved z.places z.flights same.flights
      (subst (λ ps. Happened ps y.flights event f.moved z.places z.flights) same.places f.happened);
  kept = keeps_more x y z same.kept f.kept;
  goes = f.goes;
}

-- ---- courses

pub course_more : (setting : Setting) (bounds : List ℕ) (x y t : WorldState) (u v z : World) (events : List Event) (event : Event)
    → Course setting bounds x u events y v → Follows y event t → (h : Happens Ideal setting v event z)
    → (y.flights.flying ≡ [] → IsPrompt Ideal setting v event z h) → StandsForWorld t z → WithinBounds bounds z
    → Course setting bounds x u (events ++ event ∷ []) t z
course_more setting bounds x y t u v z [] event (rests a b w same stand p) f h prompt last q =
    goes a t t w z z event [] stand p (λ g. happens_right Ideal setting w z event h g) (follows_before a b t event same f) h
    (λ still. prompt (same.flights.flying ∙ still)) (rests t t z (same_self t) last q)
course_more setting bounds x y t u v z (e ∷ es) event (goes a b c u' v' w' e' es' stand p right first own soon far) f h prompt last q =
    goes a b t u' v' z e (es ++ event ∷ []) stand p right first own soon (course_more setting bounds b c t v' w' z es event far f h prompt last q)

-- from the same state, with less room
pub course_before : (setting : Setting) (bounds : List ℕ) (x y z : WorldState) (u w : World) (events : List Event) → IsSameWorld x y
    → StandsForWorld x u → Course setting bounds y u events z w → Course setting bounds x u events z w
course_before setting bounds x y z u w [] same stand (rests a b v again old p) = rests x b v (same_more x a b same again) stand p
course_before setting bounds x y z u w (e ∷ es) same stand (goes a b c u' v' w' e' es' old p right first own soon far) =
    goes x b c u' v' w' e' es' stand p right (follows_before x a b e' same first) own (λ still. soon (same.flights.flying ∙ still)) far

-- to the same state, with more room
pub course_same : (setting : Setting) (bounds : List ℕ) (x y z : WorldState) (u w : World) (events : List Event)
    → Course setting bounds x u events y w → IsSameWorld y z → Course setting bounds x u events z w
course_same setting bounds x y z u w [] (rests a b v again stand p) same = rests a z v (same_more a b z again same) stand p
course_same setting bounds x y z u w (e ∷ es) (goes a b c u' v' w' e' es' stand p right first own soon far) same =
    goes a b z u' v' w' e' es' stand p right first own soon (course_same setting bounds b c z v' w' es' far same)

pub course_on : (setting : Setting) (bounds : List ℕ) (x y z : WorldState) (u v w : World) (events more : List Event)
    → Course setting bounds x u events y v → Course setting bounds y v more z w → Course setting bounds x u (events ++ more) z w
course_on setting bounds x y z u v w [] more (rests a b t same stand p) rest = course_before setting bounds a b z t w more same stand rest
course_on setting bounds x y z u v w (e ∷ es) more (goes a b c u' v' w' e' es' stand p right first own soon far) rest =
    goes a b z u' v' w e' (es' ++ more) stand p right first own soon (course_on setting bounds b c z v' w' w es' more far rest)

-- ---- after a Stop

-- what stood for a world does so after an event was refused
pub stop_stands : (x y : WorldState) (event : Event) (why : Stop) (w : World) → StopsAt x event why y → StandsForWorld x w → StandsForWorld y w
stop_stands x y event why w s stand = moved x y w s.kept (stand_unchanged x.program x.bounds y.places x.flights y.flights w s.flights (elim s.places [
  | inl same ↦ subst (λ ps. AllStandFor x.program x.bounds ps x.flights w) (sym same) stand
  | inr one ↦ subst (λ ps. AllStandFor x.program x.bounds ps x.flights w) (sym one.4)
      (stand_stopped x.program x.bounds x.places x.flights one.0 one.1 w one.3 stand)
]))
