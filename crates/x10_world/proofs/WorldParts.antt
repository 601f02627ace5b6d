-- The parts of a world, while an event changes them.
use Rattle.std.proofs.Common.{◌≡◌, ◌≢◌, ℕ, ◌<◌, ◌≤◌, Bool, true, false, List, length, get_or, Some, Result, Ok, Err, refl, sym, ap, subst, ◌∙◌, inl, inr}
use Rattle.std.specs.Prelude.{slice_get, slice_set}
use Rattle.std.specs.Result.{is_err}
use Rattle.std.proofs.lemmas.Bool.{cases_eq}
use Rattle.std.proofs.lemmas.List.{length-set}
use Rattle.std.proofs.lemmas.Option.{slice_get-get_or, same_Some}
use Rattle.x10_kinds.specs.declared.stop.Stop.{Stop}
use Rattle.x10_model.specs.Structure.{bounds_of}
use Rattle.x10_model.specs.declared.event.Event.{Event}
use Rattle.x10_model.specs.declared.event.Event.TheVariants.{Step, Deliver}
use Rattle.x10_model.proofs.Lists.{set_off}
use Rattle.x10_verify.specs.Certified.{Certified}
use Rattle.x10_flights.specs.Flights.{Flight, FlightsState, flight_of, with_room}
use Rattle.x10_flights.specs.PlaceSets.{has_place}
use Rattle.x10_place.specs.declared.place.Stepped.{Stepped}
use Rattle.x10_place.specs.declared.place.Stepped.TheVariants as stepped
use Rattle.x10_place.specs.declared.sent.Sent.{Sent}
use Rattle.x10_place.specs.Messages.{no_sent}
use Rattle.x10_place.specs.StandsFor.{PlaceState}
use Rattle.x10_world.specs.declared.world.World.TheInside.{Inside}
use Rattle.x10_world.specs.EventAnswers.{Handles, AnswersEvent, Stretches}
use Rattle.x10_world.specs.Happenings.{IsReceiver}
use Rattle.x10_world.specs.Living.{has_activity, lives_in, AreLiving}
use Rattle.x10_world.specs.StandsForWorld.{WorldState, world_of, IsWorld, StepsOne, RunsOne, IsRunOn, IsRoomless, GoesBelow, after_step, with_sent}
use Rattle.x10_world.proofs.CallAnswers.{world_on, seen_on, answers_event}
use Rattle.x10_world.proofs.EventLemmas.{did_of, handles_made, handles_refused, sent_below}
use Rattle.x10_world.proofs.Lists.{set_here}
use Rattle.x10_world.proofs.PlaceSteps.{Answered, none_there, one_there}
use Rattle.x10_world.proofs.StretchLemmas.{no_run, one_run, stretches_roomless, stretches_made, stretches_refused, stretch_below}

-- ---- a world that has not stopped

not_on : (b : Bool) → b ≢ true → b ≡ false
not_on true on = absurd (on refl)
not_on false on = refl

-- its parts are a world's that goes on
pub record IsBegun (c : Certified) (places : List PlaceState) (flights : FlightsState) (b : Bool) (z : WorldState) : Type 0 where
  pub world : IsWorld c.program c.bounds places flights false
  pub seen : world_of c places flights false ≡ z
  pub off : b ≡ false

pub begun : (r s : Inside) (z : WorldState) → r ≡ s → IsWorld s.verified.now.program s.verified.now.bounds s.places s.flights s.stopped
    → world_of s.verified.now s.places s.flights s.stopped ≡ z → z.stopped ≢ true → IsBegun r.verified.now r.places r.flights r.stopped z
begun r s z e world seen on = subst (λ (t : Inside). IsBegun t.verified.now t.places t.flights t.stopped z) (sym e)
    (record {
      world = world_on s.verified.now.program s.verified.now.bounds s.places s.flights s.stopped world off;
      seen = seen_on s.verified.now s.places s.flights s.stopped z seen on;
      off = not_on s.stopped off;
    })
  where
    off : s.stopped ≢ true
    off t = on (sym (ap (λ (x : WorldState). x.stopped) seen) ∙ t)

module _ (c : Certified) (places : List PlaceState) (flights : FlightsState) (b : Bool) (z : WorldState) (begins : IsBegun c places flights b z) where
  -- what the world answers, and what it is then
  pub answers_of : (event : Event) (result : Result Bool Stop) (new : List PlaceState) (after : FlightsState) (d : Bool)
      → Handles c places flights event result new after → d ≡ is_err result
      → AnswersEvent z event result (world_of c new after d)
  answers_of event result new after d h e = answers_event c places flights z begins.seen event new after d result h e

  pub world_of_event : (event : Event) (result : Result Bool Stop) (new : List PlaceState) (after : FlightsState) (d : Bool)
      → Handles c places flights event result new after → d ≡ is_err result
      → IsWorld c.program c.bounds new after d
  world_of_event event result new after d h e = subst (λ x. IsWorld c.program c.bounds new after x) (sym e) h.world

  pub world_of_run : (id key most : ℕ) (result : Result ℕ Stop) (new : List PlaceState) (after : FlightsState) (d : Bool)
      → Stretches c places flights id key most result new after
      → d ≡ is_err result → IsWorld c.program c.bounds new after d
  world_of_run id key most result new after d h e = subst (λ x. IsWorld c.program c.bounds new after x) (sym e) h.world

-- ---- one of its places

-- the place that was there
pub was_there : (places : List PlaceState) (at : ℕ) (p : PlaceState) → at < length places → p ≡ get_or places at p → slice_get places at ≡ Some p
was_there places at p within is = slice_get-get_or places at p within ∙ ap Some (sym is)

-- which places have activities, after one of them has changed
pub living_set : (places : List PlaceState) (living set id at again : ℕ) (p q r : PlaceState) → at ≡ id → again ≡ id → at < length places
    → p ≡ get_or places at p → AreLiving places living
    → r ≡ get_or (slice_set places at q) again r → has_place set id ≡ has_activity r
    → ((other : ℕ) → other ≢ id → has_place set other ≡ has_place living other) → AreLiving (slice_set places at q) set
living_set places living set id at again p q r here there within is lives seen noted others = record {
  few = subst (λ n. n ≤ 64) (sym (length-set places at q)) lives.few;
  each = λ other. elim (cases_eq other id) [
    | inl same ↦ ap (has_place set) same ∙ noted ∙ ap has_activity new_is
        ∙ sym (ap lives_in (ap (slice_get (slice_set places at q)) (same ∙ sym here) ∙ at_here))
    | inr ne ↦ others other ne ∙ lives.each other ∙ sym (ap lives_in (set_off places at other q (λ e. ne (e ∙ here))))
  ];
}
  where
    at_here : slice_get (slice_set places at q) at ≡ Some q
    at_here = set_here places at q p (was_there places at p within is)

    new_is : r ≡ q
    new_is = same_Some r q (sym (was_there (slice_set places at q) again r
        (subst (λ n. n < length (slice_set places at q)) (here ∙ sym there) (subst (λ n. at < n) (sym (length-set places at q)) within)) seen)
        ∙ ap (slice_get (slice_set places at q)) (there ∙ sym here) ∙ at_here)

-- a frame at one of them
pub handled_there : (c : Certified) (places : List PlaceState) (flights after : FlightsState) (event : Event) (result : Result Bool Stop) (at to : ℕ)
    (q : PlaceState) → at ≡ to
    → Handles c places flights event result (slice_set places to q) after → Handles c places flights event result (slice_set places at q) after
handled_there c places flights after event result at to q here h =
    subst (λ n. Handles c places flights event result (slice_set places n q) after) (sym here) h

-- ---- what a delivery's frame is for

pub receiver_is : (x z : WorldState) (event : Event) (number : ℕ) (flight : Flight) → x ≡ z → event ≡ Deliver number
    → flight_of x.flights number ≡ Some flight → IsReceiver z.flights event (Some flight.to)
receiver_is x z event number flight seen names is = subst (λ (y : WorldState). IsReceiver y.flights event (Some flight.to)) seen
    (subst (λ e. IsReceiver x.flights e (Some flight.to)) (sym names) (flight, is, refl))

-- ---- what it did, as the world handles it

module _ (c : Certified) (places : List PlaceState) (flights : FlightsState) (b : Bool) (z : WorldState) (begins : IsBegun c places flights b z)
    (bounds-are : bounds_of c.program ≡ Ok c.bounds) where
  -- there is no such place
  pub step_nowhere : (id key : ℕ) (after : FlightsState) → length places ≤ id → after ≡ with_room flights
      → Handles c places flights (Step id key) (Ok false) places after
  step_nowhere id key after past same = handles_made c places places flights id key bounds-are begins.world stepped.Idle after
      (none_there places id key past) same

  pub run_nowhere : (id key most : ℕ) (after : FlightsState) → length places ≤ id → after ≡ with_room flights
      → Stretches c places flights id key most (Ok 0) places after
  run_nowhere id key most after past same = stretches_made c places places flights id key most 0 bounds-are begins.world no_sent after
      (no_run places id key most past) same

  -- there was no room
  pub run_roomless : (id key most : ℕ) (after : FlightsState) (why : Stop) → after ≡ flights → IsRoomless flights why
      → Stretches c places flights id key most (Err why) places after
  run_roomless id key most after why same roomless = stretches_roomless c places places flights id key most 0 bounds-are begins.world after why same
      roomless

  module _ (id key at : ℕ) (p q : PlaceState) (here : at ≡ id) (within : at < length places) (is : p ≡ get_or places at p) where
    one_step : (result : Result Stepped Stop) → Answered p q key result → StepsOne places (slice_set places at q) id key result
    one_step result answered = subst (λ n. StepsOne places (slice_set places at q) n key result) here
        (one_there places at key p q result (was_there places at p within is) answered)

    pub step_made : (answer : Stepped) (after : FlightsState) → Answered p q key (Ok answer) → after ≡ after_step (with_room flights) answer
        → Handles c places flights (Step id key) (Ok (did_of answer)) (slice_set places at q) after
    step_made answer after answered same = handles_made c places (slice_set places at q) flights id key bounds-are begins.world answer after
        (one_step (Ok answer) answered) same

    pub step_refused : (why : Stop) (after : FlightsState) → Answered p q key (Err why) → after ≡ with_room flights
        → Handles c places flights (Step id key) (Err why) (slice_set places at q) after
    step_refused why after answered same = handles_refused c places (slice_set places at q) flights id key bounds-are begins.world after why
        (one_step (Err why) answered) same

    pub step_below : (out : Sent) (after : FlightsState) → Answered p q key (Ok (stepped.Moved out)) → after ≡ with_room flights
        → GoesBelow after.places out
    step_below out after answered same = subst (λ n. GoesBelow n out) (sym (ap (λ (g : FlightsState). g.places) same))
        (sent_below c places (slice_set places at q) flights id key bounds-are begins.world out (one_step (Ok (stepped.Moved out)) answered))

    one_stretch : (most n : ℕ) (result : Result Sent Stop) → IsRunOn p q key most n result
        → RunsOne places (slice_set places at q) id key most n result
    one_stretch most n result run = subst (λ m. RunsOne places (slice_set places at q) m key most n result) here
        (one_run places at key most n result p q (was_there places at p within is) run)

    pub run_made : (most n : ℕ) (out : Sent) (after : FlightsState) (result : Result Sent Stop) → IsRunOn p q key most n result → result ≡ Ok out
        → after ≡ with_sent (with_room flights) out
        → Stretches c places flights id key most (Ok n) (slice_set places at q) after
    run_made most n out after result run is_ok same = stretches_made c places
        (slice_set places at q) flights id key most n bounds-are begins.world out after
        (subst (λ r. RunsOne places (slice_set places at q) id key most n r) is_ok (one_stretch most n result run)) same

    pub run_refused : (most n : ℕ) (why : Stop) (after : FlightsState) (result : Result Sent Stop) → IsRunOn p q key most n result → result ≡ Err why
        → after ≡ with_room flights
        → Stretches c places flights id key most (Err why) (slice_set places at q) after
    run_refused most n why after result run is_err same = stretches_refused c places
        (slice_set places at q) flights id key most n bounds-are begins.world after why
        (subst (λ r. RunsOne places (slice_set places at q) id key most n r) is_err (one_stretch most n result run)) same

    pub run_below : (most n : ℕ) (out : Sent) (after : FlightsState) (result : Result Sent Stop) → IsRunOn p q key most n result → result ≡ Ok out
        → after ≡ with_room flights
        → GoesBelow after.places out
    run_below most n out after result run is_ok same = subst (λ m. GoesBelow m out) (sym (ap (λ (g : FlightsState). g.places) same))
        (stretch_below c places (slice_set places at q) flights id key most n bounds-are begins.world out
        (subst (λ r. RunsOne places (slice_set places at q) id key most n r) is_ok (one_stretch most n result run)))
