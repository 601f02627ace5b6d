-- What an event did, as a world tells it.
use Rattle.std.specs.Prelude.{◌≡◌, ℕ, ◌+◌, Bool, true, false, List, Option, Some, None, slice_get, slice_set}
use Rattle.slab.specs.Slab.{get}
use Rattle.x10_code.specs.declared.op.Op.{Op}
use Rattle.x10_model.specs.declared.event.Event.{Event}
use Rattle.x10_model.specs.declared.event.Event.TheVariants.{Step, Deliver}
use Rattle.x10_place.specs.declared.place.Stepped.TheVariants as stepped
use Rattle.x10_place.specs.declared.sent.Outgoing.{Outgoing}
use Rattle.x10_place.specs.declared.sent.Sent.{Sent}
use Rattle.x10_place.specs.Receiving.{IsTaken}
use Rattle.x10_place.specs.StandsFor.{PlaceState, LeadsAll, IsIdleAt, IsAt, IsOperation}
use Rattle.x10_world.specs.declared.done.Done.{Done}
use Rattle.x10_world.specs.declared.done.Done.TheVariants as done
use Rattle.x10_flights.specs.Flights.{Flight, FlightsState, flight_of, taken_from}
use Rattle.x10_world.specs.StandsForWorld.{WorldState, with_sent}

-- how many frames there are, none or one
abbrev pub one_if : Option Outgoing → ℕ
one_if None = 0
one_if (Some o) = 1

-- how many frames a step put out
abbrev pub frame_count : Sent → ℕ
frame_count out = one_if out.message + one_if out.report

-- The frames in flight are as they were; there may be room for more.
pub record AreUnchanged (old new : FlightsState) : Type 0 where
  pub posted : new.posted ≡ old.posted
  pub flying : new.flying ≡ old.flying

-- A step of the activity with a key at a place found nothing to do, and changed nothing.
pub record WasIdle (places : List PlaceState) (flights : FlightsState) (id key : ℕ)
    (new : List PlaceState) (after : FlightsState) : Type 0 where
  pub idle : (p : PlaceState) → slice_get places id ≡ Some p → IsIdleAt p key
  pub places_are : new ≡ places
  pub flights_are : AreUnchanged flights after

-- A place made a step of the activity with a key, which was not idle, and what it put out is in flight.
pub record HasMoved (places : List PlaceState) (flights : FlightsState) (id key : ℕ) (out : Sent)
    (new : List PlaceState) (after : FlightsState) : Type 0 where
  pub place : PlaceState
  pub next : PlaceState
  pub is_there : slice_get places id ≡ Some place
  pub busy : IsIdleAt place key → ⊥
  pub leads : LeadsAll place key (stepped.Moved out) next
  pub places_are : new ≡ slice_set places id next
  pub flights_are : AreUnchanged (with_sent flights out) after

-- There was no frame in flight with a number, and nothing has changed.
pub record WasNowhere (places : List PlaceState) (flights : FlightsState) (number : ℕ)
    (new : List PlaceState) (after : FlightsState) : Type 0 where
  pub none : flight_of flights number ≡ None
  pub places_are : new ≡ places
  pub flights_are : AreUnchanged flights after

-- The frame in flight with a number was taken in by the place that it was for.
pub record HasTaken (places : List PlaceState) (flights : FlightsState) (number to : ℕ)
    (new : List PlaceState) (after : FlightsState) : Type 0 where
  pub flight : Flight
  pub place : PlaceState
  pub next : PlaceState
  pub flying : flight_of flights number ≡ Some flight
  pub to_is : flight.to ≡ to
  pub is_there : slice_get places to ≡ Some place
  pub taken : IsTaken place flight.bytes next
  pub places_are : new ≡ slice_set places to next
  pub flights_are : AreUnchanged (taken_from flights number) after

-- what an event did to the parts of a world: nothing, or something
abbrev pub Happened : List PlaceState → FlightsState → Event → Bool → List PlaceState → FlightsState
    → Type 0
Happened places flights (Step id key) false new after = WasIdle places flights id key new after
Happened places flights (Step id key) true new after = (out : Sent)
    × HasMoved places flights id key out new after
Happened places flights (Deliver number) false new after =
    WasNowhere places flights number new after
Happened places flights (Deliver number) true new after = (to : ℕ)
    × HasTaken places flights number to new after

-- An event would do something: there is an activity with the key at the place, and it can move; or there is a frame in flight
-- with the number.
abbrev pub CanHappen : WorldState → Event → Type 0
CanHappen x (Step id key) = (p : PlaceState) × (slice_get x.places id ≡ Some p)
    × (IsIdleAt p key → ⊥)
CanHappen x (Deliver number) = (f : Flight) × (flight_of x.flights number ≡ Some f)

-- no activity of a place can move
abbrev pub AllIdle : WorldState → ℕ → Type 0
AllIdle x id = (p : PlaceState) → slice_get x.places id ≡ Some p → (key : ℕ) → IsIdleAt p key

-- no frame is in flight
abbrev pub NoneFlies : WorldState → Type 0
NoneFlies x = (number : ℕ) → flight_of x.flights number ≡ None

-- no event would do anything
abbrev pub NothingCanHappen : WorldState → Type 0
NothingCanHappen x = (event : Event) → CanHappen x event → ⊥

-- the activity with a key at a place stands at the instruction with a number of a function, and at an operation
pub record StandsAtInstr (places : List PlaceState) (id key function pc : ℕ)
    (op : Op) : Type 0 where
  pub place : PlaceState
  pub is_there : slice_get places id ≡ Some place
  pub at : IsAt place.stays key function pc
  pub operation : IsOperation place.program function pc op

-- where the activity of a step stands, if it is there
abbrev pub IsStood : List PlaceState → Event → Option (ℕ × ℕ × Op) → Type 0
IsStood places (Step id key) None = (p : PlaceState) → slice_get places id ≡ Some p
    → get p.stays key ≡ None
IsStood places (Step id key) (Some at) = StandsAtInstr places id key at.0 at.1 at.2
IsStood places (Deliver number) at = at ≡ None

-- the place that a delivery's frame is for, if it is in flight
abbrev pub IsReceiver : FlightsState → Event → Option ℕ → Type 0
IsReceiver flights (Step id key) o = o ≡ None
IsReceiver flights (Deliver number) None = flight_of flights number ≡ None
IsReceiver flights (Deliver number) (Some to) = (f : Flight) × (flight_of flights number ≡ Some f)
    × (f.to ≡ to)

-- A step was made at an instruction, and put out so many frames, numbered one after another from a number on.
pub record IsMove (x : WorldState) (id key function pc : ℕ) (op : Op) (first count : ℕ)
    (y : WorldState) : Type 0 where
  pub out : Sent
  pub moved : HasMoved x.places x.flights id key out y.places y.flights
  pub stood : StandsAtInstr x.places id key function pc op
  pub first_is : first ≡ x.flights.posted
  pub count_is : count ≡ frame_count out

-- what an event did, as it is told
abbrev pub HasDone : WorldState → Event → Done → WorldState → Type 0
HasDone x (Step id key) done.Idle y = WasIdle x.places x.flights id key y.places y.flights
HasDone x (Step id key) (done.Moved function pc op first count) y =
    IsMove x id key function pc op first count y
HasDone x (Step id key) (done.Taken to) y = ⊥
HasDone x (Deliver number) done.Idle y = WasNowhere x.places x.flights number y.places y.flights
HasDone x (Deliver number) (done.Moved function pc op first count) y = ⊥
HasDone x (Deliver number) (done.Taken to) y =
    HasTaken x.places x.flights number to y.places y.flights
