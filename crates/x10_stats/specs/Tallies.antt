-- Which activity each stay is of, how many steps that has made, and what is told of each function.
use Rattle.std.specs.Prelude.{◌≡◌, ℕ, ◌-◌, max, Bool, List, [], ◌++◌, Option, Some, None, length, replicate, slice_get, slice_set, if◌then◌else◌}
use Rattle.slab.specs.Slab.{get}
use Rattle.x10_flights.specs.Flights.{Flight, flight_of}
use Rattle.x10_model.specs.Places.{Origin}
use Rattle.x10_model.specs.declared.event.Event.{Event}
use Rattle.x10_model.specs.declared.event.Event.TheVariants.{Step, Deliver}
use Rattle.x10_place.specs.Stays.{StayState}
use Rattle.x10_place.specs.StandsFor.{PlaceState}
use Rattle.x10_verify.specs.Certified.{Certified}
use Rattle.x10_world.specs.StandsForWorld.{BelongsTo, WorldState}
use Rattle.x10_world.specs.declared.done.Done.{Done}
use Rattle.x10_world.specs.declared.done.Done.TheVariants as done
use Rattle.x10_stats.specs.Stats.{sum}
use Rattle.x10_stats.specs.declared.activity.Activity.{Activity}
use Rattle.x10_stats.specs.declared.sight.Sight.{Sight}
use Rattle.x10_stats.specs.declared.tally.Begun.{Begun}

-- By place and by key the activity of the stay there, or of the last one that was there; and what is told of each function. An
-- activity that is away is right where its last stay is; those that wait for it have what it had when it went. Where they are
-- kept, there are also all activities by their numbers; and always the number that the next one gets.
pub record TallyState : Type 0 where
  pub rows : List (List Activity)
  pub functions : List Begun
  pub all : List Activity
  pub next : ℕ
  pub kept : Bool

-- ---- what there is at a place

abbrev pub nobody : Activity
nobody = record { number = 0; place = 0; function = 0; steps = 0 }

abbrev pub or_nobody : Option Activity → Activity
or_nobody None = nobody
or_nobody (Some a) = a

abbrev pub in_row : List Activity → ℕ → Activity
in_row row key = or_nobody (slice_get row key)

abbrev pub in_any_row : Option (List Activity) → ℕ → Activity
in_any_row None key = nobody
in_any_row (Some row) key = in_row row key

-- the activity of the stay with a key at a place
abbrev pub activity_at : TallyState → ℕ → ℕ → Activity
activity_at t place key = in_any_row (slice_get t.rows place) key

abbrev pub with_row : List (List Activity) → ℕ → ℕ → Activity → Option (List Activity)
    → List (List Activity)
with_row rows place key a None = rows
with_row rows place key a (Some row) = slice_set rows place (slice_set row key a)

-- the stay with a key at a place is of this activity now
abbrev pub with_activity : TallyState → ℕ → ℕ → Activity → TallyState
with_activity t place key a = record t {
  rows = with_row t.rows place key a (slice_get t.rows place);
}

-- with room for one with the key
abbrev pub row_with_room : List Activity → ℕ → List Activity
row_with_room row key = row ++ replicate (sum key 1 - length row) nobody

abbrev pub rows_with_room : List (List Activity) → ℕ → ℕ → Option (List Activity)
    → List (List Activity)
rows_with_room rows place key None = rows
rows_with_room rows place key (Some row) = slice_set rows place (row_with_room row key)

-- the stay that begins with a key at a place has room
abbrev pub with_room : TallyState → ℕ → ℕ → TallyState
with_room t place key = record t {
  rows = rows_with_room t.rows place key (slice_get t.rows place);
}

-- ---- all activities by their numbers

abbrev pub all_with_room : List Activity → ℕ → Bool → List Activity
all_with_room all next kept = if kept then row_with_room all next else all

-- the next activity that begins has room, where all are kept
abbrev pub with_next_room : TallyState → TallyState
with_next_room t = record t { all = all_with_room t.all t.next t.kept }

-- room for a stay with a key at a place, and for the activity that it may begin
abbrev pub with_rooms : TallyState → ℕ → ℕ → TallyState
with_rooms t place key = with_room (with_next_room t) place key

-- what an activity is now stands at its number
abbrev pub with_known : TallyState → Activity → TallyState
with_known t a = record t { all = slice_set t.all a.number a }

-- one more began
abbrev pub with_one_more : TallyState → TallyState
with_one_more t = record t { next = sum t.next 1 }

-- ---- what is told of functions

-- one activity more began
abbrev pub one_more : Begun → Begun
one_more g = record g { activities = sum g.activities 1 }

-- one of them has made so many steps
abbrev pub reaching : Begun → ℕ → Begun
reaching g steps = record g { most = max g.most steps }

abbrev pub functions_with : List Begun → ℕ → Option Begun → List Begun
functions_with functions f None = functions
functions_with functions f (Some g) = slice_set functions f (one_more g)

abbrev pub functions_reaching : List Begun → ℕ → ℕ → Option Begun → List Begun
functions_reaching functions f steps None = functions
functions_reaching functions f steps (Some g) = slice_set functions f (reaching g steps)

-- an activity more began with a function
abbrev pub with_begun : TallyState → ℕ → TallyState
with_begun t f = record t { functions = functions_with t.functions f (slice_get t.functions f) }

-- an activity that began with a function has made so many steps
abbrev pub with_steps : TallyState → ℕ → ℕ → TallyState
with_steps t f steps = record t {
  functions = functions_reaching t.functions f steps (slice_get t.functions f);
}

-- ---- what is seen of a world before an event

abbrev pub stay_in : Option PlaceState → ℕ → Option StayState
stay_in None key = None
stay_in (Some p) key = get p.stays key

-- the stay with a key at a place
abbrev pub stay_at : WorldState → ℕ → ℕ → Option StayState
stay_at x place key = stay_in (slice_get x.places place) key

abbrev pub vacant_in : Option PlaceState → ℕ
vacant_in None = 0
vacant_in (Some p) = p.stays.vacant_key

-- the key that the next stay gets that begins at a place
abbrev pub vacant_at : WorldState → ℕ → ℕ
vacant_at x place = vacant_in (slice_get x.places place)

abbrev pub as_pair : Option Origin → Option (ℕ × ℕ)
as_pair None = None
as_pair (Some o) = Some (o.place, o.key)

-- the place and key of the stay that waits for a stay, if one does
abbrev pub back_of : Option StayState → Option (ℕ × ℕ)
back_of None = None
back_of (Some s) = as_pair s.back

abbrev pub nothing_seen : Sight
nothing_seen = record { place = 0; key = 0; vacant = 0; back = None }

abbrev pub sight_to : WorldState → Option Flight → Sight
sight_to x None = nothing_seen
sight_to x (Some f) = record { place = f.to; key = 0; vacant = vacant_at x f.to; back = None }

-- what is seen before an event: where it happens, and of a step whose it is
abbrev pub sight_of : WorldState → Event → Sight
sight_of x (Step place key) = record {
  place = place;
  key = key;
  vacant = vacant_at x place;
  back = back_of (stay_at x place key);
}
sight_of x (Deliver number) = sight_to x (flight_of x.flights number)

-- What is known of the place of an event: it is one of the world, and no stay has the key that the next one gets there.
pub record IsSeen (x : WorldState) (place : ℕ) : Type 0 where
  pub belongs : (p : PlaceState) → slice_get x.places place ≡ Some p
      → BelongsTo x.program x.bounds (length x.places) place p
  pub vacant : stay_at x place (vacant_at x place) ≡ None

abbrev pub IsSeenBefore : WorldState → Event → Type 0
IsSeenBefore x (Step place key) = IsSeen x place
IsSeenBefore x (Deliver number) = (f : Flight) → flight_of x.flights number ≡ Some f → IsSeen x f.to

-- ---- what an event does more

-- the activity of a stay has made one step more
abbrev pub one_step : Activity → Activity
one_step a = record a { steps = sum a.steps 1 }

abbrev pub with_step_of : TallyState → ℕ → ℕ → Activity → TallyState
with_step_of t place key a =
    with_steps (with_known (with_activity t place key a) a) a.function a.steps

abbrev pub stepped : TallyState → ℕ → ℕ → TallyState
stepped t place key = with_step_of t place key (one_step (activity_at t place key))

-- a stay is of the activity that another one is of
abbrev pub taken_over : TallyState → ℕ → ℕ → ℕ → ℕ → TallyState
taken_over t place key from waiting = with_activity t place key (activity_at t from waiting)

-- the activity that begins next, at a place and with a function
abbrev pub next_one : TallyState → ℕ → ℕ → Activity
next_one t place f = record { number = t.next; place = place; function = f; steps = 0 }

abbrev pub begun_as : TallyState → ℕ → ℕ → Activity → TallyState
begun_as t place key a =
    with_begun (with_one_more (with_known (with_activity t place key a) a)) a.function

-- a stay that waits for nothing's result begins an activity; one for which a stay waits goes on with that one's
abbrev pub begun_from : TallyState → ℕ → ℕ → ℕ → Option (ℕ × ℕ) → TallyState
begun_from t place key f None = begun_as t place key (next_one t place f)
begun_from t place key f (Some from) = taken_over t place key from.0 from.1

abbrev pub begun_by : TallyState → ℕ → ℕ → Option StayState → TallyState
begun_by t place key None = t
begun_by t place key (Some s) = begun_from t place key s.top.function (as_pair s.back)

-- a stay began with a key at a place, if there is one now
abbrev pub arrived : TallyState → WorldState → ℕ → ℕ → TallyState
arrived t y place key = begun_by t place key (stay_at y place key)

abbrev pub gone_back : TallyState → ℕ → ℕ → Option (ℕ × ℕ) → TallyState
gone_back t place key None = t
gone_back t place key (Some o) = taken_over t o.0 o.1 place key

abbrev pub left_by : TallyState → ℕ → ℕ → Option (ℕ × ℕ) → Option StayState → TallyState
left_by t place key back None = gone_back t place key back
left_by t place key back (Some s) = t

-- the stay that made a step has ended, if there is none now; then the one that waits for it goes on with its activity
abbrev pub left : TallyState → WorldState → Sight → TallyState
left t y s = left_by t s.place s.key s.back (stay_at y s.place s.key)

-- what an event did more, by what was seen before it, in the world after it
abbrev pub noted : TallyState → Sight → WorldState → Done → TallyState
noted t s y done.Idle = t
noted t s y (done.Moved function pc op first count) =
    left (arrived (stepped t s.place s.key) y s.place s.vacant) y s
noted t s y (done.Taken to) = arrived t y s.place s.vacant

-- room for the stay that an event may begin
abbrev pub ready : TallyState → Sight → TallyState
ready t s = with_rooms t s.place s.vacant

abbrev pub tallied : TallyState → WorldState → Event → Done → WorldState → TallyState
tallied t x event did y = noted (ready t (sight_of x event)) (sight_of x event) y did

-- ---- at first

abbrev pub none_begun : Begun
none_begun = record { activities = 0; most = 0 }

abbrev pub empty_tally : Certified → Bool → WorldState → TallyState
empty_tally c kept x = record {
  rows = replicate (length x.places) [];
  functions = replicate (length c.program.functions) none_begun;
  all = [];
  next = 0;
  kept = kept;
}

-- before the first event: main is at place 0, with key 0
abbrev pub tally_at_first : Certified → Bool → WorldState → TallyState
tally_at_first c kept x = arrived (with_rooms (empty_tally c kept x) 0 0) x 0 0
