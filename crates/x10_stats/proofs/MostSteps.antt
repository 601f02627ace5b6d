-- No activity has made more steps than there were.
use Rattle.std.proofs.Common.{◌≡◌, ◌⊎◌, ℕ, zero, suc, ◌+◌, ◌-◌, ◌<◌, ◌≤◌, ◌^◌, ◌==◌, Bool, true, false, List, [], Option, Some, None, length, refl, sym, ap, subst, ◌∙◌, inl, inr, arith}
use Rattle.std.specs.Prelude.{All, max, slice_get, slice_index_or, if◌then◌else◌}
use Rattle.std.proofs.lemmas.List.Elements.{All-append, All-get_or, All-nil, All-replicate, All-set, All-weaker}
use Rattle.std.proofs.lemmas.Option.{slice_get_cases}
use Rattle.x10_flights.specs.Flights.{Flight, FlightsState, flight_of}
use Rattle.x10_model.specs.declared.event.Event.{Event}
use Rattle.x10_place.specs.Stays.{StayState}
use Rattle.x10_verify.specs.Certified.{Certified}
use Rattle.x10_world.specs.StandsForWorld.{WorldState}
use Rattle.x10_world.specs.declared.done.Done.{Done}
use Rattle.x10_world.specs.declared.done.Done.TheVariants as done
use Rattle.x10_stats.specs.Counts.{Counted, CountsState, counted_with, counts_at_first}
use Rattle.x10_stats.specs.Counts.Counted.{begins, goes_on}
use Rattle.x10_stats.specs.Stats.{sum, with_any_type, with_flight, with_flights, with_posted, with_type}
use Rattle.x10_stats.specs.Tallies.{TallyState, activity_at, all_with_room, arrived, as_pair, begun_as, begun_by, begun_from, empty_tally, functions_reaching, functions_with, gone_back, in_any_row, left_by, next_one, nobody, none_begun, noted, one_more, one_step, or_nobody, reaching, ready, row_with_room, rows_with_room, sight_of, stay_at, stepped, taken_over, with_activity, with_begun, with_known, with_next_room, with_one_more, with_room, with_rooms, with_row, with_steps}
use Rattle.x10_stats.specs.declared.activity.Activity.{Activity}
use Rattle.x10_stats.specs.declared.sight.Sight.{Sight}
use Rattle.x10_stats.specs.declared.stats.Stats.{Stats}
use Rattle.x10_stats.specs.declared.tally.Begun.{Begun}

-- ---- an item of a list

item_at : {X : Type 0} (P : X → Type 0) (xs : List X) (i : ℕ) (x : X) → All P xs → slice_get xs i ≡ Some x
    → ((y : X) × (i < length xs) × (slice_get xs i ≡ Some y) × (slice_index_or xs i y ≡ y)) ⊎ ((length xs ≤ i) × (slice_get xs i ≡ None)) → P x
item_at {X} P xs i x all is (inl (y, less, there, same)) =
    let one : y ≡ x = (let e = sym there ∙ is in cc) in
    subst P one (subst P same (All-get_or P xs i y less all))
item_at {X} P xs i x all is (inr (past, none)) = absurd (let e = sym none ∙ is in cc)

item : {X : Type 0} (P : X → Type 0) (xs : List X) (i : ℕ) (x : X) → All P xs → slice_get xs i ≡ Some x → P x
item {X} P xs i x all is = item_at P xs i x all is (slice_get_cases xs i).1

-- ---- activities and functions within so many steps

abbrev Few : ℕ → Activity → Type 0
Few n a = a.steps ≤ n

abbrev Fair : ℕ → List Activity → Type 0
Fair n row = All (Few n) row

abbrev Reached : ℕ → Begun → Type 0
Reached n g = g.most ≤ n

record IsWithin (n : ℕ) (t : TallyState) : Type 0 where
  rows : All (Fair n) t.rows
  functions : All (Reached n) t.functions
  all : Fair n t.all

nobody_few : (n : ℕ) → Few n nobody
nobody_few n = omega arith

or_few : (n : ℕ) (o : Option Activity) → ((a : Activity) → o ≡ Some a → Few n a) → Few n (or_nobody o)
or_few n None h = nobody_few n
or_few n (Some a) h = h a refl

row_few : (n : ℕ) (o : Option (List Activity)) (key : ℕ) → ((row : List Activity) → o ≡ Some row → Fair n row) → Few n (in_any_row o key)
row_few n None key h = nobody_few n
row_few n (Some row) key h = or_few n (slice_get row key) (λ a is. item (Few n) row key a (h row refl) is)

at_few : (n : ℕ) (t : TallyState) (place key : ℕ) → IsWithin n t → Few n (activity_at t place key)
at_few n t place key w = row_few n (slice_get t.rows place) key (λ row is. item (Fair n) t.rows place row w.rows is)

set_rows : (n : ℕ) (rows : List (List Activity)) (place key : ℕ) (a : Activity) (o : Option (List Activity)) → slice_get rows place ≡ o
    → All (Fair n) rows → Few n a → All (Fair n) (with_row rows place key a o)
set_rows n rows place key a None is all few = all
set_rows n rows place key a (Some row) is all few =
    All-set (Fair n) rows place _ (All-set (Few n) row key a few (item (Fair n) rows place row all is)) all

set_within : (n : ℕ) (t : TallyState) (place key : ℕ) (a : Activity) → IsWithin n t → Few n a → IsWithin n (with_activity t place key a)
set_within n t place key a w few = record {
  rows = set_rows n t.rows place key a (slice_get t.rows place) refl w.rows few;
  functions = w.functions;
  all = w.all;
}

known_within : (n : ℕ) (t : TallyState) (a : Activity) → IsWithin n t → Few n a → IsWithin n (with_known t a)
known_within n t a w few = record { rows = w.rows; functions = w.functions; all = All-set (Few n) t.all a.number a few w.all }

one_within : (n : ℕ) (t : TallyState) → IsWithin n t → IsWithin n (with_one_more t)
one_within n t w = record { rows = w.rows; functions = w.functions; all = w.all }

room_row : (n : ℕ) (row : List Activity) (key : ℕ) → Fair n row → Fair n (row_with_room row key)
room_row n row key fair = All-append (Few n) row _ fair (All-replicate (Few n) _ nobody (nobody_few n))

room_rows : (n : ℕ) (rows : List (List Activity)) (place key : ℕ) (o : Option (List Activity)) → slice_get rows place ≡ o
    → All (Fair n) rows → All (Fair n) (rows_with_room rows place key o)
room_rows n rows place key None is all = all
room_rows n rows place key (Some row) is all =
    All-set (Fair n) rows place _ (room_row n row key (item (Fair n) rows place row all is)) all

room_within : (n : ℕ) (t : TallyState) (place key : ℕ) → IsWithin n t → IsWithin n (with_room t place key)
room_within n t place key w = record {
  rows = room_rows n t.rows place key (slice_get t.rows place) refl w.rows;
  functions = w.functions;
  all = w.all;
}

room_all : (n : ℕ) (all : List Activity) (next : ℕ) (kept : Bool) → Fair n all → Fair n (all_with_room all next kept)
room_all n all next true fair = room_row n all next fair
room_all n all next false fair = fair

next_within : (n : ℕ) (t : TallyState) → IsWithin n t → IsWithin n (with_next_room t)
next_within n t w = record { rows = w.rows; functions = w.functions; all = room_all n t.all t.next t.kept w.all }

rooms_within : (n : ℕ) (t : TallyState) (place key : ℕ) → IsWithin n t → IsWithin n (with_rooms t place key)
rooms_within n t place key w = room_within n (with_next_room t) place key (next_within n t w)

begun_functions : (n : ℕ) (fs : List Begun) (f : ℕ) (o : Option Begun) → slice_get fs f ≡ o → All (Reached n) fs
    → All (Reached n) (functions_with fs f o)
begun_functions n fs f None is all = all
begun_functions n fs f (Some g) is all = All-set (Reached n) fs f (one_more g) (item (Reached n) fs f g all is) all

begun_within : (n : ℕ) (t : TallyState) (f : ℕ) → IsWithin n t → IsWithin n (with_begun t f)
begun_within n t f w = record {
  rows = w.rows;
  functions = begun_functions n t.functions f (slice_get t.functions f) refl w.functions;
  all = w.all;
}

most_of : (n most steps : ℕ) → most ≤ n → steps ≤ n → max most steps ≤ n
most_of n most steps a b = omega (arith, a, b)

reaching_functions : (n : ℕ) (fs : List Begun) (f steps : ℕ) (o : Option Begun) → slice_get fs f ≡ o → All (Reached n) fs → steps ≤ n
    → All (Reached n) (functions_reaching fs f steps o)
reaching_functions n fs f steps None is all few = all
reaching_functions n fs f steps (Some g) is all few =
    All-set (Reached n) fs f (reaching g steps) (most_of n g.most steps (item (Reached n) fs f g all is) few) all

reaching_within : (n : ℕ) (t : TallyState) (f steps : ℕ) → IsWithin n t → steps ≤ n → IsWithin n (with_steps t f steps)
reaching_within n t f steps w few = record {
  rows = w.rows;
  functions = reaching_functions n t.functions f steps (slice_get t.functions f) refl w.functions few;
  all = w.all;
}

-- ---- events

empty_fair : (n : ℕ) → Fair n []
empty_fair n = All-nil (Few n)

grown_rows : (n m : ℕ) → n ≤ m → (row : List Activity) → Fair n row → Fair m row
grown_rows n m less row all = All-weaker (Few n) (Few m) (λ a few. omega (arith, less, few)) row all

grown : (n m : ℕ) (t : TallyState) → n ≤ m → IsWithin n t → IsWithin m t
grown n m t less w = record {
  rows = All-weaker (Fair n) (Fair m) (grown_rows n m less) t.rows w.rows;
  functions = All-weaker (Reached n) (Reached m) (λ g few. omega (arith, less, few)) t.functions w.functions;
  all = grown_rows n m less t.all w.all;
}

-- a number of steps of 64 bits, and one more
step_few : (n steps : ℕ) → steps ≤ n → sum steps 1 ≤ sum n 1
step_few n steps few = omega (arith, few)

no_fewer : (n : ℕ) → n < 2 ^ 64 → n ≤ sum n 1
no_fewer n less = omega (arith, less)

stepped_within : (n : ℕ) (t : TallyState) (place key : ℕ) → n < 2 ^ 64 → IsWithin n t → IsWithin (sum n 1) (stepped t place key)
stepped_within n t place key less w =
    let a : Activity = one_step (activity_at t place key) in
    let few : Few (sum n 1) a = step_few n (activity_at t place key).steps (at_few n t place key w) in
    reaching_within (sum n 1) (with_known (with_activity t place key a) a) _ _
    (known_within (sum n 1) (with_activity t place key a) a
    (set_within (sum n 1) t place key a (grown n (sum n 1) t (no_fewer n less) w) few) few) few

over_within : (n : ℕ) (t : TallyState) (place key from waiting : ℕ) → IsWithin n t → IsWithin n (taken_over t place key from waiting)
over_within n t place key from waiting w = set_within n t place key (activity_at t from waiting) w (at_few n t from waiting w)

new_few : (n : ℕ) (t : TallyState) (place f : ℕ) → Few n (next_one t place f)
new_few n t place f = omega arith

as_within : (n : ℕ) (t : TallyState) (place key : ℕ) (a : Activity) → IsWithin n t → Few n a → IsWithin n (begun_as t place key a)
as_within n t place key a w few =
    let known : IsWithin n (with_known (with_activity t place key a) a) =
    known_within n (with_activity t place key a) a (set_within n t place key a w few) few in
    begun_within n (with_one_more (with_known (with_activity t place key a) a)) a.function
    (one_within n (with_known (with_activity t place key a) a) known)

from_within : (n : ℕ) (t : TallyState) (place key f : ℕ) (back : Option (ℕ × ℕ)) → IsWithin n t → IsWithin n (begun_from t place key f back)
from_within n t place key f None w = as_within n t place key (next_one t place f) w (new_few n t place f)
from_within n t place key f (Some o) w = over_within n t place key o.0 o.1 w

by_within : (n : ℕ) (t : TallyState) (place key : ℕ) (stay : Option StayState) → IsWithin n t → IsWithin n (begun_by t place key stay)
by_within n t place key None w = w
by_within n t place key (Some s) w = from_within n t place key s.top.function (as_pair s.back) w

back_within : (n : ℕ) (t : TallyState) (place key : ℕ) (back : Option (ℕ × ℕ)) → IsWithin n t → IsWithin n (gone_back t place key back)
back_within n t place key None w = w
back_within n t place key (Some o) w = over_within n t o.0 o.1 place key w

left_within : (n : ℕ) (t : TallyState) (place key : ℕ) (back : Option (ℕ × ℕ)) (stay : Option StayState) → IsWithin n t
    → IsWithin n (left_by t place key back stay)
left_within n t place key back None w = back_within n t place key back w
left_within n t place key back (Some s) w = w

-- ---- what is counted of events

chosen : (b : Bool) (u v : Stats) (n : ℕ) → u.steps ≡ n → v.steps ≡ n → (if b then u else v).steps ≡ n
chosen true u v n a c = a
chosen false u v n a c = c

-- a frame is no step
type_same : (s : Stats) (type bytes : ℕ) → (with_type s type bytes).steps ≡ s.steps
type_same s type bytes = chosen (type == 1) _ _ s.steps refl (chosen (type == 2) _ _ s.steps refl
    (chosen (type == 3) _ _ s.steps refl (chosen (type == 4) _ _ s.steps refl refl)))

any_type_same : (s : Stats) (type : Option ℕ) (bytes : ℕ) → (with_any_type s type bytes).steps ≡ s.steps
any_type_same s None bytes = refl
any_type_same s (Some type) bytes = type_same s type bytes

flight_same : (s : Stats) (f : Option Flight) → (with_flight s f).steps ≡ s.steps
flight_same s None = refl
flight_same s (Some f) = any_type_same s (slice_get f.bytes 1) (length f.bytes)

flights_same : (flights : FlightsState) (first n : ℕ) (s : Stats) → (with_flights flights first n s).steps ≡ s.steps
flights_same flights first zero s = refl
flights_same flights first (suc n) s = flights_same flights (first + 1) n (with_flight s (flight_of flights first))
    ∙ flight_same s (flight_of flights first)

-- ---- from the first event on

record IsFair (s : CountsState) : Type 0 where
  less : s.stats.steps < 2 ^ 64
  within : IsWithin s.stats.steps s.tally

event_fair : (s : CountsState) (x : WorldState) (event : Event) (did : Done) (y : WorldState) → IsFair s → IsFair (counted_with s x event did y)
event_fair s x event done.Idle y f = record {
  less = f.less;
  within = rooms_within s.stats.steps s.tally _ _ f.within;
}
event_fair s x event (done.Taken to) y f = record {
  less = f.less;
  within = by_within s.stats.steps _ _ _ _ (rooms_within s.stats.steps s.tally _ _ f.within);
}
event_fair s x event (done.Moved function pc op first count) y f =
    let same : (with_posted y first s.stats).steps ≡ s.stats.steps = flights_same y.flights first (y.flights.posted - first) s.stats in
    let one : sum (with_posted y first s.stats).steps 1 ≡ sum s.stats.steps 1 = ap (λ n. sum n 1) same in
    let see : Sight = sight_of x event in
    let begun : TallyState = arrived (stepped (ready s.tally see) see.place see.key) y see.place see.vacant in
    let first_within = stepped_within s.stats.steps (ready s.tally see) see.place see.key f.less
    (rooms_within s.stats.steps s.tally see.place see.vacant f.within) in
    let all = left_within (sum s.stats.steps 1) begun see.place see.key see.back (stay_at y see.place see.key)
    (by_within (sum s.stats.steps 1) (stepped (ready s.tally see) see.place see.key) see.place see.vacant (stay_at y see.place see.vacant) first_within) in
    record {
      less = omega (arith, one);
      within = subst (λ n. IsWithin n (noted (ready s.tally see) see y (done.Moved function pc op first count))) (sym one) all;
    }

first_fair : (c : Certified) (kept : Bool) (x : WorldState) → IsFair (counts_at_first c kept x)
first_fair c kept x =
    let empty : IsWithin 0 (empty_tally c kept x) = record {
      rows = All-replicate (Fair 0) (length x.places) [] (empty_fair 0);
      functions = All-replicate (Reached 0) (length c.program.functions) none_begun (omega arith);
      all = empty_fair 0;
    } in record {
      less = omega arith;
      within = by_within 0 (with_rooms (empty_tally c kept x) 0 0) 0 0 (stay_at x 0 0) (rooms_within 0 (empty_tally c kept x) 0 0 empty);
    }

counts_fair : (c : Certified) (kept : Bool) (x : WorldState) (events : List Event) (t : CountsState) (y : WorldState)
    → Counted (counts_at_first c kept x) x events t y → IsFair t
counts_fair c kept x _ _ _ begins = first_fair c kept x
counts_fair c kept x _ _ _ (goes_on y z events t event did before seen done makes) = event_fair t y event did z (counts_fair c kept x events t y before)

pub most_steps : (c : Certified) (kept : Bool) (x : WorldState) (events : List Event) (t : CountsState) (y : WorldState)
    → Counted (counts_at_first c kept x) x events t y → All (λ (g : Begun). g.most ≤ t.stats.steps) t.tally.functions
most_steps c kept x events t y counts = (counts_fair c kept x events t y counts).within.functions
