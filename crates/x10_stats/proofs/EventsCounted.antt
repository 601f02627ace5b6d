-- Events that are counted, one after another.
use Rattle.std.proofs.Common.{◌≡◌, ℕ, zero, suc, ◌+◌, ◌-◌, ◌<◌, ◌^◌, ◌==◌, Bool, true, false, List, [], ◌∷◌, ◌++◌, Option, Some, None, length, refl, sym, ap, subst, ◌∙◌, arith, Result, Ok, Err, IfErr, inl, inr, ◌≢◌, unwrap_or}
use Rattle.std.specs.Prelude.{⊤, IfOk, IfSome, slice_get, if◌then◌else◌}
use Rattle.std.specs.Result.{IsErrAnd}
use Rattle.std.proofs.lemmas.List.{length-append}
use Rattle.x10_flights.specs.Flights.{Flight, FlightsState, flight_of}
use Rattle.x10_model.specs.Worlds.{World}
use Rattle.x10_model.specs.declared.event.Event.{Event}
use Rattle.x10_schedule.specs.declared.schedule.Schedule.{Schedule}
use Rattle.x10_schedule.specs.declared.schedule.Schedule.TheVariants as schedules
use Rattle.x10_world.specs.Happenings.{CanHappen, HasDone, NothingCanHappen}
use Rattle.x10_world.specs.Rounds.{IsOpenAt}
use Rattle.x10_world.specs.StandsForWorld.{WorldState, StandsForWorld, MakesEvent}
use Rattle.x10_world.specs.declared.done.Done.{Done}
use Rattle.x10_world.specs.declared.done.Done.TheVariants as done
use Rattle.x10_world.specs.declared.rounds.Unfinished.{Unfinished}
use Rattle.x10_world.specs.declared.rounds.Unfinished.TheVariants as halt
use Rattle.x10_stats.specs.Counts.{Counted, CountsDue, CountsState, EachIsDue, HasCounted, HasCountedDue, IsCut, IsDue, IsUnmade, counted_with}
use Rattle.x10_stats.specs.Counts.Counted.{begins, goes_on}
use Rattle.x10_stats.specs.Stats.{all_events, counted, sum, with_any_type, with_flight, with_flights, with_posted, with_type}
use Rattle.x10_stats.specs.Tallies.{IsSeenBefore}
use Rattle.x10_stats.specs.declared.stats.Stats.{Stats}

pub if_ok : {T E : Type 0} (r : Result T E) (P : Type 0) → P → IfOk r (λ _. P)
if_ok (Ok t) P h = h
if_ok (Err e) P h = tt

-- one event more, which could happen if those before it could
pub counts_more : (s : CountsState) (x y z : WorldState) (events : List Event) (t u : CountsState) (event : Event) (before : Counted s x events t y)
    → IsSeenBefore y event → ((did : Done) × HasDone y event did z × (u ≡ counted_with t y event did z))
    → ((w : World) → StandsForWorld y w → MakesEvent y w event z)
    → (c : Counted s x (events ++ event ∷ []) u z)
    × (EachIsDue s x events t y before → IsDue y event → EachIsDue s x (events ++ event ∷ []) u z c)
counts_more s x y z events t u event before seen one makes =
    subst (λ v. (c : Counted s x (events ++ event ∷ []) v z)
    × (EachIsDue s x events t y before → IsDue y event → EachIsDue s x (events ++ event ∷ []) v z c)) (sym one.2)
    (goes_on y z events t event one.0 before seen one.1 makes, (λ each due. (due, each)))

-- what a scheduler names could happen, and where it names nothing, nothing could
pub due_by : (asked : Schedule) (x : WorldState) (o : Option Event) (event other : Event) → asked ≢ schedules.Rounds
    → (asked ≢ schedules.Rounds → IfSome o (CanHappen x)) → (o ≡ None → NothingCanHappen x) → event ≡ unwrap_or o other → IsDue x event
due_by asked x None event other not able none is = inr (none refl)
due_by asked x (Some e) event other not able none is = inl (subst (λ v. CanHappen x v) (sym is) (able not))

-- why no more are counted, where those before could happen
pub due_cut : (s : CountsState) (x : WorldState) (limit : ℕ) (t u : CountsState) (y z : WorldState) (event : Event) (r : Result ⊤ Unfinished)
    (why : Unfinished) → HasCountedDue s x limit t y → IsUnmade t y event u z why → IsErrAnd r (λ made. made ≡ why) → CountsDue s x limit u r z
due_cut s x limit t u y z event (Ok v) why has unmade e = absurd e
due_cut s x limit t u y z event (Err w) halt.Limit has unmade e = absurd unmade
due_cut s x limit t u y z event (Err w) halt.Memory has unmade e = subst (λ v. CountsDue s x limit u (Err v) z) (sym e)
    (subst (λ v. HasCountedDue s x limit u v) (sym unmade.1) (subst (λ v. HasCountedDue s x limit v y) (sym unmade.0) has))
due_cut s x limit t u y z event (Err w) (halt.Stop why) has unmade e = subst (λ v. CountsDue s x limit u (Err v) z) (sym e) (record {
  stopped = record {
    state = y;
    counts = t;
    has = has.has;
    event = event;
    stops = unmade.1;
    same = unmade.0;
  };
  due = has.due;
})

pub due_refused : (s : CountsState) (x : WorldState) (limit : ℕ) (t : CountsState) (y : WorldState) (r : Result ⊤ Unfinished)
    → HasCountedDue s x limit t y → IsErrAnd r (λ made. made ≡ halt.Memory) → CountsDue s x limit t r y
due_refused s x limit t y (Ok v) has e = absurd e
due_refused s x limit t y (Err w) has e = subst (λ v. CountsDue s x limit t (Err v) y) (sym e) has

-- as many were made as were allowed
pub due_limit : (s : CountsState) (x : WorldState) (limit : ℕ) (t : CountsState) (y : WorldState) (r : Result ⊤ Unfinished)
    (has : HasCountedDue s x limit t y) → length has.has.events ≡ limit → IfErr r (λ why. (why ≡ halt.Limit) × IsOpenAt limit y)
    → CountsDue s x limit t r y
due_limit s x limit t y (Ok v) has all h = has
due_limit s x limit t y (Err w) has all h = subst (λ v. CountsDue s x limit t (Err v) y) (sym h.0) (has, all)

pub cut_limit : {T : Type 0} (s : CountsState) (x : WorldState) (limit : ℕ) (t : CountsState) (y : WorldState) (r : Result T Unfinished)
    (has : HasCounted s x limit t y) → length has.events ≡ limit → IfErr r (λ why. (why ≡ halt.Limit) × IsOpenAt limit y)
    → IfErr r (IsCut s x limit t y)
cut_limit s x limit t y (Ok v) has all h = tt
cut_limit s x limit t y (Err w) has all h = subst (λ v. IsCut s x limit t y v) (sym h.0) (has, (all, h.1))

pub one_longer : (events : List Event) (event : Event) (n : ℕ) → length events ≡ n → length (events ++ event ∷ []) ≡ n + 1
one_longer events event n e = length-append events (event ∷ []) ∙ ap (λ k. k + 1) e

-- no more is counted where the next event isn't made
pub unmade_cut : (s : CountsState) (x : WorldState) (limit : ℕ) (t u : CountsState) (y z : WorldState) (event : Event) (why : Unfinished)
    → HasCounted s x limit t y → IsUnmade t y event u z why → IsCut s x limit u z why
unmade_cut s x limit t u y z event halt.Limit has unmade = absurd unmade
unmade_cut s x limit t u y z event halt.Memory has unmade =
    subst (λ v. HasCounted s x limit u v) (sym unmade.1) (subst (λ v. HasCounted s x limit v y) (sym unmade.0) has)
unmade_cut s x limit t u y z event (halt.Stop why) has unmade = record {
  state = y;
  counts = t;
  has = has;
  event = event;
  stops = unmade.1;
  same = unmade.0;
}

-- ---- each event is counted once

chosen : (b : Bool) (u v : Stats) (n : ℕ) → all_events u ≡ n → all_events v ≡ n → all_events (if b then u else v) ≡ n
chosen true u v n a c = a
chosen false u v n a c = c

-- a frame changes none of the numbers of events
type_same : (s : Stats) (type bytes : ℕ) → all_events (with_type s type bytes) ≡ all_events s
type_same s type bytes = chosen (type == 1) _ _ (all_events s) refl (chosen (type == 2) _ _ (all_events s) refl
    (chosen (type == 3) _ _ (all_events s) refl (chosen (type == 4) _ _ (all_events s) refl refl)))

any_type_same : (s : Stats) (type : Option ℕ) (bytes : ℕ) → all_events (with_any_type s type bytes) ≡ all_events s
any_type_same s None bytes = refl
any_type_same s (Some type) bytes = type_same s type bytes

flight_same : (s : Stats) (f : Option Flight) → all_events (with_flight s f) ≡ all_events s
flight_same s None = refl
flight_same s (Some f) = any_type_same s (slice_get f.bytes 1) (length f.bytes)

flights_same : (flights : FlightsState) (first n : ℕ) (s : Stats) → all_events (with_flights flights first n s) ≡ all_events s
flights_same flights first zero s = refl
flights_same flights first (suc n) s = flights_same flights (first + 1) n (with_flight s (flight_of flights first))
    ∙ flight_same s (flight_of flights first)

fits : (n : ℕ) → n + 1 < 2 ^ 64 → sum n 1 ≡ n + 1
fits n few = omega (arith, few)

one_event : (s : Stats) (x : WorldState) (did : Done) → all_events s + 1 < 2 ^ 64 → all_events (counted s x did) ≡ all_events s + 1
one_event s x done.Idle few =
    let one = fits s.idle (omega (arith, few)) in
    omega (arith, one)
one_event s x (done.Taken to) few =
    let one = fits s.deliveries (omega (arith, few)) in
    omega (arith, one)
one_event s x (done.Moved function pc op first count) few =
    let same = flights_same x.flights first (x.flights.posted - first) s in
    let one = fits (with_posted x first s).steps (omega (arith, few, same)) in
    omega (arith, one, same)

pub counted_once : (s : CountsState) (x : WorldState) (events : List Event) (t : CountsState) (y : WorldState) → Counted s x events t y
    → all_events s.stats + length events < 2 ^ 64 → all_events t.stats ≡ all_events s.stats + length events
counted_once s x _ _ _ begins few = omega arith
counted_once s x _ _ _ (goes_on y z events t event did before seen done makes) few =
    let longer = one_longer events event (length events) refl in
    let old = counted_once s x events t y before (omega (arith, few, longer)) in
    let one = one_event t.stats z did (omega (arith, few, longer, old)) in
    omega (arith, longer, old, one)
