-- Runs that go on after some events.
use Rattle.std.proofs.Common.{None, Some, ◌≡◌, ◌+◌, ℕ, Result, Ok, Err, ap, subst, arith, ◌<◌, ◌≤◌, Bool, sym, refl, ◌∙◌, ◌≢◌, true, Option}
use Rattle.std.specs.Prelude.{IfOk, IfErr}
use Rattle.x10_world.specs.declared.rounds.Unfinished.{Unfinished}
use Rattle.x10_world.specs.declared.rounds.Unfinished.TheVariants as halt
use Rattle.x10_world.specs.StandsForWorld.{WorldState}
use Rattle.x10_flights.specs.Flights.{flight_of, flight_among}
use Rattle.x10_model.specs.declared.event.Event.TheVariants.{Step, Deliver}
use Rattle.x10_model.proofs.Lists.{none_some}
use Rattle.x10_place.specs.StandsFor.IsIdleAt.{nobody}
use Rattle.x10_world.specs.Happenings.{Happened, CanHappen, NothingCanHappen}
use Rattle.x10_world.specs.Rounds.{RunsIn, IsOpenAt, IsHalted, HasMade, IsEmptyWorld}
use Rattle.x10_world.specs.Runs.{StopsAt}
use Rattle.x10_world.specs.StandsForWorld.{WorldState, KeepsSetting}
use Rattle.x10_schedule.specs.declared.schedule.Schedule.{Schedule}
use Rattle.x10_schedule.specs.declared.schedule.Schedule.TheVariants as schedules
use Rattle.x10_schedule.specs.Schedules.{Acts, ActsOrRests, ActsBy}
use Rattle.x10_schedule.specs.Schedules.Acts.{acts}
use Rattle.std.specs.Result.{IsErrAnd}
use Rattle.std.specs.Prelude.{⊤, IfSome}
use Rattle.std.proofs.lemmas.Option.{same_Some}
use Rattle.x10_kinds.specs.declared.stop.Stop.{Stop}
use Rattle.x10_model.specs.declared.event.Event.{Event}
use Rattle.x10_world.proofs.RunCounts.{in_none, in_on, cut_on}

-- why no more events were made, after some
halted_on : (x y z : WorldState) (m some limit : ℕ) (why : Unfinished) → 0 < some → RunsIn x m y → m + some ≡ limit → IsHalted y some z why
    → IsHalted x limit z why
halted_on x y z m some limit (halt.Stop why) more first all h = cut_on x y z m some limit (halt.Stop why) first h (omega (arith, all))
halted_on x y z m some limit halt.Limit more first all h = (subst (λ n. RunsIn x n z) all (in_on x y z m some first h.0), (h.1.0, (λ any. h.1.1 more)))
halted_on x y z m some limit halt.Memory more first all h = cut_on x y z m some limit halt.Memory first h (omega (arith, all))

pub err_on : {T : Type 0} (x y z : WorldState) (m some limit : ℕ) (r : Result T Unfinished) → 0 < some → RunsIn x m y → m + some ≡ limit
    → IfErr r (IsHalted y some z) → IfErr r (IsHalted x limit z)
err_on x y z m some limit (Ok t) more first all h = tt
err_on x y z m some limit (Err why) more first all h = halted_on x y z m some limit why more first all h

-- how many were made, after some
pub ok_on : {T : Type 0} (x y z : WorldState) (m some limit : ℕ) (r : Result T Unfinished) → RunsIn x m y → m + some ≡ limit
    → IfOk r (λ _. (n : ℕ) × HasMade y some n z) → IfOk r (λ _. (n : ℕ) × HasMade x limit n z)
ok_on x y z m some limit (Ok t) first all h = (
  m + h.0,
  record {
    few = (let few = h.1.few in omega (arith, all, few));
    runs = in_on x y z m h.0 first h.1.runs;
    goes = h.1.goes;
  },
)
ok_on x y z m some limit (Err why) first all h = tt

-- where no activity is anywhere and no frame flies, nothing can happen
pub quiet_nothing : (x : WorldState) → IsEmptyWorld x → NothingCanHappen x
quiet_nothing x quiet (Step id key) can = can.2 (nobody (quiet.nobody id can.0 can.1 key))
quiet_nothing x quiet (Deliver number) can = none_some (flight_of x.flights number) can.0 (ap (λ fs. flight_among fs number) quiet.flying) can.1

-- ---- events that can happen

pub acts_more : (x y z : WorldState) (n : ℕ) (event : Event) (moved : Bool) → Acts x n y → CanHappen y event
    → Happened y.places y.flights event moved z.places z.flights → KeepsSetting y z → z.stopped ≢ true → Acts x (n + 1) z
acts_more x y z n event moved before can happened kept goes = acts n y z event before can
    (record { moved = moved; happened = happened; kept = kept; goes = goes })

-- no other event was made
pub acting_all : (x y : WorldState) (n : ℕ) → Acts x n y → ActsOrRests x n y
acting_all x y n made = record {
  acting = n;
  few = omega arith;
  middle = y;
  acts = made;
  rests = λ less. absurd (omega (arith, less));
  runs = subst (λ k. RunsIn y k y) (omega arith) (in_none y);
}

-- nothing can happen now, and so many more are made
rests_then : (x y z : WorldState) (m k n : ℕ) → m + k ≡ n → Acts x m y → NothingCanHappen y → RunsIn y k z → ActsOrRests x n z
rests_then x y z m k n all made nothing runs = record {
  acting = m;
  few = omega (arith, all);
  middle = y;
  acts = made;
  rests = λ less. nothing;
  runs = subst (λ j. RunsIn y j z) (omega (arith, all)) runs;
}

-- rounds make what is left
pub acts_rest : (x y z : WorldState) (m some limit : ℕ) (r : Result ⊤ Unfinished) → m + some ≡ limit → Acts x m y → NothingCanHappen y
    → IfOk r (λ _. (n : ℕ) × HasMade y some n z) → IfErr r (IsHalted y some z) → ActsBy x limit r z
acts_rest x y z m some limit (Ok u) all made nothing ok err = (
  m + ok.0,
  (let few = ok.1.few in omega (arith, all, few)),
  rests_then x y z m ok.0 (m + ok.0) refl made nothing ok.1.runs,
)
acts_rest x y z m some limit (Err halt.Limit) all made nothing ok err = rests_then x y z m some limit all made nothing err.0
acts_rest x y z m some limit (Err halt.Memory) all made nothing ok err = (
  m + err.0,
  (let few = err.1 in omega (arith, all, few)),
  rests_then x y z m err.0 (m + err.0) refl made nothing err.2,
)
acts_rest x y z m some limit (Err (halt.Stop why)) all made nothing ok err = record {
  done = m + err.done;
  few = (let few = err.few in omega (arith, all, few));
  state = err.state;
  acts = rests_then x y err.state m err.done (m + err.done) refl made nothing err.runs;
  event = err.event;
  stops = err.stops;
}

-- what the next event answers
pub acts_stopped : (x y z : WorldState) (m limit : ℕ) (r : Result ⊤ Unfinished) (event : Event) (why : Stop) → m ≤ limit → Acts x m y
    → StopsAt y event why z → IsErrAnd r (λ made. made ≡ halt.Stop why) → ActsBy x limit r z
acts_stopped x y z m limit (Ok u) event why few made stops e = absurd e
acts_stopped x y z m limit (Err w) event why few made stops e = subst (λ v. ActsBy x limit (Err v) z) (sym e) (record {
  done = m;
  few = few;
  state = y;
  acts = acting_all x y m made;
  event = event;
  stops = stops;
})

pub acts_refused : (x y : WorldState) (m limit : ℕ) (r : Result ⊤ Unfinished) → m ≤ limit → Acts x m y
    → IsErrAnd r (λ made. made ≡ halt.Memory) → ActsBy x limit r y
acts_refused x y m limit (Ok u) few made e = absurd e
acts_refused x y m limit (Err w) few made e = subst (λ v. ActsBy x limit (Err v) y) (sym e) (m, few, acting_all x y m made)

-- as many were made as were allowed
pub acts_limit : (x y : WorldState) (limit : ℕ) (r : Result ⊤ Unfinished) → Acts x limit y
    → IfErr r (λ why. (why ≡ halt.Limit) × IsOpenAt limit y) → ActsBy x limit r y
acts_limit x y limit (Ok u) made h = (limit, omega arith, acting_all x y limit made)
acts_limit x y limit (Err w) made h = subst (λ v. ActsBy x limit (Err v) y) (sym h.0) (acting_all x y limit made)

pub not_rounds : (now first asked : Schedule) → now ≡ first → first ≡ asked → asked ≢ schedules.Rounds → now ≢ schedules.Rounds
not_rounds now first asked e f other g = other (sym f ∙ sym e ∙ g)

pub acts_able : (asked : Schedule) (x : WorldState) (o : Option Event) (event : Event) → asked ≢ schedules.Rounds
    → (asked ≢ schedules.Rounds → IfSome o (CanHappen x)) → o ≡ Some event → CanHappen x event
acts_able asked x None event other able is = absurd cc
acts_able asked x (Some e) event other able is = subst (λ v. CanHappen x v) (same_Some e event is) (able other)
