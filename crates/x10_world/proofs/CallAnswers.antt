-- What a world's calls answer, from what events do to its parts.
use Rattle.std.proofs.Common.{◌≡◌, ◌≢◌, ◌⊎◌, ◌↔◌, ℕ, ◌<◌, ◌≤◌, Bool, true, false, List, [], ◌∷◌, Result, Ok, Err, refl, sym, ap, subst, ◌∙◌, inl, inr}
use Rattle.std.specs.Prelude.{IfOk, IfErr, IsTrue}
use Rattle.std.specs.Result.{is_err}
use Rattle.x10_kinds.specs.declared.stop.Stop.{Stop}
use Rattle.x10_kinds.specs.declared.stop.Stop.TheVariants as stop
use Rattle.x10_model.specs.Modules.{Module}
use Rattle.x10_model.specs.declared.event.Event.{Event}
use Rattle.x10_model.specs.Worlds.{World}
use Rattle.x10_verify.specs.Certified.{Certified}
use Rattle.x10_place.specs.Stays.{finish_at}
use Rattle.x10_place.specs.StandsFor.{PlaceState}
use Rattle.x10_world.specs.Happenings.{Happened, CanHappen}
use Rattle.x10_flights.specs.Flights.{FlightsState}
use Rattle.x10_world.specs.Prompt.{MayEnd, WorksIn}
use Rattle.x10_world.specs.StandsForWorld.{WorldState, world_of, IsWorld, KeepsSetting, StandsForWorld, MakesEvent, IsIdleNow, BeganLast}
use Rattle.x10_world.specs.Runs.{IsSameWorld, RunsThrough, StopsAt, RepeatsThrough, IsHaltedStretch, Repeats, SentLast}
use Rattle.x10_world.specs.EventAnswers.{Handles, AnswersEvent, Stretches}
use Rattle.x10_world.proofs.EventRuns.{idle_same, acts_where_it_can, runs_one, repeats_reach, halted_repeats}
use Rattle.x10_world.proofs.StretchLemmas.{run_waits}
use Rattle.x10_model.specs.Places.{IsFree}
use Rattle.x10_finish.specs.Nesting.{stays_of}

-- a world that has not stopped
pub world_on : (program : Module) (bounds : List ℕ) (places : List PlaceState) (flights : FlightsState) (b : Bool)
    → IsWorld program bounds places flights b → b ≢ true → IsWorld program bounds places flights false
world_on program bounds places flights b w goes = record {
  belong = w.belong;
  places_are = w.places_are;
  none_stopped = λ on. w.none_stopped goes;
  few = w.few;
  world = w.world;
  stands = w.stands;
}

pub seen_on : (c : Certified) (places : List PlaceState) (flights : FlightsState) (b : Bool) (z : WorldState) → world_of c places flights b ≡ z
    → z.stopped ≢ true → world_of c places flights false ≡ z
seen_on c places flights true z seen on = absurd (on (subst (λ (t : WorldState). t.stopped ≡ true) seen refl))
seen_on c places flights false z seen on = seen

-- what a world answers to up to so many steps of one activity, and what it is then
pub record AnswersRun (z : WorldState) (place key most : ℕ) (result : Result ℕ Stop) (y : WorldState) : Type 0 where
  pub ok : IfOk result (λ n. (w : World) → StandsForWorld z w → RepeatsThrough z w n place key y)
  pub some : (w : World) → StandsForWorld z w → (n : ℕ) × (n ≤ most) × Repeats z w n place key y
  pub few : IfOk result (λ n. n ≤ most)
  pub all : IfOk result (λ n. n < most → IsIdleNow y place key ⊎ (BeganLast z place key n y ⊎ SentLast z place key n y))
  pub waits : IfOk result (λ n. n < most → y.flights.flying ≡ [] → (w : World) (number : ℕ) → StandsForWorld y w → WorksIn w place key number
      → IsFree (stays_of w.net place) key → MayEnd w (finish_at place number) → BeganLast z place key n y ⊎ SentLast z place key n y)
  pub stopped : z.stopped ≡ true → (result ≡ Err stop.Stopped) × (y ≡ z)
  pub goes : IfOk result (λ _. y.stopped ≢ true)
  pub hindered : z.stopped ≢ true → IfErr result (IsHaltedStretch z place key most y)
  pub stop_is : IfErr result (λ _. y.stopped ≡ true)
  pub kept : KeepsSetting z y

module _ (c : Certified) (places : List PlaceState) (flights : FlightsState) (z : WorldState) (seen : world_of c places flights false ≡ z) where
  module _ (event : Event) (new : List PlaceState) (after : FlightsState) (d : Bool) where
    event_ok : (result : Result Bool Stop) → Handles c places flights event result new after
        → IfOk result (λ u. (w : World) → StandsForWorld z w → MakesEvent z w event (world_of c new after d))
    event_ok (Err why) h = tt
    event_ok (Ok u) h = λ w stand. subst (λ t. MakesEvent t w event (world_of c new after d)) seen
        (h.made w (subst (λ t. StandsForWorld t w) (sym seen) stand))

    event_told : (result : Result Bool Stop) → Handles c places flights event result new after
        → IfOk result (λ moved. Happened z.places z.flights event moved new after)
    event_told (Err why) h = tt
    event_told (Ok moved) h = subst (λ (t : WorldState). Happened t.places t.flights event moved new after) seen h.told

    event_acts : (result : Result Bool Stop) → Handles c places flights event result new after
        → IfOk result (λ moved. IsTrue moved ↔ CanHappen z event)
    event_acts (Err why) h = tt
    event_acts (Ok moved) h = acts_where_it_can z event moved new after (event_told (Ok moved) h)

    event_kept : (result : Result Bool Stop) → Handles c places flights event result new after → KeepsSetting z (world_of c new after d)
    event_kept result h = subst (λ t. KeepsSetting t (world_of c new after d)) seen (record { program = refl; bounds = refl; count = h.count })

    -- the state that the event leads to is one that goes on
    on : z.stopped ≢ true
    on e = let f : false ≡ true = ap (λ (t : WorldState). t.stopped) seen ∙ e in cc

    event_idle : (result : Result Bool Stop) → Handles c places flights event result new after → d ≡ is_err result
        → IfOk result (λ moved. moved ≡ false → IsSameWorld z (world_of c new after d))
    event_idle (Err why) h e = tt
    event_idle (Ok moved) h e = idle_same z (world_of c new after d) event moved (event_told (Ok moved) h) (event_kept (Ok moved) h) on
        (λ t. let f : false ≡ true = sym e ∙ t in cc)

    event_made : (result : Result Bool Stop) → Handles c places flights event result new after → d ≡ is_err result
        → IfOk result (λ moved. (w : World) → StandsForWorld z w → RunsThrough z w (event ∷ []) (world_of c new after d))
    event_made (Err why) h e = tt
    event_made (Ok moved) h e = runs_one z (world_of c new after d) event
        (record {
          moved = moved;
          happened = event_told (Ok moved) h;
          kept = event_kept (Ok moved) h;
          goes = λ t. let f : false ≡ true = sym e ∙ t in
              cc;
        }) (event_ok (Ok moved) h)

    event_goes : (result : Result Bool Stop) → d ≡ is_err result → IfOk result (λ _. d ≢ true)
    event_goes (Err why) e = tt
    event_goes (Ok moved) e = λ t. let f : false ≡ true = sym e ∙ t in cc

    event_stops : (result : Result Bool Stop) → Handles c places flights event result new after → d ≡ is_err result
        → IfErr result (λ why. StopsAt z event why (world_of c new after d))
    event_stops (Ok u) h e = tt
    event_stops (Err why) h e = subst (λ x. StopsAt z event why (world_of c new after x)) (sym e)
        (subst (λ t. StopsAt t event why (world_of c new after true)) seen h.stops)

    -- all that a world answers to the event
    pub answers_event : (result : Result Bool Stop) → Handles c places flights event result new after → d ≡ is_err result
        → AnswersEvent z event result (world_of c new after d)
    answers_event result h e = record {
      told = event_told result h;
      ok = event_ok result h;
      made = event_made result h e;
      acts = event_acts result h;
      idle = event_idle result h e;
      goes = event_goes result e;
      stops = event_stops result h e;
      kept = event_kept result h;
    }

  module _ (place key most : ℕ) (new : List PlaceState) (after : FlightsState) (d : Bool) where
    run_ok : (result : Result ℕ Stop) → Stretches c places flights place key most result new after → d ≡ is_err result
        → IfOk result (λ n. (w : World) → StandsForWorld z w → RepeatsThrough z w n place key (world_of c new after d))
    run_ok (Err why) h e = tt
    run_ok (Ok n) h e = λ w stand. subst (λ x. RepeatsThrough z w n place key (world_of c new after x)) (sym e)
        (subst (λ t. RepeatsThrough t w n place key (world_of c new after false)) seen
        (h.made.1 w (subst (λ t. StandsForWorld t w) (sym seen) stand)))

    run_halted : (result : Result ℕ Stop) → Stretches c places flights place key most result new after → d ≡ is_err result
        → IfErr result (IsHaltedStretch z place key most (world_of c new after d))
    run_halted (Ok n) h e = tt
    run_halted (Err why) h e = subst (λ x. IsHaltedStretch z place key most (world_of c new after x) why) (sym e)
        (subst (λ t. IsHaltedStretch t place key most (world_of c new after true) why) seen h.halted)

    run_some : (result : Result ℕ Stop) → Stretches c places flights place key most result new after → d ≡ is_err result → (w : World)
        → StandsForWorld z w → (n : ℕ) × (n ≤ most) × Repeats z w n place key (world_of c new after d)
    run_some (Ok n) h e w stand = (n, h.made.0, repeats_reach z (world_of c new after d) w n place key (run_ok (Ok n) h e w stand))
    run_some (Err why) h e w stand = halted_repeats z (world_of c new after d) place key most why (run_halted (Err why) h e) w stand

    began : (n : ℕ) → BeganLast (world_of c places flights false) place key n (world_of c new after false)
        → BeganLast z place key n (world_of c new after d)
    began n b = subst (λ t. BeganLast t place key n (world_of c new after d)) seen
        (record { old = b.old; new = b.new; old_is = b.old_is; new_is = b.new_is; begins = b.begins })

    sent_last : (n : ℕ) → SentLast (world_of c places flights false) place key n (world_of c new after false)
        → SentLast z place key n (world_of c new after d)
    sent_last n s = subst (λ t. SentLast t place key n (world_of c new after d)) seen (record {
      old = s.old;
      new = s.new;
      old_is = s.old_is;
      new_is = s.new_is;
      sent = s.sent;
      sends = s.sends;
      posted = s.posted;
    })

    -- why no more were made
    abbrev pub Ends : ℕ → Type 0
    Ends n = BeganLast z place key n (world_of c new after d) ⊎ SentLast z place key n (world_of c new after d)

    run_all : (result : Result ℕ Stop) → Stretches c places flights place key most result new after
        → IfOk result (λ n. n < most → IsIdleNow (world_of c new after d) place key ⊎ Ends n)
    run_all (Err why) h = tt
    run_all (Ok n) h = λ less. elim (h.all less) [
      | inl idle ↦ inl idle
      | inr last ↦ elim last [
        | inl begins ↦ inr (inl (began n begins))
        | inr sends ↦ inr (inr (sent_last n sends))
      ]
    ]

    run_prompt : (result : Result ℕ Stop) → Stretches c places flights place key most result new after
        → IfOk result (λ n. n < most → after.flying ≡ [] → (w : World) (number : ℕ) → StandsForWorld (world_of c new after d) w
        → WorksIn w place key number → IsFree (stays_of w.net place) key → MayEnd w (finish_at place number) → Ends n)
    run_prompt (Err why) h = tt
    run_prompt (Ok n) h = λ less still w number stand works free may.
        run_waits (world_of c new after d) place key number (Ends n) h.world.belong still (run_all (Ok n) h less) w stand works free may

    run_kept : (result : Result ℕ Stop) → Stretches c places flights place key most result new after → KeepsSetting z (world_of c new after d)
    run_kept result h = subst (λ t. KeepsSetting t (world_of c new after d)) seen (record { program = refl; bounds = refl; count = h.count })

    run_few : (result : Result ℕ Stop) → Stretches c places flights place key most result new after → IfOk result (λ n. n ≤ most)
    run_few (Ok n) h = h.made.0
    run_few (Err why) h = tt

    run_goes : (result : Result ℕ Stop) → d ≡ is_err result → IfOk result (λ _. d ≢ true)
    run_goes (Ok n) e = λ t. let f : false ≡ true = sym e ∙ t in cc
    run_goes (Err why) e = tt

    run_stops : (result : Result ℕ Stop) → d ≡ is_err result → IfErr result (λ _. d ≡ true)
    run_stops (Ok n) e = tt
    run_stops (Err why) e = e

    pub answers_run : (result : Result ℕ Stop) → Stretches c places flights place key most result new after → d ≡ is_err result → z.stopped ≢ true
        → AnswersRun z place key most result (world_of c new after d)
    answers_run result h e on = record {
      ok = run_ok result h e;
      some = run_some result h e;
      few = run_few result h;
      all = run_all result h;
      waits = run_prompt result h;
      stopped = λ t. absurd (on t);
      goes = run_goes result e;
      hindered = λ t. run_halted result h e;
      stop_is = run_stops result e;
      kept = run_kept result h;
    }
