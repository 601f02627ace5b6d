-- Events, as a world makes them one after another.
use Rattle.std.proofs.Common.{◌≡◌, ◌≢◌, ◌↔◌, ℕ, ◌+◌, ◌≤◌, Bool, true, false, List, replicate, [], ◌∷◌, ◌++◌, Result, Ok, Err, refl, sym, subst, ◌∙◌}
use Rattle.std.specs.Prelude.{IfOk, IsTrue, take}
use Rattle.x10_kinds.specs.declared.stop.Stop.{Stop}
use Rattle.x10_model.specs.declared.event.Event.{Event}
use Rattle.x10_model.specs.declared.event.Event.TheVariants.{Step, Deliver}
use Rattle.x10_model.specs.Worlds.{World, Ideal, Happens, Run, done, WithinBounds}
use Rattle.x10_world.specs.Happenings.{Happened, CanHappen}
use Rattle.x10_flights.specs.Flights.{FlightsState, flight_of}
use Rattle.x10_place.specs.StandsFor.{PlaceState}
use Rattle.x10_model.proofs.Lists.{none_some}
use Rattle.x10_world.specs.Prompt.{IsPrompt}
use Rattle.x10_world.specs.StandsForWorld.{WorldState, KeepsSetting, setting_of_world, StandsForWorld, MakesEvent}
use Rattle.x10_world.specs.Runs.{IsSameWorld, Follows, Course, rests, RunsThrough, Runs, Reaches, IsHaltedAt, MovesOn, Repeats, RepeatsThrough, IsHaltedStretch}
use Rattle.x10_world.proofs.RunLemmas.{within, run_more, run_on, setting_kept, keeps_self}
use Rattle.x10_world.proofs.Courses.{same_self, stand_same, course_more, course_before, course_on, course_same, stop_stands}

-- an event that was made leads from state to state
pub follows_by : (x y : WorldState) (event : Event) (result : Result Bool Stop)
    → IfOk result (λ moved. Happened x.places x.flights event moved y.places y.flights) → KeepsSetting x y → IfOk result (λ _. y.stopped ≢ true)
    → ((why : Stop) → result ≡ Err why → ⊥) → Follows x event y
follows_by x y event (Ok moved) told kept goes never = record { moved = moved; happened = told; kept = kept; goes = goes }
follows_by x y event (Err why) told kept goes never = absurd (never why refl)

not_true : (b c : Bool) → b ≢ true → c ≢ true → c ≡ b
not_true true c f g = absurd (f refl)
not_true false true f g = absurd (g refl)
not_true false false f g = refl

-- one that found nothing to do leaves the state as it was
pub idle_same : (x y : WorldState) (event : Event) (moved : Bool) → Happened x.places x.flights event moved y.places y.flights → KeepsSetting x y
    → x.stopped ≢ true → y.stopped ≢ true → moved ≡ false → IsSameWorld x y
idle_same x y event true h kept on goes e = absurd cc
idle_same x y (Step id key) false h kept on goes e = record {
  places = h.places_are;
  flights = h.flights_are;
  kept = kept;
  stopped = not_true x.stopped y.stopped on goes;
}
idle_same x y (Deliver number) false h kept on goes e = record {
  places = h.places_are;
  flights = h.flights_are;
  kept = kept;
  stopped = not_true x.stopped y.stopped on goes;
}

-- those that can happen do something
pub acts_where_it_can : (x : WorldState) (event : Event) (moved : Bool) (new : List PlaceState) (after : FlightsState)
    → Happened x.places x.flights event moved new after → IsTrue moved ↔ CanHappen x event
acts_where_it_can x (Step id key) false new after h = ((λ t. absurd cc), (λ can. absurd (can.2 (h.idle can.0 can.1))))
acts_where_it_can x (Step id key) true new after h = ((λ t. (h.1.place, h.1.is_there, h.1.busy)), (λ can. refl))
acts_where_it_can x (Deliver number) false new after h = (
  (λ t. absurd cc),
  (λ can. absurd (none_some (flight_of x.flights number) can.0 h.none can.1)),
)
acts_where_it_can x (Deliver number) true new after h = ((λ t. (h.1.flight, h.1.flying)), (λ can. refl))

-- the run of no event
abbrev pub through_none : (x : WorldState) (w : World) → StandsForWorld x w → RunsThrough x w [] x
through_none x w stand = record {
  last = w;
  run = done w (within x w stand);
  stands = stand;
  course = rests x x w (same_self x) stand (within x w stand);
}

abbrev pub through_reaches : (x y : WorldState) (w : World) (events : List Event) → RunsThrough x w events y → Reaches x w events y
through_reaches x y w events r = record { last = r.last; run = r.run; stands = r.stands }

-- one event more, to a certain world
abbrev pub through_step : (x y z : WorldState) (events : List Event) (event : Event) (w v : World) (r : RunsThrough x w events y) → Follows y event z
    → (h : Happens Ideal (setting_of_world x) r.last event v)
    → (y.flights.flying ≡ [] → IsPrompt Ideal (setting_of_world x) r.last event v h) → StandsForWorld z v → WithinBounds x.bounds v
    → RunsThrough x w (events ++ event ∷ []) z
through_step x y z events event w v r follows h prompt stand q = record {
  last = v;
  run = run_more Ideal (setting_of_world x) (WithinBounds x.bounds) w r.last v events event r.run h q;
  stands = stand;
  course = course_more (setting_of_world x) x.bounds x y z w r.last v events event r.course follows h prompt stand q;
}

-- to any
pub through_more : (x y z : WorldState) (events : List Event) (event : Event) → KeepsSetting x y → Follows y event z
    → ((w : World) → StandsForWorld y w → MakesEvent y w event z) → (w : World) → RunsThrough x w events y → RunsThrough x w (events ++ event ∷ []) z
through_more x y z events event k follows makes w r =
    let m = makes r.last r.stands in
    let own : (h : Happens Ideal (setting_of_world x) r.last event m.0)
    × (y.flights.flying ≡ [] → IsPrompt Ideal (setting_of_world x) r.last event m.0 h) =
    subst (λ s. (h : Happens Ideal s r.last event m.0) × (y.flights.flying ≡ [] → IsPrompt Ideal s r.last event m.0 h)) (setting_kept x y k)
    (m.1, m.2) in
    through_step x y z events event w m.0 r follows own.0 own.1 m.3
    (subst (λ bs. WithinBounds bs m.0) (follows.kept.bounds ∙ k.bounds) (within z m.0 m.3))

-- one run after another
pub through_on : (x y z : WorldState) (w : World) (events more : List Event) → KeepsSetting x y → (first : RunsThrough x w events y)
    → RunsThrough y first.last more z → RunsThrough x w (events ++ more) z
through_on x y z w events more k first second = record {
  last = second.last;
  run = run_on Ideal (setting_of_world x) (WithinBounds x.bounds) w first.last second.last events more first.run
      (subst (λ s. Run Ideal s (WithinBounds x.bounds) first.last more second.last) (setting_kept x y k)
      (subst (λ bs. Run Ideal (setting_of_world y) (WithinBounds bs) first.last more second.last) k.bounds second.run));
  stands = second.stands;
  course = course_on (setting_of_world x) x.bounds x y z w first.last second.last events more first.course
      (subst (λ s. Course s x.bounds y first.last more z second.last) (setting_kept x y k)
      (subst (λ bs. Course (setting_of_world y) bs y first.last more z second.last) k.bounds second.course));
}

-- to the same state, with more room
pub through_same : (x y z : WorldState) (w : World) (events : List Event) → IsSameWorld y z → RunsThrough x w events y → RunsThrough x w events z
through_same x y z w events same r = record {
  last = r.last;
  run = r.run;
  stands = stand_same y z r.last same r.stands;
  course = course_same (setting_of_world x) x.bounds x y z w r.last events r.course same;
}

-- the next event of a list
pub runs_more : (x y z : WorldState) (events : List Event) (n : ℕ) (event : Event) → KeepsSetting x y → Follows y event z
    → take (n + 1) events ≡ take n events ++ event ∷ []
    → ((w : World) → StandsForWorld x w → Runs x w n events y) → ((w : World) → StandsForWorld y w → MakesEvent y w event z) → (w : World)
    → StandsForWorld x w → Runs x w (n + 1) events z
runs_more x y z events n event k follows more runs makes w stand =
    subst (λ es. RunsThrough x w es z) (sym more) (through_more x y z (take n events) event k follows makes w (runs w stand))

-- one event
pub runs_one : (x z : WorldState) (event : Event) → Follows x event z → ((w : World) → StandsForWorld x w → MakesEvent x w event z) → (w : World)
    → StandsForWorld x w → RunsThrough x w (event ∷ []) z
runs_one x z event follows makes w stand = through_more x x z [] event (keeps_self x) follows makes w (through_none x w stand)

-- the events before one that was refused lead to what the world then stands for
pub halted_reaches : (x y : WorldState) (events : List Event) (n : ℕ) (why : Stop) → IsHaltedAt x events n y why → (w : World) → StandsForWorld x w
    → Reaches x w (take n events) y
halted_reaches x y events n why h w stand =
    let r = h.runs w stand in
    record { last = r.last; run = r.run; stands = stop_stands h.state y h.event why r.last h.stops r.stands }

-- ---- steps of one activity

-- from the same state, with less room
pub repeats_before : (x y z : WorldState) (w : World) (n here key : ℕ) → IsSameWorld x y → StandsForWorld x w → RepeatsThrough y w n here key z
    → RepeatsThrough x w n here key z
repeats_before x y z w n here key same stand r = record {
  runs = record {
    last = r.runs.last;
    run = subst (λ s. Run Ideal s (WithinBounds x.bounds) w (replicate n (Step here key)) r.runs.last) (setting_kept x y same.kept)
        (subst (λ bs. Run Ideal (setting_of_world y) (WithinBounds bs) w (replicate n (Step here key)) r.runs.last) same.kept.bounds r.runs.run);
    stands = r.runs.stands;
    course = course_before (setting_of_world x) x.bounds x y z w r.runs.last (replicate n (Step here key)) same stand
        (subst (λ s. Course s x.bounds y w (replicate n (Step here key)) z r.runs.last) (setting_kept x y same.kept)
        (subst (λ bs. Course (setting_of_world y) bs y w (replicate n (Step here key)) z r.runs.last) same.kept.bounds r.runs.course));
  };
  moves = subst (λ s. MovesOn s here key w n r.runs.last) (setting_kept x y same.kept) r.moves;
}

pub repeats_reach : (x y : WorldState) (w : World) (n here key : ℕ) → RepeatsThrough x w n here key y → Repeats x w n here key y
repeats_reach x y w n here key r = record { reaches = through_reaches x y w (replicate n (Step here key)) r.runs; moves = r.moves }

-- those before one that was refused
pub halted_repeats : (x y : WorldState) (here key most : ℕ) (why : Stop) → IsHaltedStretch x here key most y why → (w : World) → StandsForWorld x w
    → (n : ℕ) × (n ≤ most) × Repeats x w n here key y
halted_repeats x y here key most why h w stand =
    let r = h.repeats w stand in (
      h.done,
      h.few,
      record {
        reaches = record {
          last = r.runs.last;
          run = r.runs.run;
          stands = stop_stands h.state y (Step here key) why r.runs.last h.stops r.runs.stands;
        };
        moves = r.moves;
      },
    )
