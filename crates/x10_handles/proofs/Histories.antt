-- A run of a world behind a handle, from its opening on, goes on with each event.
use Rattle.std.proofs.Common.{◌≡◌, ◌≢◌, ◌↔◌, ℕ, Bool, true, false, List, [], ◌∷◌, ◌++◌, Result, Ok, Err, refl, sym, subst, inl, inr}
use Rattle.std.specs.Prelude.{IfOk, IfErr, IsTrue}
use Rattle.x10_kinds.specs.declared.stop.Stop.{Stop}
use Rattle.x10_model.specs.declared.event.Event.{Event}
use Rattle.x10_model.specs.Worlds.{World, opening}
use Rattle.x10_verify.specs.Certified.{Certified, IsCertified}
use Rattle.x10_world.specs.Happenings.{CanHappen, Happened}
use Rattle.x10_world.specs.Opening.{IsForbidden, IsOpenedWorld}
use Rattle.x10_world.specs.Runs.{IsSameWorld, RunsThrough, StopsAt}
use Rattle.x10_world.specs.StandsForWorld.{WorldState, KeepsSetting, StandsForWorld, setting_of_world}
use Rattle.x10_world.proofs.Courses.{stop_stands}
use Rattle.x10_world.proofs.EndingLemmas.{lines_are}
use Rattle.x10_world.proofs.EventRuns.{through_none, through_on}
use Rattle.x10_world.proofs.RunLemmas.{keeps_more, keeps_self}
use Rattle.x10_handles.specs.Histories.{IsLeft, IsRun, IsRunOf, events_after}
use Rattle.x10_handles.specs.Worlds.{IsMade}

-- a world at its beginning has made no event
pub begun : (c : Certified) (count : ℕ) (x : WorldState) → IsCertified c → (IsForbidden c count → ⊥) → IsOpenedWorld c count x
    → IsRunOf c count [] x
begun c count x certified permitted opened = record {
  certified = certified;
  permitted = permitted;
  first = x;
  opened = opened;
  final = x;
  runs = through_none x (opening (setting_of_world x) 0) opened.stands;
  left = inl refl;
  kept = keeps_self x;
  stands = opened.stands;
  lines = lines_are x (opening (setting_of_world x) 0) opened.stands;
}

-- a world that has not stopped is as its last event left it
going : (final x : WorldState) → x.stopped ≢ true → IsLeft final x → final ≡ x
going final x on (inl same) = sym same
going final x on (inr stops) = absurd (on stops.2.stopped)

-- one event more
goes_on : (c : Certified) (count : ℕ) (events : List Event) (event : Event) (x y : WorldState) → x.stopped ≢ true → KeepsSetting x y
    → ((w : World) → StandsForWorld x w → RunsThrough x w (event ∷ []) y) → IsRunOf c count events x → IsRunOf c count (events ++ event ∷ []) y
goes_on c count events event x y on kept made h = record {
  certified = h.certified;
  permitted = h.permitted;
  first = h.first;
  opened = h.opened;
  final = y;
  runs = runs;
  left = inl refl;
  kept = keeps_more h.first x y h.kept kept;
  stands = runs.stands;
  lines = lines_are y runs.last runs.stands;
}
  where
    before : RunsThrough h.first (opening (setting_of_world h.first) 0) events x
    before = subst (λ z. RunsThrough h.first (opening (setting_of_world h.first) 0) events z) (going h.final x on h.left) h.runs

    runs : RunsThrough h.first (opening (setting_of_world h.first) 0) (events ++ event ∷ []) y
    runs = through_on h.first x y (opening (setting_of_world h.first) 0) events (event ∷ []) h.kept before (made before.last before.stands)

-- an event was refused
stays : (c : Certified) (count : ℕ) (events : List Event) (event : Event) (why : Stop) (x y : WorldState) → x.stopped ≢ true
    → StopsAt x event why y → IsRunOf c count events x → IsRunOf c count events y
stays c count events event why x y on stops h = record {
  certified = h.certified;
  permitted = h.permitted;
  first = h.first;
  opened = h.opened;
  final = h.final;
  runs = h.runs;
  left = inr (event, why, subst (λ z. StopsAt z event why y) (sym (going h.final x on h.left)) stops);
  kept = keeps_more h.first x y h.kept stops.kept;
  stands = stands;
  lines = lines_are y h.runs.last stands;
}
  where
    stands : StandsForWorld y h.runs.last
    stands = stop_stands x y event why h.runs.last stops h.stands

-- an event of a world that goes on
pub made_is : (x y : WorldState) (event : Event) (r : Result Bool Stop) → x.stopped ≢ true
    → IfOk r (λ moved. Happened x.places x.flights event moved y.places y.flights) → IfOk r (λ moved. IsTrue moved ↔ CanHappen x event)
    → IfOk r (λ moved. moved ≡ false → IsSameWorld x y)
    → IfOk r (λ moved. (w : World) → StandsForWorld x w → RunsThrough x w (event ∷ []) y) → IfOk r (λ moved. y.stopped ≢ true)
    → IfErr r (λ why. StopsAt x event why y) → KeepsSetting x y → IsMade x event r y
made_is x y event (Ok moved) on told acts idle all goes stops kept = record {
  told = told;
  acts = acts;
  idle = idle;
  all = all;
  stopped = λ e. absurd (on e);
  goes = goes;
  hindered = λ still. tt;
  left = tt;
  stop = tt;
  kept = kept;
  history = λ c count events h. goes_on c count events event x y on kept all h;
}
made_is x y event (Err why) on told acts idle all goes stops kept = record {
  told = tt;
  acts = tt;
  idle = tt;
  all = tt;
  stopped = λ e. absurd (on e);
  goes = tt;
  hindered = λ still. stops;
  left = λ w stand. stop_stands x y event why w stops stand;
  stop = stops.stopped;
  kept = kept;
  history = λ c count events h. stays c count events event why x y on stops h;
}

-- the world has made some events afterwards too
pub run_on : (x y : WorldState) (event : Event) (r : Result Bool Stop) → IsMade x event r y → IsRun x → IsRun y
run_on x y event r made (c, count, events, h) = (c, count, events_after events event r, made.history c count events h)
