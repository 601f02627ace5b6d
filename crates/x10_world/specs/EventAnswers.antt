-- An event, as it changes the parts of a world.
use Rattle.std.specs.Prelude.{◌≡◌, ◌≢◌, ◌↔◌, ◌⊎◌, ℕ, ◌<◌, ◌≤◌, Bool, IsTrue, List, [], ◌∷◌, length, Result, IfOk, IfErr, true, false}
use Rattle.std.specs.Result.{is_err}
use Rattle.x10_kinds.specs.declared.stop.Stop.{Stop}
use Rattle.x10_model.specs.declared.event.Event.{Event}
use Rattle.x10_model.specs.Worlds.{World}
use Rattle.x10_verify.specs.Certified.{Certified}
use Rattle.x10_place.specs.StandsFor.{PlaceState}
use Rattle.x10_flights.specs.Flights.{FlightsState}
use Rattle.x10_world.specs.StandsForWorld.{WorldState, KeepsSetting, StandsForWorld, world_of, IsWorld, AllStandFor, MakesEvent, IsIdleNow, BeganLast}
use Rattle.x10_world.specs.Happenings.{Happened, CanHappen}
use Rattle.x10_world.specs.Runs.{IsSameWorld, RunsThrough, RepeatsThrough, SentLast, StopsAt, IsHaltedStretch}

-- What an event does to the places and to the frames of a world that has not stopped: an event of each world of the machine
-- for which they stand; or it is refused, and they stand for what they stood for.
pub record Handles (c : Certified) (places : List PlaceState) (flights : FlightsState)
    (event : Event) (result : Result Bool Stop) (new : List PlaceState)
    (after : FlightsState) : Type 0 where
  pub count : length new ≡ length places
  pub world : IsWorld c.program c.bounds new after (is_err result)
  pub made : IfOk result
      (λ _. (w : World) → AllStandFor c.program c.bounds places flights w
      → MakesEvent (world_of c places flights false) w event (world_of c new after false))
  pub told : IfOk result (λ moved. Happened places flights event moved new after)
  pub stops : IfErr result (λ why. StopsAt (world_of c places flights false) event why
      (world_of c new after true))

-- What a world that has not stopped answers to an event: whether it did anything, or why it is refused.
pub record AnswersEvent (x : WorldState) (event : Event) (result : Result Bool Stop)
    (y : WorldState) : Type 0 where
  pub told : IfOk result (λ moved. Happened x.places x.flights event moved y.places y.flights)
  pub ok : IfOk result (λ _. (w : World) → StandsForWorld x w → MakesEvent x w event y)
  pub made : IfOk result (λ _. (w : World) → StandsForWorld x w → RunsThrough x w (event ∷ []) y)
  pub acts : IfOk result (λ moved. IsTrue moved ↔ CanHappen x event)
  pub idle : IfOk result (λ moved. moved ≡ false → IsSameWorld x y)
  pub goes : IfOk result (λ _. y.stopped ≢ true)
  pub stops : IfErr result (λ why. StopsAt x event why y)
  pub kept : KeepsSetting x y

-- what up to so many steps of one activity do
pub record Stretches (c : Certified) (places : List PlaceState) (flights : FlightsState)
    (id key most : ℕ) (result : Result ℕ Stop) (new : List PlaceState)
    (after : FlightsState) : Type 0 where
  pub count : length new ≡ length places
  pub world : IsWorld c.program c.bounds new after (is_err result)
  pub made : IfOk result (λ n. (n ≤ most) ×
      ((w : World) → AllStandFor c.program c.bounds places flights w
      → RepeatsThrough (world_of c places flights false) w n id key (world_of c new after false)))
  pub all : IfOk result (λ n. n < most → IsIdleNow (world_of c new after false) id key ⊎
      (BeganLast (world_of c places flights false) id key n (world_of c new after false)
      ⊎ SentLast (world_of c places flights false) id key n (world_of c new after false)))
  pub halted : IfErr result (IsHaltedStretch (world_of c places flights false) id key most
      (world_of c new after true))
