-- Runs of a world of the program: events in their turn, each of which leads from one state to the next.
use Rattle.std.specs.Prelude.{◌≡◌, ◌≢◌, ◌⊎◌, ℕ, ◌+◌, ◌≤◌, Bool, List, [], ◌∷◌, Some, true, map, replicate, slice_get, slice_set, take}
use Rattle.x10_kinds.specs.declared.stop.Stop.{Stop}
use Rattle.x10_model.specs.declared.event.Event.{Event}
use Rattle.x10_model.specs.declared.event.Event.TheVariants.{Step, Deliver}
use Rattle.x10_model.specs.Places.{Setting, Waits}
use Rattle.x10_model.specs.Worlds.{World, Ideal, Happens, Steps, GoesWrong, Run, WithinBounds}
use Rattle.x10_place.specs.declared.sent.Sent.{Sent}
use Rattle.x10_place.specs.StandsFor.{PlaceState}
use Rattle.x10_place.specs.Stretches.{SendsLast}
use Rattle.x10_flights.specs.Flights.{Flight, flight_of}
use Rattle.x10_world.specs.Happenings.{AreUnchanged, Happened, frame_count}
use Rattle.x10_world.specs.Prompt.{IsPrompt}
use Rattle.x10_world.specs.StandsForWorld.{WorldState, KeepsSetting, setting_of_world, StandsForWorld, IsHinderedAt}

-- ---- one event

-- two states are the same, but that the second may have more room for frames
pub record IsSameWorld (x y : WorldState) : Type 0 where
  pub places : y.places ≡ x.places
  pub flights : AreUnchanged x.flights y.flights
  pub kept : KeepsSetting x y
  pub stopped : y.stopped ≡ x.stopped

-- An event was made: what it names was taken in or made its step, or it names nothing able to move, and nothing has changed.
-- The world goes on.
pub record Follows (x : WorldState) (event : Event) (y : WorldState) : Type 0 where
  pub moved : Bool
  pub happened : Happened x.places x.flights event moved y.places y.flights
  pub kept : KeepsSetting x y
  pub goes : y.stopped ≢ true

-- the place to which an event happens: the one of a step, or the one that a delivery's frame is for
abbrev pub IsPlaceOf : WorldState → Event → ℕ → Type 0
IsPlaceOf x (Step here key) id = id ≡ here
IsPlaceOf x (Deliver number) id = (f : Flight) × (flight_of x.flights number ≡ Some f)
    × (id ≡ f.to)

-- the places are as they were; or the one to which the event would have happened has stopped, and is else as it was
abbrev pub AreHalted : WorldState → Event → List PlaceState → Type 0
AreHalted x event new = (new ≡ x.places) ⊎ ((id : ℕ) × (p : PlaceState) × IsPlaceOf x event id
    × (slice_get x.places id ≡ Some p)
    × (new ≡ slice_set x.places id (record p { stopped = true })))

-- An event was refused, and why: the world has stopped, and all that it had is as it was.
pub record StopsAt (x : WorldState) (event : Event) (why : Stop) (y : WorldState) : Type 0 where
  pub hindered : IsHinderedAt x event why
  pub places : AreHalted x event y.places
  pub flights : AreUnchanged x.flights y.flights
  pub kept : KeepsSetting x y
  pub stopped : y.stopped ≡ true

-- ---- runs

-- Events in their turn, each from the state that the one before it left, and from one world that the first state stands for
-- to one that the last stands for: none goes wrong, no activity takes more steps than its bound, and where no frame flies,
-- none waits at the end of a finish that may end.
pub data Course (setting : Setting) (bounds : List ℕ) : WorldState → World → List Event → WorldState
    → World → Type 0 where
  rests : (x y : WorldState) (w : World) → IsSameWorld x y → StandsForWorld x w
      → WithinBounds bounds w → Course setting bounds x w [] y w
  goes : (x y z : WorldState) (u v w : World) (event : Event) (events : List Event)
      → StandsForWorld x u → WithinBounds bounds u
      → (GoesWrong setting u event → ⊥) → Follows x event y → (h : Happens Ideal setting u event v)
      → (x.flights.flying ≡ [] → IsPrompt Ideal setting u event v h)
      → Course setting bounds y v events z w → Course setting bounds x u (event ∷ events) z w

-- Such events are a run of the machine, to a world that the new state stands for.
pub record RunsThrough (x : WorldState) (w : World) (events : List Event)
    (y : WorldState) : Type 0 where
  pub last : World
  pub run : Run Ideal (setting_of_world x) (WithinBounds x.bounds) w events last
  pub stands : StandsForWorld y last
  pub course : Course (setting_of_world x) x.bounds x w events y last

-- the events before number n are
abbrev pub Runs : WorldState → World → ℕ → List Event → WorldState → Type 0
Runs x w n events y = RunsThrough x w (take n events) y

-- a run of the machine under these events leads to a world that the new state stands for
pub record Reaches (x : WorldState) (w : World) (events : List Event)
    (y : WorldState) : Type 0 where
  pub last : World
  pub run : Run Ideal (setting_of_world x) (WithinBounds x.bounds) w events last
  pub stands : StandsForWorld y last

-- the events before number n were made, and the one with this number was refused
pub record IsHaltedAt (x : WorldState) (events : List Event) (n : ℕ) (y : WorldState)
    (why : Stop) : Type 0 where
  pub event : Event
  pub is_next : slice_get events n ≡ Some event
  pub state : WorldState
  pub runs : (w : World) → StandsForWorld x w → Runs x w n events state
  pub stops : StopsAt state event why y

abbrev pub IsHaltedRun : WorldState → List Event → WorldState → Stop → Type 0
IsHaltedRun x events y why = (n : ℕ) × IsHaltedAt x events n y why

-- a step of each of some activities of a place
abbrev pub steps_at : ℕ → List ℕ → List Event
steps_at here keys = map (λ key. Step here key) keys

-- ---- steps of one activity

-- a move of the activity with a key at a place, which is no wait at the end of a finish
pub record MovesOnce (setting : Setting) (w : World) (here key : ℕ) (v : World) : Type 0 where
  pub steps : Steps Ideal setting w here key v
  pub goes : (number : ℕ) → steps.effect ≡ Waits number → ⊥

-- so many such moves, one after another
pub data MovesOn (setting : Setting) (here key : ℕ) (u : World) : ℕ → World → Type 0 where
  at_rest : MovesOn setting here key u 0 u
  moves_on : (n : ℕ) (v w : World) → MovesOn setting here key u n v → MovesOnce setting v here key w
      → MovesOn setting here key u (n + 1) w

-- The same Step so many times: each is a move, none goes wrong, and no activity takes more steps than its bound. They lead
-- to a world that the new state stands for, ..
pub record Repeats (x : WorldState) (w : World) (n here key : ℕ) (y : WorldState) : Type 0 where
  pub reaches : Reaches x w (replicate n (Step here key)) y
  pub moves : MovesOn (setting_of_world x) here key w n reaches.last

-- .. and each leads from one state to the next.
pub record RepeatsThrough (x : WorldState) (w : World) (n here key : ℕ)
    (y : WorldState) : Type 0 where
  pub runs : RunsThrough x w (replicate n (Step here key)) y
  pub moves : MovesOn (setting_of_world x) here key w n runs.last

-- the last of so many Steps of the key at the place put out a frame or two, and none before it did
pub record SentLast (x : WorldState) (place key n : ℕ) (y : WorldState) : Type 0 where
  pub old : PlaceState
  pub new : PlaceState
  pub old_is : slice_get x.places place ≡ Some old
  pub new_is : slice_get y.places place ≡ Some new
  pub sent : Sent
  pub sends : SendsLast key old n sent new
  pub posted : y.flights.posted ≡ x.flights.posted + frame_count sent

-- so many were made, and the next was refused
pub record IsHaltedStretch (x : WorldState) (here key most : ℕ) (y : WorldState)
    (why : Stop) : Type 0 where
  pub done : ℕ
  pub few : done ≤ most
  pub state : WorldState
  pub repeats : (w : World) → StandsForWorld x w → RepeatsThrough x w done here key state
  pub stops : StopsAt state (Step here key) why y
