-- What the turns of a log say of a world of the program, and of a run of the machine.
use Rattle.std.specs.Prelude.{◌≡◌, ℕ, ◌+◌, List, [], ◌∷◌, ◌++◌, length, map, drop, Some, slice_get}
use Rattle.std.specs.Arc.{arc_value}
use Rattle.x10_model.specs.declared.event.Event.{Event}
use Rattle.x10_model.specs.declared.event.Event.TheVariants.{Step, Deliver}
use Rattle.x10_model.specs.Logs as machine
use Rattle.x10_model.specs.Logs.{events_of}
use Rattle.x10_model.specs.Places.{Line}
use Rattle.x10_model.specs.Worlds.{World, Ideal, Run, WithinBounds, IsOver, opening}
use Rattle.x10_verify.specs.Certified.{Certified}
use Rattle.x10_place.specs.declared.line.Line as place_line
use Rattle.x10_place.specs.StandsFor.{PlaceState, line_as}
use Rattle.x10_hall.specs.declared.turn.Posted.{Posted}
use Rattle.x10_hall.specs.declared.turn.Turn.{Turn}
use Rattle.x10_world.specs.declared.done.Done.{Done}
use Rattle.x10_world.specs.declared.done.Done.TheVariants.{Taken}
use Rattle.x10_world.specs.Endings.{AreLinesOf}
use Rattle.x10_flights.specs.Flights.{Flight, flight_of}
use Rattle.x10_world.specs.Happenings.{HasDone}
use Rattle.x10_world.specs.Opening.{IsOpenedWorld}
use Rattle.x10_world.specs.Queries.{IsClosed}
use Rattle.x10_world.specs.StandsForWorld.{WorldState, StandsForWorld, KeepsSetting, MakesEvent}

-- a turn as the machine sees it
abbrev pub turn_as : Turn → machine.Turn
turn_as t = record { place = t.place; taken = t.taken.items; keys = t.keys }

-- the events of turns, one turn after another
abbrev pub events_in : List Turn → List Event
events_in turns = events_of (map turn_as turns)

-- a frame as it flies under a number
abbrev pub flight_as : ℕ → Posted → Flight
flight_as number f = record { number = number; to = f.to; bytes = (arc_value f.bytes).items }

-- An event leads a world of the program on, and each world of the machine that it stands for by a move.
pub record GoesBy (event : Event) (did : Done) (x y : WorldState) : Type 0 where
  pub done : HasDone x event did y
  pub makes : (w : World) → StandsForWorld x w → MakesEvent x w event y
  pub kept : KeepsSetting x y

-- the frame with a number, in flight to a place, is taken in there
abbrev pub TakesOne : WorldState → ℕ → ℕ → WorldState → Type 0
TakesOne x place number y = GoesBy (Deliver number) (Taken place) x y

-- the frames with these numbers, each in flight to the place then, are taken in one after another
pub data TakesFrames (x : WorldState) (place : ℕ) : List ℕ → WorldState → Type 0 where
  takes_none : TakesFrames x place [] x
  takes_more : (taken : List ℕ) (number : ℕ) (y z : WorldState) → TakesFrames x place taken y
      → TakesOne y place number z → TakesFrames x place (taken ++ number ∷ []) z

-- the activity with a key makes a step, or finds nothing to do
abbrev pub StepsKey : WorldState → ℕ → ℕ → WorldState → Type 0
StepsKey x place key y = (did : Done) × GoesBy (Step place key) did x y

-- the activities with these keys do so one after another
pub data StepsAll (x : WorldState) (place : ℕ) : List ℕ → WorldState → Type 0 where
  steps_none : StepsAll x place [] x
  steps_more : (keys : List ℕ) (key : ℕ) (y z : WorldState) → StepsAll x place keys y
      → StepsKey y place key z → StepsAll x place (keys ++ key ∷ []) z

-- these frames are in flight under the numbers from one on, and no more were numbered
pub record PutsOutFrames (first : ℕ) (frames : List Posted) (y : WorldState) : Type 0 where
  pub count : y.flights.posted ≡ first + length frames
  pub each : (i : ℕ) (f : Posted) → slice_get frames i ≡ Some f
      → flight_of y.flights (first + i) ≡ Some (flight_as (first + i) f)

-- the place printed these lines, behind those that it had printed before
pub record PrintsLines (x : WorldState) (place : ℕ) (lines : List place_line.Line)
    (y : WorldState) : Type 0 where
  pub old : PlaceState
  pub new : PlaceState
  pub old_is : slice_get x.places place ≡ Some old
  pub new_is : slice_get y.places place ≡ Some new
  pub printed : map line_as (drop (length old.lines) new.lines) ≡ map line_as lines

-- a turn: its frames are taken in, then its keys are stepped; its frames and lines are those of these events
pub record PlaysTurn (x : WorldState) (t : Turn) (y : WorldState) : Type 0 where
  pub middle : WorldState
  pub takes : TakesFrames x t.place t.taken.items middle
  pub steps : StepsAll middle t.place t.keys y
  pub puts_out : PutsOutFrames x.flights.posted t.frames.items y
  pub prints : PrintsLines x t.place t.lines.items y

-- turns, one after another
pub data Plays (x : WorldState) : List Turn → WorldState → Type 0 where
  plays_none : Plays x [] x
  plays_more : (turns : List Turn) (t : Turn) (y z : WorldState) → Plays x turns y → PlaysTurn y t z
      → Plays x (turns ++ t ∷ []) z

-- The turns of a log lead a world of so many places from its beginning to one whose run has ended: there the root finish may
-- end, by what its home has counted and was told, and nothing lives. Their events are a run of the machine from its opening, by
-- the rule that a finish ends only when all that it governs has: none goes wrong, and no activity takes more steps than its
-- bound. The outputs are those of its last world.
pub record IsPlayed (c : Certified) (count : ℕ) (log : List Turn)
    (outputs : List (List Line)) : Type 0 where
  pub first : WorldState
  pub final : WorldState
  pub opened : IsOpenedWorld c count first
  pub plays : Plays first log final
  pub closed : IsClosed final.places
  pub last : World
  pub run : Run Ideal (record { program = c.program; places = count }) (WithinBounds c.bounds)
      (opening (record { program = c.program; places = count }) 0)
      (events_in log) last
  pub stands : StandsForWorld final last
  pub over : IsOver last
  pub count_is : length outputs ≡ count
  pub lines : AreLinesOf outputs last
