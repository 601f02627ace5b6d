-- Why a log that is made again isn't that of a run.
use Rattle.std.specs.Prelude.{◌≡◌, ◌≢◌, ◌⊎◌, ℕ, List, Some, map, drop, take, slice_get}
use Rattle.x10_kinds.specs.declared.stop.Stop.{Stop}
use Rattle.x10_kinds.specs.declared.stop.Stop.TheVariants as stop
use Rattle.x10_model.specs.declared.event.Event.{Event}
use Rattle.x10_model.specs.declared.event.Event.TheVariants.{Step, Deliver}
use Rattle.x10_verify.specs.Certified.{Certified}
use Rattle.x10_place.specs.declared.line.Line as place_line
use Rattle.x10_place.specs.StandsFor.{line_as}
use Rattle.x10_hall.specs.declared.turn.Turn.{Turn}
use Rattle.x10_flights.specs.Flights.{Flight, flight_of}
use Rattle.x10_world.specs.Opening.{IsOpenedWorld}
use Rattle.x10_world.specs.Queries.{HasNoPlace, HasPlace, IsClosed}
use Rattle.x10_world.specs.Runs.{StopsAt}
use Rattle.x10_world.specs.StandsForWorld.{WorldState}
use Rattle.x10_workers.specs.declared.fault.AuditFault.{AuditFault}
use Rattle.x10_workers.specs.declared.fault.AuditFault.TheVariants as fault
use Rattle.x10_workers.specs.Plays.{TakesFrames, StepsAll, PutsOutFrames, PrintsLines, Plays}

-- ---- a turn that differs

-- no frame with the number is in flight to a place
abbrev pub IsNotFor : WorldState → ℕ → ℕ → Type 0
IsNotFor x number place = (flight : Flight) → flight_of x.flights number ≡ Some flight
    → flight.to ≢ place

-- a place's lines behind its first ones, as many as a number says, print the same as some lines
abbrev pub HasPrinted : WorldState → ℕ → ℕ → List place_line.Line → Type 0
HasPrinted x place before lines = HasPlace x.places place
    (λ p. map line_as (drop before p.lines) ≡ map line_as lines)

-- Why a turn isn't one that a world plays. There is no such place; or the frames that it took are not in flight to the place, one
-- after another; or they are, the world takes them in and makes the steps, and what these put out and print is something else.
pub data IsOther (x : WorldState) (t : Turn) : Type 0 where
  nowhere : HasNoPlace x.places t.place → IsOther x t
  not_taken : ((y : WorldState) → TakesFrames x t.place t.taken.items y → ⊥) → IsOther x t
  otherwise : (middle y : WorldState) → TakesFrames x t.place t.taken.items middle
      → StepsAll middle t.place t.keys y
      → (PutsOutFrames x.flights.posted t.frames.items y → PrintsLines x t.place t.lines.items y
      → ⊥) → IsOther x t

-- a world plays the turns of a log before the one with a number, which is another one than the world then plays
pub record DiffersFirst (x : WorldState) (log : List Turn) (number : ℕ) : Type 0 where
  pub now : WorldState
  pub turn : Turn
  pub before : Plays x (take number log) now
  pub is_next : slice_get log number ≡ Some turn
  pub other : IsOther now turn

-- ---- a turn that is refused

-- an event was refused, and why: all that the world had is as it was
abbrev pub IsRefusedAt : WorldState → Event → Stop → Type 0
IsRefusedAt x event why = (left : WorldState) × StopsAt x event why left

-- one of some frames was refused, after those before it were taken in
pub record HaltsTaking (x : WorldState) (place : ℕ) (taken : List ℕ) (why : Stop) : Type 0 where
  pub at : ℕ
  pub number : ℕ
  pub now : WorldState
  pub takes : TakesFrames x place (take at taken) now
  pub is_next : slice_get taken at ≡ Some number
  pub halted : IsRefusedAt now (Deliver number) why

-- a step of one of some keys was refused, after those before it were made
pub record HaltsStepping (x : WorldState) (place : ℕ) (keys : List ℕ) (why : Stop) : Type 0 where
  pub at : ℕ
  pub key : ℕ
  pub now : WorldState
  pub steps : StepsAll x place (take at keys) now
  pub is_next : slice_get keys at ≡ Some key
  pub halted : IsRefusedAt now (Step place key) why

-- an event of a turn was refused
abbrev pub HaltsTurn : WorldState → Turn → Stop → Type 0
HaltsTurn x t why = HaltsTaking x t.place t.taken.items why
    ⊎ ((middle : WorldState) × TakesFrames x t.place t.taken.items middle
    × HaltsStepping middle t.place t.keys why)

-- a world plays some turns of a log, and an event of the next one is refused
pub record HaltsIn (x : WorldState) (log : List Turn) (why : Stop) : Type 0 where
  pub number : ℕ
  pub now : WorldState
  pub turn : Turn
  pub before : Plays x (take number log) now
  pub is_next : slice_get log number ≡ Some turn
  pub halts : HaltsTurn now turn why

-- ---- a log

-- why the turns of a log are not all made
abbrev pub BreaksOff : WorldState → List Turn → AuditFault → Type 0
BreaksOff x log (fault.Differs number) = DiffersFirst x log number
BreaksOff x log (fault.Stop why) = HaltsIn x log why
BreaksOff x log fault.Open = ⊥

-- why there are no outputs of a world after its last turn: its run may go on, or memory was refused
abbrev pub HasNotEnded : WorldState → AuditFault → Type 0
HasNotEnded x fault.Open = IsClosed x.places → ⊥
HasNotEnded x (fault.Stop why) = why ≡ stop.Memory
HasNotEnded x (fault.Differs number) = ⊥

-- a world of so many places of a module, from its beginning
abbrev pub FromOpening : Certified → ℕ → (WorldState → Type 0) → Type 0
FromOpening c count P = (first : WorldState) × IsOpenedWorld c count first × P first

-- a world plays all turns of a log, and then the root finish may not end
abbrev pub StaysOpen : List Turn → WorldState → Type 0
StaysOpen log x = (last : WorldState) × Plays x log last × (IsClosed last.places → ⊥)

-- Why a log isn't that of a run. The number is that of the first turn that differs; Open comes only where none does; and a Stop
-- only where memory or an event of a turn was refused.
abbrev pub IsNotPlayed : Certified → ℕ → List Turn → AuditFault → Type 0
IsNotPlayed c count log (fault.Differs number) =
    FromOpening c count (λ x. DiffersFirst x log number)
IsNotPlayed c count log fault.Open = FromOpening c count (StaysOpen log)
IsNotPlayed c count log (fault.Stop why) = (why ≡ stop.Memory)
    ⊎ FromOpening c count (λ x. HaltsIn x log why)
