-- Why a worker stopped: what its place answered to a step or to a frame, after some of its steps and frames.
use Rattle.std.specs.Prelude.{◌≡◌, ◌⊎◌, ℕ, List, Result, MatchResult, length, slice_get, Some}
use Rattle.x10_kinds.specs.declared.limit.Limit.TheVariants as limits
use Rattle.x10_kinds.specs.declared.stop.Stop.{Stop}
use Rattle.x10_kinds.specs.declared.stop.Stop.TheVariants as stop
use Rattle.x10_copy.specs.declared.refusal.Refusal.{Refusal}
use Rattle.x10_verify.specs.Certified.{Certified}
use Rattle.x10_place.specs.Receiving.{IsRefusedBytes}
use Rattle.x10_place.specs.StandsFor.{PlaceState, IsHindered}
use Rattle.x10_hall.specs.Halls.{PostedFrame}
use Rattle.x10_hall.specs.declared.turn.Turn.{Turn}
use Rattle.x10_world.specs.Opening.{IsOpenedPlace}
use Rattle.x10_world.specs.StandsForWorld.{WorldState}
use Rattle.x10_workers.specs.declared.halt.Halt.{Halt}
use Rattle.x10_workers.specs.declared.halt.Halt.TheVariants as halt
use Rattle.x10_workers.specs.declared.halt.WorkFault.{WorkFault}
use Rattle.x10_workers.specs.declared.halt.WorkFault.TheVariants as fault
use Rattle.x10_workers.specs.declared.halt.Halted.{Halted}
use Rattle.x10_workers.specs.declared.trail.Kept.{Kept}
use Rattle.x10_workers.specs.Halts.{halt_of_refusal}
use Rattle.x10_workers.specs.Audits.{HaltsTurn, FromOpening}
use Rattle.x10_workers.specs.Plays.{Plays}
use Rattle.x10_workers.specs.Trails.{IsShort, TakesFrame, StepsEach}
use Rattle.x10_workers.specs.Workings.{IsKeptOf}

-- a place takes frames in and makes steps, in any order
pub data GoesTo (p : PlaceState) : PlaceState → Type 0 where
  stays : GoesTo p p
  takes : (q r : PlaceState) (bytes : List ℕ) → GoesTo p q → TakesFrame q bytes r → GoesTo p r
  steps : (q r : PlaceState) (keys : List ℕ) (out : List PostedFrame) → GoesTo p q
      → StepsEach q keys out r → GoesTo p r

-- Why a worker stops whose place is in this state: memory was refused, the log would have too many frames, a step was refused,
-- or bytes that came were. Of an end that others asked for nothing is said.
abbrev pub IsCauseOf : PlaceState → Halt → Type 0
IsCauseOf p (halt.Stop why) = (why ≡ stop.Memory) ⊎ ((why ≡ stop.Limit limits.Frames)
    ⊎ (((key : ℕ) × IsHindered p key why) ⊎ ((bytes : List ℕ) × (refused : Refusal)
    × IsRefusedBytes p bytes refused × (halt_of_refusal refused ≡ halt.Stop why))))
IsCauseOf p (halt.Refused why) = (bytes : List ℕ) × IsRefusedBytes p bytes why
IsCauseOf p why = Unit {0}

-- from a place, some of its frames and steps lead to a state in which there is this cause
pub record Halts (p : PlaceState) (why : Halt) : Type 0 where
  pub last : PlaceState
  pub goes : GoesTo p last
  pub cause : IsCauseOf last why

-- the same from the beginning of a place, one of so many of a module
pub record HaltsFrom (c : Certified) (places id : ℕ) (why : Halt) : Type 0 where
  pub first : PlaceState
  pub opened : IsOpenedPlace c places id first
  pub halts : Halts first why

-- how the worker of a place ended: with what it kept, or why it stopped; before its place was opened, memory was refused
abbrev pub IsEndOf : Certified → (places id : ℕ) → Result Kept Halted → Type 0
IsEndOf c places id end = MatchResult end (IsKeptOf c places id)
    (λ halted. (halted.why ≡ halt.Stop stop.Memory) ⊎ HaltsFrom c places id halted.why)

-- how the workers of so many places ended, by place
pub record AreAllEnds (c : Certified) (places : ℕ) (ends : List (Result Kept Halted)) : Type 0 where
  pub count : length ends ≡ places
  pub each : (id : ℕ) (end : Result Kept Halted) → slice_get ends id ≡ Some end
      → IsEndOf c places id end

-- ---- what stops a run

-- A world plays the turns of a log, and then an event of another turn of a place is refused, which is no longer than turns are.
pub record StopsAfter (x : WorldState) (log : List Turn) (place : ℕ) (why : Stop) : Type 0 where
  pub now : WorldState
  pub turn : Turn
  pub plays : Plays x log now
  pub place_is : turn.place ≡ place
  pub short : IsShort (length turn.taken.items) (length turn.keys)
  pub halts : HaltsTurn now turn why

-- the same of a world of so many places of a module, from its beginning
abbrev pub IsStopAfter : Certified → ℕ → List Turn → ℕ → Stop → Type 0
IsStopAfter c count log place why = FromOpening c count (λ x. StopsAfter x log place why)

-- Why a run stops: memory was refused, or the turns of its log lead to a world in which a turn of the place is refused. That a
-- place refuses a frame is no reason.
abbrev pub IsCausedAt : Certified → ℕ → WorkFault → Type 0
IsCausedAt c places (fault.Stop place why report) = (why ≡ stop.Memory)
    ⊎ IsStopAfter c places report.log.items place why
IsCausedAt c places (fault.Refused place why) = ⊥
IsCausedAt c places f = Unit {0}
