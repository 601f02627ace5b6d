-- A hall that takes a given number of turns at most, and what a worker asks of it.
use Rattle.std.specs.Prelude.{◌≡◌, ◌⊎◌, ℕ, ◌+◌, ◌^◌, Bool, true, false, List, ◌∷◌, ◌++◌, Option, Some, None, is_some, nat_le, length, replicate, flat_map, if◌then◌else◌}
use Rattle.x10_kinds.specs.declared.limit.Limit.TheVariants as limits
use Rattle.x10_kinds.specs.declared.stop.Stop.TheVariants as stop
use Rattle.x10_hall.specs.declared.port.End.{End}
use Rattle.x10_hall.specs.declared.port.PostFault.{PostFault}
use Rattle.x10_hall.specs.declared.port.PostFault.TheVariants as fault
use Rattle.x10_hall.specs.declared.port.Signal.{Signal}
use Rattle.x10_hall.specs.declared.port.Signal.TheVariants as signal
use Rattle.x10_hall.specs.declared.port.Take.{Take}
use Rattle.x10_hall.specs.declared.port.Take.TheVariants as take
use Rattle.x10_hall.specs.declared.port.End.TheVariants as end
use Rattle.x10_hall.specs.declared.state.HallState.{HallState}
use Rattle.x10_hall.specs.declared.state.HallState.TheVariants.{Open, Finished, Stopped}
use Rattle.x10_hall.specs.declared.turn.Turn.{Turn}
use Rattle.x10_hall.specs.declared.turn.Stint.{Stint}
use Rattle.x10_hall.specs.Halls.{HallValue, told, posted_in, next_frame, moved_on, finished}

-- a worker has stopped the run
abbrev pub is_stopped : HallState → Bool
is_stopped Open = false
is_stopped Finished = false
is_stopped Stopped = true

-- the run has ended
abbrev pub is_finished : HallState → Bool
is_finished Open = false
is_finished Finished = true
is_finished Stopped = false

-- why a turn can't be posted to a hall that takes so many turns, a refusal of memory apart: the run was stopped, or there
-- are that many turns, or frames would be numbered too high
abbrev pub refusal : ℕ → HallValue → Turn → Option PostFault
refusal most h turn =
    if is_stopped h.state then Some fault.Stopped else
    (if nat_le most (length h.log) then Some fault.Turns else
    (if nat_le (2 ^ 64) (posted_in h.log + length turn.frames.items) then Some
    (fault.Stop (stop.Limit limits.Frames)) else None))

-- why turns aren't posted: where it is neither that the run was stopped, nor the limit of turns, memory was refused, or
-- frames would be numbered too high
abbrev pub IsPostFault : PostFault → Type 0
IsPostFault fault.Stopped = Unit {0}
IsPostFault fault.Turns = Unit {0}
IsPostFault (fault.Stop why) = (why ≡ stop.Memory) ⊎ (why ≡ stop.Limit limits.Frames)

-- turns stand at the end of the log
abbrev pub with_turns : HallValue → List Turn → HallValue
with_turns h turns = record {
  places = h.places;
  log = h.log ++ turns;
  cursors = h.cursors;
  state = h.state;
}

-- a turn, so often
abbrev pub turns_of : Stint → List Turn
turns_of s = replicate s.times s.turn

-- turns, each so often
abbrev pub turns_in : List Stint → List Turn
turns_in stints = flat_map turns_of stints

-- a hall that takes so many turns gets some turns, before one that it refuses, and why
pub record PostsUpTo (most : ℕ) (h : HallValue) (turns : List Turn) (after : HallValue)
    (why : PostFault) : Type 0 where
  pub posted : List Turn
  pub turn : Turn
  pub behind : List Turn
  pub turns_are : turns ≡ posted ++ turn ∷ behind
  pub after_is : after ≡ with_turns h posted
  pub refused : (refusal most after turn ≡ Some why)
      ⊎ ((refusal most after turn ≡ None) × (why ≡ fault.Stop stop.Memory))

-- the state of a run once it is ended in a way
abbrev pub ended : End → HallState → HallState
ended end.Finished state = finished state
ended end.Stopped state = Stopped

-- what a worker of a place is told when it asks for a frame, and the hall then
abbrev pub Takes : HallValue → ℕ → Take → HallValue → Type 0
Takes h place (take.Frame f) after = (is_stopped h.state ≡ false)
    × (next_frame h place ≡ Some (told f)) × (after ≡ moved_on h place)
Takes h place take.Nothing after = (is_stopped h.state ≡ false) × (next_frame h place ≡ None)
    × (after ≡ h)
Takes h place take.Stopped after = (is_stopped h.state ≡ true) × (after ≡ h)

-- why a worker of a place needn't wait, if there is a reason
abbrev pub signal_of : HallValue → ℕ → Option Signal
signal_of h place =
    if is_stopped h.state then Some signal.Stopped else
    (if is_some (next_frame h place) then Some signal.Frame else
    (if is_finished h.state then Some signal.Finished else None))
