-- The hall: what callers see of it.
use Rattle.std.specs.Prelude.{ℕ, ◌+◌, ◌==◌, List, [], ◌∷◌, ◌++◌, Option, Some, None, map, flat_map, length, replicate, slice_get, slice_index}
use Rattle.std.specs.Prelude.{slice_set, if◌then◌else◌}
use Rattle.std.specs.Arc.{arc_value}
use Rattle.x10_hall.specs.declared.turn.Posted.{Posted}
use Rattle.x10_hall.specs.declared.turn.Taken.{Taken}
use Rattle.x10_hall.specs.declared.turn.Turn.{Turn}
use Rattle.x10_hall.specs.declared.state.HallState.{HallState}
use Rattle.x10_hall.specs.declared.state.HallState.TheVariants.{Open, Finished, Stopped}

-- a frame that was put out: the place that it goes to, and its bytes
pub record PostedFrame : Type 0 where
  pub to : ℕ
  pub bytes : List ℕ

-- a frame of a row: how many frames were posted before it, to whatever places, and its bytes
pub record Numbered : Type 0 where
  pub number : ℕ
  pub bytes : List ℕ

-- a hall: how many places have a row, the turns as they were posted, how many frames of its row each place has taken, and
-- whether the run goes on
pub record HallValue : Type 0 where
  pub places : ℕ
  pub log : List Turn
  pub cursors : List ℕ
  pub state : HallState

-- what a turn put out, as a frame
abbrev pub frame_of : Posted → PostedFrame
frame_of f = record { to = f.to; bytes = (arc_value f.bytes).items }

-- what a place was given, as a frame of its row
abbrev pub told : Taken → Numbered
told f = record { number = f.number; bytes = (arc_value f.bytes).items }

-- all frames of some turns, in the order in which they were posted
abbrev pub frames_of : List Turn → List PostedFrame
frames_of log = flat_map (λ t. map frame_of t.frames.items) log

-- how many frames some turns have
abbrev pub posted_in : List Turn → ℕ
posted_in log = length (frames_of log)

-- the frame under its number, if it goes to the place
abbrev pub if_to : ℕ → ℕ → PostedFrame → List Numbered
if_to place number f = if f.to == place then (record { number = number; bytes = f.bytes })
    ∷ [] else []

-- those of some frames that go to a place, each under its number, which counts up from a given one
abbrev pub row_from : ℕ → ℕ → List PostedFrame → List Numbered
row_from place number [] = []
row_from place number (f ∷ fs) = if_to place number f ++ row_from place (number + 1) fs

-- the row of a place: all frames of the log that go to it, in the order in which they were posted
abbrev pub row_of : ℕ → List Turn → List Numbered
row_of place log = row_from place 0 (frames_of log)

-- what stands in a row at a cursor, if there is one
abbrev pub at_cursor : List Numbered → Option ℕ → Option Numbered
at_cursor row None = None
at_cursor row (Some cursor) = slice_get row cursor

-- the next frame for a place, if it has a row and hasn't taken all of it
abbrev pub next_frame : HallValue → ℕ → Option Numbered
next_frame h place = at_cursor (row_of place h.log) (slice_get h.cursors place)

-- a hall for so many places, where nothing was posted
abbrev pub empty_hall : ℕ → HallValue
empty_hall places = record { places = places; log = []; cursors = replicate places 0; state = Open }

-- the turn stands at the end of the log
abbrev pub with_turn : HallValue → Turn → HallValue
with_turn h turn = record {
  places = h.places;
  log = h.log ++ turn ∷ [];
  cursors = h.cursors;
  state = h.state;
}

-- the place has taken one frame more
abbrev pub moved_on : HallValue → ℕ → HallValue
moved_on h place = record {
  places = h.places;
  log = h.log;
  cursors = slice_set h.cursors place (slice_index h.cursors place + 1);
  state = h.state;
}

-- the run goes on, or has ended, as the state says
abbrev pub with_state : HallValue → HallState → HallValue
with_state h state = record { places = h.places; log = h.log; cursors = h.cursors; state = state }

-- an open hall is finished, another stays as it is
abbrev pub finished : HallState → HallState
finished Open = Finished
finished Finished = Finished
finished Stopped = Stopped
