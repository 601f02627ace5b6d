-- The numbers that stand before the graph of a frame, or before the counts of a report.
use Rattle.std.specs.Prelude.{ℕ, zero, suc, ◌&&◌, nat_le, List, [], None}
use Rattle.std.specs.Int.{w16, w32}
use Rattle.x10_model.specs.declared.version.FrameVersion.{FrameVersion}
use Rattle.x10_model.specs.Frames.{Graph, Frame}
use Rattle.x10_model.specs.Frames as frames
use Rattle.x10_model.specs.Readers.{Reader, ◌>>=◌, ◌>>◌, done, such_that, expect, given, byte, number, times}
use Rattle.x10_model.specs.ReadingFrames.{FrameFault, Short, FrameType, Place, place_at, graph_at}
use Rattle.x10_model.specs.declared.finish.Finish.{Finish}
use Rattle.x10_frame.specs.declared.head.Head.{Head}
use Rattle.x10_frame.specs.declared.head.What.{What}
use Rattle.x10_frame.specs.declared.head.What.TheVariants as what

abbrev pub head : (from to : ℕ) → What → Head
head from to w = record { from = from; to = to; what = w }

abbrev pub finish : (home number : ℕ) → Finish
finish home number = record { home = home; number = number }

-- what stands before the graph of a frame, or before its counts
abbrev pub head_of : Frame → Head
head_of (frames.Spawn from to home number function graph) =
    head from to (what.Spawn (finish home number) function)
head_of (frames.Shift from to waiting home number function graph) =
    head from to (what.Shift waiting (finish home number) function)
head_of (frames.Back from to waiting graph) = head from to (what.Back waiting)
head_of (frames.Report from to number sent received) = head from to (what.Report number)

abbrev pub no_graph : Graph
no_graph = record { roots = []; texts = []; rails = []; nodes = [] }

-- the graph of a frame; a report's has nothing
abbrev pub graph_of : Frame → Graph
graph_of (frames.Spawn from to home number function graph) = graph
graph_of (frames.Shift from to waiting home number function graph) = graph
graph_of (frames.Back from to waiting graph) = graph
graph_of (frames.Report from to number sent received) = no_graph

-- the counts of a report: how many activities were sent to each place
abbrev pub sent_of : Frame → List ℕ
sent_of (frames.Report from to number sent received) = sent
sent_of _ = []

-- and how many were received from each
abbrev pub received_of : Frame → List ℕ
received_of (frames.Report from to number sent received) = received
received_of _ = []

-- ---- reading them

unfoldable pub spawn_at : (places : ℕ) → Reader FrameFault What
spawn_at places = do
  home ← place_at places
  named ← number w32 Short
  function ← number w16 Short
  done (what.Spawn (finish home named) function)

unfoldable pub shift_at : (places : ℕ) → Reader FrameFault What
shift_at places = do
  waiting ← number w32 Short
  home ← place_at places
  named ← number w32 Short
  function ← number w16 Short
  done (what.Shift waiting (finish home named) function)

unfoldable pub back_at : Reader FrameFault What
back_at = do
  waiting ← number w32 Short
  done (what.Back waiting)

unfoldable pub report_at : (places : ℕ) → Reader FrameFault What
report_at places = do
  named ← number w32 Short
  expect (number w16 Short) places Place
  done (what.Report named)

unfoldable pub numbers_at : (places type : ℕ) → Reader FrameFault What
numbers_at places zero = given None FrameType
numbers_at places (suc zero) = spawn_at places
numbers_at places (suc (suc zero)) = shift_at places
numbers_at places (suc (suc (suc zero))) = back_at
numbers_at places (suc (suc (suc (suc zero)))) = report_at places
numbers_at places (suc (suc (suc (suc (suc type))))) = given None FrameType

-- what follows the version: the numbers before the graph or the counts
unfoldable pub head_at : ℕ → Reader FrameFault Head
head_at places = do
  type ← such_that (byte Short) (λ n. nat_le 1 n && nat_le n 4) FrameType
  from ← place_at places
  to ← place_at places
  numbers ← numbers_at places type
  done (head from to numbers)

-- what follows them
abbrev pub frame_with : (from to : ℕ) → What → Graph → Frame
frame_with from to (what.Spawn under function) graph =
    frames.Spawn from to under.home under.number function graph
frame_with from to (what.Shift waiting under function) graph =
    frames.Shift from to waiting under.home under.number function graph
frame_with from to (what.Back waiting) graph = frames.Back from to waiting graph
frame_with from to (what.Report number) graph = frames.Report from to number [] []

abbrev pub with_graph : Head → Graph → Frame
with_graph h graph = frame_with h.from h.to h.what graph

-- what is sent with a graph
abbrev pub BringsGraph : What → Type 0
BringsGraph (what.Report number) = ⊥
BringsGraph _ = Unit {0}

-- a head of a frame with a graph
abbrev pub IsGraphHead : Head → Type 0
IsGraphHead h = BringsGraph h.what

abbrev pub most_for : What → ℕ
most_for (what.Back waiting) = 1
most_for _ = 16

-- how many roots such a frame has at most
abbrev pub most_roots : Head → ℕ
most_roots h = most_for h.what

unfoldable pub counts_at : (places from to finish : ℕ) → Reader FrameFault Frame
counts_at places from to finish = do
  sent ← times places (number w32 Short)
  received ← times places (number w32 Short)
  done (frames.Report from to finish sent received)

abbrev pub graph_after : FrameVersion → ℕ → Head → Reader FrameFault Frame
graph_after v places h =
    graph_at v places (most_roots h) >>= (λ graph. done (with_graph h graph))

abbrev pub after_numbers : FrameVersion → (places from to : ℕ) → What → Reader FrameFault Frame
after_numbers v places from to (what.Report number) = counts_at places from to number
after_numbers v places from to w = graph_after v places (head from to w)

abbrev pub after_head : FrameVersion → ℕ → Head → Reader FrameFault Frame
after_head v places h = after_numbers v places h.from h.to h.what
