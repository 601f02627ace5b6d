-- A view of a frame: its bytes and their version, the number of places, and where its parts begin.
use Rattle.std.specs.Prelude.{◌≡◌, ℕ, ◌^◌, ◌<◌, List, [], Result, Ok, Err}
use Rattle.x10_model.specs.declared.version.FrameVersion.{FrameVersion}
use Rattle.x10_model.specs.Frames.{Frame, Report, FitsFrame, spelling}
use Rattle.x10_model.specs.ReadingFrames.{FrameFault, frame_at}
use Rattle.x10_frame.specs.declared.head.Head.{Head}
use Rattle.x10_frame.specs.Heads.{head_of}
use Rattle.x10_frame.specs.Bodies.{HasBody}

abbrev pub read_or_empty : Result Frame FrameFault → Frame
read_or_empty (Ok f) = f
read_or_empty (Err fault) = Report 0 0 0 [] []

-- the frame that the bytes decode to where there are so many places
unfoldable pub frame_in : ℕ → List ℕ → Frame
frame_in places bytes = read_or_empty (frame_at places bytes)

-- the bytes are a frame, and the tables say where its parts begin
pub record IsView (v : FrameVersion) (bytes : List ℕ) (places : ℕ) (head : Head) (start count : ℕ)
    (texts rails nodes : List ℕ) : Type 0 where
  pub few : places < 2 ^ 16
  pub fits : FitsFrame v places (frame_in places bytes)
  pub spelled : bytes ≡ spelling v (frame_in places bytes)
  pub head_is : head_of (frame_in places bytes) ≡ head
  pub has : HasBody v bytes start count texts rails nodes (frame_in places bytes)
