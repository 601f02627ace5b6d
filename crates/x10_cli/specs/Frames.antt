-- What the program's answers say of a frame.
use Rattle.std.specs.Prelude.{ℕ, List, [], ◌∷◌, Option, Some, None}
use Rattle.std.specs.Result.{result_ok}
use Rattle.hex.specs.Hex.{decode_of}
use Rattle.x10_model.specs.Frames.{Frame, IsSpelled}
use Rattle.x10_model.specs.ReadingFrames.{frame_at}
use Rattle.x10_frame.specs.Faults.{named, IsFault}
use Rattle.x10_frame.specs.declared.fault.FrameFault.{FrameFault}
use Rattle.x10_frame_lines.specs.Lines.{IsTold}

-- the bytes are a frame where there are as many places as are told
abbrev pub IsFrame : Option ℕ → List ℕ → Type 0
IsFrame None bytes = ⊥
IsFrame (Some places) bytes = (f : Frame) × IsSpelled places f bytes

-- the text is that of the frame
abbrev pub TellsFrame : Option ℕ → List ℕ → List ℕ → Type 0
TellsFrame None bytes text = ⊥
TellsFrame (Some places) bytes text = IsTold places bytes text

-- the bytes are none, for this fault
abbrev pub IsFrameFault : Option ℕ → List ℕ → FrameFault → Type 0
IsFrameFault None bytes f = ⊥
IsFrameFault (Some places) bytes f = IsFault (named f) (frame_at places bytes)

-- the bytes that a word of hexadecimal digits spells: at least two, and nothing else
abbrev pub digits_of : List ℕ → Option (List ℕ)
digits_of [] = None
digits_of (c ∷ word) = result_ok (decode_of (c ∷ word))
