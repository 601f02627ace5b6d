-- The front of a frame: its first byte, and the lines before its graph.
use Rattle.std.proofs.Common.{◌≡◌, ℕ, ◌<◌, List, ◌++◌, Result, Ok, Err, length, slice_index_or, refl, sym, ap, ◌∙◌, append_assoc, arith, OnOk}
use Rattle.x10_model.specs.declared.version.FrameVersion.{FrameVersion}
use Rattle.x10_model.specs.Frames.{Frame, byte_of, spelling}
use Rattle.x10_model.specs.ReadingFrames as reading
use Rattle.x10_frame.specs.Faults.{named, IsFaultOrMemory}
use Rattle.x10_frame.specs.declared.fault.FrameFault.{FrameFault}
use Rattle.x10_frame.specs.declared.fault.FrameFault.TheVariants as fault

-- one text was written, and then another
pub both : {A : Type 0} {E : Type 0} (r : Result A E) (old mid new a b whole : List ℕ) → mid ≡ old ++ a → whole ≡ a ++ b
    → OnOk r (new ≡ mid ++ b) → OnOk r (new ≡ old ++ whole)
both (Ok x) old mid new a b whole e w h = h ∙ ap (λ (t : List ℕ). t ++ b) e ∙ append_assoc old a b ∙ ap (λ (t : List ℕ). old ++ t) (sym w)
both (Err x) old mid new a b whole e w h = h

first_there : (v : FrameVersion) (f : Frame) → slice_index_or (spelling v f) 0 0 ≡ byte_of v
unfolding spelling
first_there v f = refl

longer : (v : FrameVersion) (f : Frame) → 0 < length (spelling v f)
unfolding spelling
longer v f = omega arith

pub has_first : (v : FrameVersion) (f : Frame) (bytes : List ℕ) → bytes ≡ spelling v f → 0 < length bytes
has_first v f bytes e = rw e (longer v f)

pub first_is : (v : FrameVersion) (f : Frame) (bytes : List ℕ) → bytes ≡ spelling v f → slice_index_or bytes 0 0 ≡ byte_of v
first_is v f bytes e = rw e (first_there v f)

abbrev pub some_frame : Frame → Result Frame reading.FrameFault
some_frame f = Ok f

-- a frame is refused for lack of memory alone
pub only_memory : (f : Frame) (e : FrameFault) → IsFaultOrMemory (named e) (some_frame f) → e ≡ fault.Memory
only_memory f fault.Short h = absurd cc
only_memory f fault.Version h = absurd cc
only_memory f fault.FrameType h = absurd cc
only_memory f fault.Place h = absurd cc
only_memory f fault.Tag h = absurd cc
only_memory f fault.Text h = absurd cc
only_memory f fault.Order h = absurd cc
only_memory f fault.Trailing h = absurd cc
only_memory f fault.Memory h = refl
