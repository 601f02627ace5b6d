-- What a function of the program answers, beside what reading the bytes gives.
use Rattle.std.specs.Prelude.{ℕ, List, Option, Some, None, Result}
use Rattle.x10_model.specs.ReadingFrames.{Short, Version, FrameType, Place, Tag, Text, Order, Trailing}
use Rattle.x10_model.specs.ReadingFrames as reading
pub use Rattle.x10_bytes.specs.Faults.{IsFault, IsFaultOrMemory}
use Rattle.x10_bytes.specs.Faults as faults
use Rattle.x10_frame.specs.declared.fault.FrameFault.{FrameFault}
use Rattle.x10_frame.specs.declared.fault.FrameFault.TheVariants as fault

-- the fault of the bytes that a fault names
abbrev pub named : FrameFault → Option reading.FrameFault
named fault.Short = Some Short
named fault.Version = Some Version
named fault.FrameType = Some FrameType
named fault.Place = Some Place
named fault.Tag = Some Tag
named fault.Text = Some Text
named fault.Order = Some Order
named fault.Trailing = Some Trailing
named fault.Memory = None

-- what was answered, seen by view, is what reading gives
abbrev pub Answers : {X Y : Type 0} → (X → Y) → Result X FrameFault → Result Y reading.FrameFault
    → Type 0
Answers view result read = faults.Answers named view result read

-- the same, unless memory ran out
abbrev pub Gives : {X Y : Type 0} → (X → Y) → Result X FrameFault → Result Y reading.FrameFault
    → Type 0
Gives view result read = faults.Gives named view result read

-- what was answered is the bytes after what reading gives
abbrev pub ParsesFrame : {X Y : Type 0} → (X → List ℕ) → Result X FrameFault
    → Result (Y × List ℕ) reading.FrameFault → Type 0
ParsesFrame rest result read = faults.Parses named rest result read
