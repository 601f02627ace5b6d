-- What a function of the program answers, beside what reading the bytes gives.
use Rattle.std.specs.Prelude.{ℕ, List, Option, Some, None, Result}
use Rattle.x10_model.specs.ReadingImages.{Short, Magic, Version, Count, Kind, Text, Trailing, Reserved, Entry, Code}
use Rattle.x10_model.specs.ReadingImages as reading
pub use Rattle.x10_bytes.specs.Faults.{IsFault, IsFaultOrMemory}
use Rattle.x10_bytes.specs.Faults as faults
use Rattle.x10_image.specs.declared.fault.ImageFault.{ImageFault}
use Rattle.x10_image.specs.declared.fault.ImageFault.TheVariants as fault

-- the fault of the bytes that a fault names
abbrev pub named : ImageFault → Option reading.ImageFault
named fault.Short = Some Short
named fault.Magic = Some Magic
named fault.Version = Some Version
named fault.Count = Some Count
named fault.Kind = Some Kind
named fault.Text = Some Text
named fault.Trailing = Some Trailing
named fault.Reserved = Some Reserved
named fault.Entry = Some Entry
named (fault.Code function pc) = Some (Code function pc)
named fault.Memory = None

-- what was answered, seen by view, is what reading gives
abbrev pub Answers : {X Y : Type 0} → (X → Y) → Result X ImageFault → Result Y reading.ImageFault
    → Type 0
Answers view result read = faults.Answers named view result read

-- the same, unless memory ran out
abbrev pub Gives : {X Y : Type 0} → (X → Y) → Result X ImageFault → Result Y reading.ImageFault
    → Type 0
Gives view result read = faults.Gives named view result read

-- what was answered is the bytes after what reading gives
abbrev pub ParsesImage : {X Y : Type 0} → (X → List ℕ) → Result X ImageFault
    → Result (Y × List ℕ) reading.ImageFault → Type 0
ParsesImage rest result read = faults.Parses named rest result read

-- the same two, where what is answered in place of a value has its fault
abbrev pub AnswersBy : {F X Y : Type 0} → (F → ImageFault) → (X → Y) → Result X F
    → Result Y reading.ImageFault → Type 0
AnswersBy fault view result read = faults.Answers (λ f. named (fault f)) view result read

abbrev pub PassesBy : {F X Y : Type 0} → (F → ImageFault) → (X → List ℕ) → Result X F
    → Result (Y × List ℕ) reading.ImageFault → Type 0
PassesBy fault rest result read = faults.Parses (λ f. named (fault f)) rest result read
