-- The first line of an explanation: the rule, the function, the instruction's number, and the instruction as the listing
-- writes it.
use Rattle.std.specs.Prelude.{ℕ, List, ◌++◌, Option, Some, None, codes, decimal}
use Rattle.x10_asm.specs.Listing.{instruction_line}
use Rattle.x10_asm.specs.declared.fault.AsmCause.{AsmCause}
use Rattle.x10_asm.specs.declared.fault.AsmCause.TheVariants as asm
use Rattle.x10_asm.specs.declared.fault.AsmFault.{AsmFault}
use Rattle.x10_bounds.specs.declared.fault.BoundCause.TheVariants as bound
use Rattle.x10_code.specs.declared.instr.Instr.{Instr}
use Rattle.x10_image.specs.declared.fault.ImageFault.{ImageFault}
use Rattle.x10_image.specs.declared.fault.ImageFault.TheVariants as image
use Rattle.x10_model.specs.Modules.{Module}
use Rattle.x10_model.specs.Ranges.{instr_at}
use Rattle.x10_verify.specs.declared.fault.VerifyCause.{VerifyCause}
use Rattle.x10_verify.specs.declared.fault.VerifyCause.TheVariants as cause
use Rattle.x10_verify.specs.declared.fault.VerifyFault.{VerifyFault}

-- the rule that a fault names
abbrev pub word_of : VerifyCause → List ℕ
word_of (cause.Structure bound.Nesting) = codes "Nesting"
word_of (cause.Structure bound.Jump) = codes "Jump"
word_of (cause.Structure bound.LoopSlot) = codes "LoopSlot"
word_of (cause.Structure bound.CallOrder) = codes "CallOrder"
word_of (cause.Structure bound.Atomic) = codes "Atomic"
word_of (cause.Structure bound.TooLarge) = codes "TooLarge"
word_of (cause.Structure bound.Memory) = codes "Memory"
word_of cause.Index = codes "Index"
word_of cause.Unset = codes "Unset"
word_of cause.Kind = codes "Kind"
word_of cause.Home = codes "Home"
word_of cause.Result = codes "Result"
word_of cause.Memory = codes "Memory"

-- an instruction's line, where it is there
abbrev pub line_if : Option Instr → List ℕ
line_if None = codes "isn't there\n"
line_if (Some i) = instruction_line i

-- where a fault is
abbrev pub position_of : VerifyFault → List ℕ
position_of fault = word_of fault.cause ++ (codes ", function "
    ++ (decimal fault.function ++ (codes ", instruction " ++ (decimal fault.pc ++ codes ": "))))

abbrev pub head_line : Module → VerifyFault → List ℕ
head_line m fault = position_of fault ++ line_if (instr_at m fault.function fault.pc)

-- ---- of a text

abbrev pub asm_word : AsmCause → List ℕ
asm_word asm.Word = codes "Word"
asm_word asm.Number = codes "Number"
asm_word asm.Count = codes "Count"
asm_word asm.Order = codes "Order"
asm_word asm.Label = codes "Label"
asm_word asm.Text = codes "Text"
asm_word asm.Limit = codes "Limit"
asm_word asm.Entry = codes "Entry"
asm_word asm.Memory = codes "Memory"

-- the cause, and the number of the line
abbrev pub asm_head : AsmFault → List ℕ
asm_head fault = asm_word fault.cause ++ (codes ", line " ++ (decimal fault.line ++ codes ": "))

-- where a fault is in a text, in the form that editors jump to
abbrev pub placed : List ℕ → ℕ → ℕ → List ℕ
placed name line column = name ++ (codes ":"
    ++ (decimal line ++ (codes ":" ++ (decimal column ++ codes ": "))))

-- the same, and the cause
abbrev pub placed_asm_head : List ℕ → ℕ → AsmFault → List ℕ
placed_asm_head name column fault = name
    ++ (codes ":" ++ (decimal fault.line ++ (codes ":"
    ++ (decimal column ++ (codes ": " ++ (asm_word fault.cause ++ codes ": "))))))

-- ---- of an image

abbrev pub image_word : ImageFault → List ℕ
image_word image.Short = codes "Short"
image_word image.Magic = codes "Magic"
image_word image.Version = codes "Version"
image_word image.Count = codes "Count"
image_word image.Kind = codes "Kind"
image_word image.Text = codes "Text"
image_word image.Trailing = codes "Trailing"
image_word image.Reserved = codes "Reserved"
image_word image.Entry = codes "Entry"
image_word (image.Code f pc) = codes "Code"
image_word image.Memory = codes "Memory"

-- the fault, and how many bytes there are
abbrev pub image_head : ImageFault → ℕ → List ℕ
image_head fault len = image_word fault ++ (codes ", in " ++ (decimal len ++ codes " bytes\n"))
