-- The line that a fault is told by.
use Rattle.std.specs.Prelude.{◌≡◌, Bool, false, ℕ, List, [], ◌∷◌, ◌++◌, Option, codes, decimal}
use Rattle.std.specs.Io.KnownBytes.{Appends}
use Rattle.x10_kinds.specs.Limits.{number_of}
use Rattle.x10_explain.specs.Heads.{asm_word, image_word, word_of}
use Rattle.x10_image.specs.declared.fault.ImageFault.{ImageFault}
use Rattle.x10_image.specs.declared.fault.ImageFault.TheVariants as image
use Rattle.x10_verify.specs.declared.fault.VerifyCause.{VerifyCause}
use Rattle.x10_verify.specs.declared.fault.VerifyCause.TheVariants as verify
use Rattle.x10_frame.specs.declared.fault.FrameFault.{FrameFault}
use Rattle.x10_frame.specs.declared.fault.FrameFault.TheVariants as frame
use Rattle.x10_log.specs.declared.fault.LogCause.{LogCause}
use Rattle.x10_log.specs.declared.fault.LogCause.TheVariants as log
use Rattle.x10_cli.specs.declared.fault.Fault.{Fault}
use Rattle.x10_cli.specs.declared.fault.Fault.TheVariants as fault
use Rattle.x10_cli.specs.Answers.{IsDue, status_of}

-- two numbers with a space before each
abbrev pub at : ℕ → ℕ → List ℕ
at f pc = codes " " ++ (decimal f ++ (codes " " ++ decimal pc))

abbrev pub image_text : ImageFault → List ℕ
image_text (image.Code f pc) = codes "Code" ++ at f pc
image_text f = image_word f

-- a rule of structure has this word in front
abbrev pub rule_text : VerifyCause → List ℕ
rule_text (verify.Structure c) = codes "Structure " ++ word_of (verify.Structure c)
rule_text c = word_of c

-- the name of a cause for which a log is refused
abbrev pub log_word : LogCause → List ℕ
log_word log.Head = codes "Head"
log_word log.Place = codes "Place"
log_word log.Taken = codes "Taken"
log_word log.Key = codes "Key"
log_word log.Frame = codes "Frame"
log_word log.Printed = codes "Printed"
log_word log.Count = codes "Count"
log_word log.Spelling = codes "Spelling"
log_word log.Ending = codes "Ending"
log_word log.Memory = codes "Memory"

-- the name of a fault for which bytes aren't a frame
abbrev pub frame_word : FrameFault → List ℕ
frame_word frame.Short = codes "Short"
frame_word frame.Version = codes "Version"
frame_word frame.FrameType = codes "FrameType"
frame_word frame.Place = codes "Place"
frame_word frame.Tag = codes "Tag"
frame_word frame.Text = codes "Text"
frame_word frame.Order = codes "Order"
frame_word frame.Trailing = codes "Trailing"
frame_word frame.Memory = codes "Memory"

-- what is told of a fault
abbrev pub fault_text : Fault → List ℕ
fault_text (fault.Asm f) = codes "asm: line " ++ (decimal f.line ++ (codes " " ++ asm_word f.cause))
fault_text (fault.Image f) = codes "image: " ++ image_text f
fault_text (fault.Verify f) = codes "verify: " ++ (rule_text f.cause ++ at f.function f.pc)
fault_text (fault.Bounds f) = codes "verify: Structure "
    ++ (word_of (verify.Structure f.cause) ++ at f.function f.pc)
fault_text (fault.Log f) = codes "log: line " ++ (decimal f.line ++ (codes " " ++ log_word f.cause))
fault_text fault.LogImage = codes "log: line 2 Image"
fault_text (fault.LogDiffers turn) = codes "differs: turn " ++ decimal turn
fault_text fault.LogOpen = codes "open"
fault_text fault.Places = codes "places"
fault_text (fault.Frame f) = codes "frame: " ++ frame_word f
fault_text fault.Memory = codes "memory"
fault_text fault.StopMemory = codes "stop: Memory"
fault_text (fault.StopLimit limit) = codes "stop: Limit " ++ decimal (number_of limit)
fault_text fault.Limit = codes "limit"
fault_text fault.Turns = codes "turns"
fault_text (fault.Refused place) = codes "refused: place " ++ decimal place
fault_text (fault.Differs turn) = codes "differs: turn " ++ decimal turn
fault_text fault.Thread = codes "thread"
fault_text fault.File = codes "file"

-- its line
abbrev pub fault_line : Fault → List ℕ
fault_line f = codes "x10p: " ++ (fault_text f ++ 10 ∷ [])

-- the fault's line was appended, and what explains it only where that is asked for
abbrev pub SaysFault : Bool → Fault → Option (List ℕ) → Option (List ℕ) → Type 0
SaysFault explain f old new = (rest : List ℕ) × (explain ≡ false → rest ≡ [])
    × Appends old new (fault_line f ++ rest)

-- the line of a fault with this status that is due, and perhaps what explains it
abbrev pub Tells : Bool → Option ℕ → List ℕ → ℕ → Option (List ℕ) → Option (List ℕ) → Type 0
Tells explain asked bytes status old new = (f : Fault) × (status ≡ status_of f)
    × IsDue asked bytes f × SaysFault explain f old new
