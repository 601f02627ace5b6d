-- What the program keeps of a text, as what the definition keeps.
use Rattle.std.specs.Prelude.{◌≡◌, ℕ, List, Result, Ok, Err, ◌≢◌}
use Rattle.x10_asm.specs.declared.fault.AsmCause.{AsmCause}
use Rattle.x10_asm.specs.declared.fault.AsmCause.TheVariants.{Memory}
use Rattle.x10_asm.specs.declared.fault.AsmFault.{AsmFault}
use Rattle.x10_asm.specs.declared.source.Source.{Source}
use Rattle.x10_image.specs.Written.{shown, function_shown}
use Rattle.x10_model.specs.Modules.{Module, FitsImage}
use Rattle.x10_model.specs.Images.{spelling}
use Rattle.x10_asm.specs.Tables.{IsTable}
use Rattle.x10_asm.specs.Reading as reading

pub record StandsFor (kept : Source) (s : reading.Source) : Type 0 where
  pub stage_is : kept.stage ≡ s.stage
  pub module_is : shown kept.so_far ≡ s.so_far
  pub function_is : function_shown kept.function ≡ s.function
  pub table_is : IsTable kept.labels s.labels

-- a line was taken in as the definition says, or it is the line's fault, unless memory ran out
abbrev pub Takes : {X : Type 0} → Source → Result X AsmCause → Result reading.Source AsmCause
    → Type 0
Takes new (Ok u) read = (s : reading.Source) × (read ≡ Ok s) × StandsFor new s
Takes new (Err cause) read = cause ≢ Memory → read ≡ Err cause

-- the fault of a text, unless memory ran out
abbrev pub IsFaultOrMemory : {Y : Type 0} → AsmFault → Result Y AsmFault → Type 0
IsFaultOrMemory fault read = fault.cause ≢ Memory → read ≡ Err fault

-- what was answered, seen by view, is what reading gives, unless memory ran out
abbrev pub GivesAll : {X Y : Type 0} → (X → Y) → Result X AsmFault → Result Y AsmFault → Type 0
GivesAll view (Ok x) read = read ≡ Ok (view x)
GivesAll view (Err fault) read = IsFaultOrMemory fault read

-- the image of the module that a text spells, or its fault, unless memory ran out
abbrev pub GivesImage : {X : Type 0} → (X → List ℕ) → Result X AsmFault → Result Module AsmFault
    → Type 0
GivesImage bytes (Ok x) read = (m : Module) × (read ≡ Ok m) × (bytes x ≡ spelling m)
GivesImage bytes (Err fault) read = IsFaultOrMemory fault read

-- the bytes are the image of the module that was read
abbrev pub IsImageOf : List ℕ → Result Module AsmFault → Type 0
IsImageOf bytes read = (m : Module) × FitsImage m × (read ≡ Ok m) × (bytes ≡ spelling m)

-- the answer, seen by view, is the module's image, unless memory ran out
abbrev pub IsSpelledUnlessMemory : {X : Type 0} → (X → List ℕ) → Result X AsmFault → Module → Type 0
IsSpelledUnlessMemory bytes (Ok x) m = bytes x ≡ spelling m
IsSpelledUnlessMemory bytes (Err fault) m = fault.cause ≡ Memory
