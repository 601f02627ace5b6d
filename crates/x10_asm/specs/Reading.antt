-- Which module a text spells, or its fault: on the least line that has one, the least cause.
use Rattle.std.specs.Prelude.{ℕ, suc, ℤ, Bool, true, false, not, ◌==◌, ◌&&◌, nat_lt, nat_le, List, [], ◌∷◌, ◌++◌, length, Option, Some, None}
use Rattle.std.specs.Prelude.{Result, Ok, Err, if◌then◌else◌, slice_get}
use Rattle.x10_model.specs.declared.limits.TheConstants.{MOST_ENTRIES, MOST_FIELDS, MOST_FUNCTIONS, MOST_PLACES}
use Rattle.x10_kinds.specs.declared.kind.Kind.{Kind}
use Rattle.x10_code.specs.declared.instr.Instr.{Instr}
use Rattle.x10_code.specs.declared.op.Op.{Op}
use Rattle.x10_model.specs.declared.slot.Slot.{Slot}
use Rattle.x10_model.specs.declared.version.ImageVersion.{ImageVersion}
use Rattle.x10_model.specs.declared.version.ImageVersion.TheVariants.{One, Two}
use Rattle.x10_model.specs.Modules.{Function, Module, is_known}
use Rattle.x10_model.specs.ReadingImages.{is_within, is_entry}
use Rattle.x10_asm.specs.declared.fault.AsmCause.{AsmCause}
use Rattle.x10_asm.specs.declared.fault.AsmCause.TheVariants as cause
use Rattle.x10_asm.specs.declared.fault.AsmFault.{AsmFault}
use Rattle.x10_asm.specs.declared.stage.Stage.{Stage}
use Rattle.x10_asm.specs.declared.stage.Stage.TheVariants as stage
use Rattle.x10_asm.specs.declared.statement.Statement.{Statement}
use Rattle.x10_asm.specs.declared.statement.Statement.TheVariants as statement
use Rattle.x10_asm.specs.Lines.{lines, words, after_word, int_of}
use Rattle.x10_asm.specs.Checks.{◌>>=◌, ◌>>◌, check, given, number_at, one_number, no_more}
use Rattle.x10_asm.specs.Kinds.{slot_of, field_of, result_of, is_unknown, each, are_known}
use Rattle.x10_asm.specs.Literals.{literal}
use Rattle.x10_asm.specs.Labels.{Label, label_name, label_of}
use Rattle.x10_asm.specs.LabelLines.{labels_from}
use Rattle.x10_asm.specs.Operands.{instruction_of}
use Rattle.x10_asm.specs.Statements.{statement_in, first_word, other_words}
pub use Rattle.x10_image.specs.Written.{signature_fits}

-- ---- the order of lines

abbrev pub is_start : Stage → Bool
is_start stage.Start = true
is_start _ = false

abbrev pub takes_class : Stage → Bool
takes_class stage.Classes = true
takes_class _ = false

abbrev pub takes_int : Stage → Bool
takes_int stage.Classes = true
takes_int stage.Ints = true
takes_int _ = false

abbrev pub takes_text : Stage → Bool
takes_text stage.Classes = true
takes_text stage.Ints = true
takes_text stage.Texts = true
takes_text _ = false

-- after the first line and outside functions
abbrev pub takes_func : Stage → Bool
takes_func stage.Classes = true
takes_func stage.Ints = true
takes_func stage.Texts = true
takes_func stage.Functions = true
takes_func _ = false

abbrev pub is_inside : Stage → Bool
is_inside stage.Inside = true
is_inside _ = false

abbrev pub is_finished : Stage → Bool
is_finished stage.Finished = true
is_finished _ = false

-- ---- lines, each by the words after its first

abbrev pub is_one : ImageVersion → Bool
is_one One = true
is_one Two = false

-- the number 2 and nothing else
abbrev pub one_version : List (List ℕ) → Result (Unit {0}) AsmCause
one_version ws = do
  p ← number_at 2 ws
  check (p.0 == 2) cause.Number
  no_more p.1

-- before all other lines, in a text that has had none such
unfoldable pub version_of : Stage → ImageVersion → List (List ℕ) → Result (Unit {0}) AsmCause
version_of s before ws = do
  one_version ws
  check (is_start s && is_one before) cause.Order

unfoldable pub places_of : Stage → List (List ℕ) → Result ℕ AsmCause
places_of s ws = do
  n ← one_number 65535 ws
  check (is_start s) cause.Order
  check (is_within 1 MOST_PLACES n) cause.Limit
  Ok n

-- in a text with so many classes, after so many of them
unfoldable pub class_of : Stage → ℕ → ℕ → List (List ℕ) → Result (List Kind) AsmCause
class_of s classes before ws = do
  check (are_known (field_of classes) ws) cause.Word
  fields ← each (field_of classes) ws
  check (takes_class s) cause.Order
  check (nat_le (length fields) MOST_FIELDS && nat_lt before MOST_ENTRIES) cause.Limit
  Ok fields

abbrev pub one_int : List (List ℕ) → Result ℤ AsmCause
one_int [] = Err cause.Count
one_int (word ∷ others) = do
  z ← given (int_of word) cause.Number
  no_more others
  Ok z

unfoldable pub int_line_of : Stage → ℕ → List (List ℕ) → Result ℤ AsmCause
int_line_of s before ws = do
  z ← one_int ws
  check (takes_int s) cause.Order
  check (nat_lt before MOST_ENTRIES) cause.Limit
  Ok z

abbrev pub is_count : {A : Type 0} → Result A AsmCause → Bool
is_count (Err cause.Count) = true
is_count _ = false

-- by what follows the first word
unfoldable pub text_of : Stage → ℕ → List ℕ → Result (List ℕ) AsmCause
text_of s before rest = do
  check (not (is_count (literal rest))) cause.Count
  check (takes_text s) cause.Order
  text ← literal rest
  check (nat_lt before MOST_ENTRIES) cause.Limit
  Ok text

-- a function without instructions
abbrev pub function_with : ℕ → ℕ → Option Slot → List Slot → Function
function_with registers loops result parameters =
    record {
      parameters = parameters;
      registers = registers;
      loops = loops;
      result = result;
      code = [];
    }

abbrev pub kinds_after : ℕ → ℕ → ℕ → List (List ℕ) → Result Function AsmCause
kinds_after classes registers loops [] = Err cause.Count
kinds_after classes registers loops (word ∷ others) = do
  result ← result_of classes word
  parameters ← each (slot_of classes) others
  Ok (function_with registers loops result parameters)

abbrev pub signature_of : ℕ → List (List ℕ) → Result Function AsmCause
signature_of classes ws = do
  registers ← number_at 255 ws
  loops ← number_at 255 registers.1
  kinds_after classes registers.0 loops.0 loops.1

-- the kinds stand after two numbers
abbrev pub kinds_are_known : ℕ → List (List ℕ) → Bool
kinds_are_known classes (registers ∷ loops ∷ result ∷ parameters) =
    not (is_unknown (result_of classes result)) && are_known (slot_of classes) parameters
kinds_are_known classes _ = true

unfoldable pub func_of : Stage → ℕ → ℕ → List (List ℕ) → Result Function AsmCause
func_of s classes before ws = do
  check (kinds_are_known classes ws) cause.Word
  f ← signature_of classes ws
  check (takes_func s) cause.Order
  check (signature_fits f && nat_lt before MOST_FUNCTIONS) cause.Limit
  Ok f

unfoldable pub end_of : Stage → ℕ → List (List ℕ) → Result (Unit {0}) AsmCause
end_of s count ws = do
  no_more ws
  check (is_inside s) cause.Order
  check (nat_lt 0 count) cause.Limit

unfoldable pub entry_of : Stage → List Function → List (List ℕ) → Result ℕ AsmCause
entry_of s functions ws = do
  n ← one_number 65535 ws
  check (takes_func s) cause.Order
  check (nat_lt 0 (length functions)) cause.Limit
  check (is_entry (slice_get functions n)) cause.Entry
  Ok n

-- the label is defined by this line, and by none before
abbrev pub is_defined_at : ℕ → Option Label → Bool
is_defined_at line (Some l) = l.line == line
is_defined_at line None = false

unfoldable pub label_at : Stage → List Label → ℕ → List ℕ → List (List ℕ)
    → Result (Unit {0}) AsmCause
label_at s labels line word ws = do
  no_more ws
  check (is_inside s) cause.Order
  check (is_defined_at line (label_of labels (label_name word))) cause.Label

-- ---- the text

-- what was read before a line: the module so far, the function that is not ended, and its labels
pub record Source : Type 0 where
  pub stage : Stage
  pub so_far : Module
  pub function : Function
  pub labels : List Label

abbrev pub no_function : Function
no_function = function_with 0 0 None []

abbrev pub with_version : Source → Result (Unit {0}) AsmCause → Result Source AsmCause
with_version s (Ok u) = Ok (record s { so_far = record s.so_far { version = Two } })
with_version s (Err fault) = Err fault

abbrev pub with_places : Source → Result ℕ AsmCause → Result Source AsmCause
with_places s (Ok n) = Ok (record s {
  stage = stage.Classes;
  so_far = record s.so_far { least_places = n };
})
with_places s (Err fault) = Err fault

abbrev pub with_class : Source → Result (List Kind) AsmCause → Result Source AsmCause
with_class s (Ok fields) = Ok (record s {
  so_far = record s.so_far
      { classes = s.so_far.classes ++ fields ∷ [] };
})
with_class s (Err fault) = Err fault

abbrev pub with_int : Source → Result ℤ AsmCause → Result Source AsmCause
with_int s (Ok z) = Ok (record s {
  stage = stage.Ints;
  so_far = record s.so_far { ints = s.so_far.ints ++ z ∷ [] };
})
with_int s (Err fault) = Err fault

abbrev pub with_text : Source → Result (List ℕ) AsmCause → Result Source AsmCause
with_text s (Ok text) = Ok (record s {
  stage = stage.Texts;
  so_far = record s.so_far { texts = s.so_far.texts ++ text ∷ [] };
})
with_text s (Err fault) = Err fault

abbrev pub with_func : Source → List Label → Result Function AsmCause → Result Source AsmCause
with_func s labels (Ok f) = Ok (record s { stage = stage.Inside; function = f; labels = labels })
with_func s labels (Err fault) = Err fault

abbrev pub with_instruction : Source → Result Instr AsmCause → Result Source AsmCause
with_instruction s (Ok i) = Ok (record s
    { function = record s.function { code = s.function.code ++ i ∷ [] } })
with_instruction s (Err fault) = Err fault

abbrev pub with_end : Source → Result (Unit {0}) AsmCause → Result Source AsmCause
with_end s (Ok u) = Ok
    (record s {
      stage = stage.Functions;
      so_far = record s.so_far
          { functions = s.so_far.functions ++ s.function ∷ [] };
      function = no_function;
      labels = [];
    })
with_end s (Err fault) = Err fault

abbrev pub with_entry : Source → Result ℕ AsmCause → Result Source AsmCause
with_entry s (Ok n) = Ok (record s {
  stage = stage.Finished;
  so_far = record s.so_far { entry = n };
})
with_entry s (Err fault) = Err fault

abbrev pub with_nothing : Source → Result (Unit {0}) AsmCause → Result Source AsmCause
with_nothing s (Ok u) = Ok s
with_nothing s (Err fault) = Err fault

-- an instruction, whose operation has to be one that an image of the version may have
abbrev pub instruction_line_of : Source → Op → List (List ℕ) → Result Source AsmCause
instruction_line_of s op ws =
    if is_known s.so_far.version op then with_instruction s
    (instruction_of s.labels (is_inside s.stage) (length s.function.code) op ws) else Err
    cause.Word

-- what is read after a line, given the number of classes, the line's number, its bytes and words, and the lines after it
abbrev pub after_statement : ℕ → Source → ℕ → List ℕ → List (List ℕ) → List (List ℕ) → Statement
    → Result Source AsmCause
after_statement classes s line text ws others statement.Silent = Ok s
after_statement classes s line text ws others statement.Version =
    with_version s (version_of s.stage s.so_far.version (other_words ws))
after_statement classes s line text ws others statement.Places =
    with_places s (places_of s.stage (other_words ws))
after_statement classes s line text ws others statement.Class =
    with_class s (class_of s.stage classes (length s.so_far.classes) (other_words ws))
after_statement classes s line text ws others statement.Int =
    with_int s (int_line_of s.stage (length s.so_far.ints) (other_words ws))
after_statement classes s line text ws others statement.Text =
    with_text s (text_of s.stage (length s.so_far.texts) (after_word text))
after_statement classes s line text ws others statement.Func =
    with_func s (labels_from (suc line) 0 others)
    (func_of s.stage classes (length s.so_far.functions) (other_words ws))
after_statement classes s line text ws others statement.End =
    with_end s (end_of s.stage (length s.function.code) (other_words ws))
after_statement classes s line text ws others statement.Entry =
    with_entry s (entry_of s.stage s.so_far.functions (other_words ws))
after_statement classes s line text ws others statement.Label =
    with_nothing s (label_at s.stage s.labels line (first_word ws) (other_words ws))
after_statement classes s line text ws others (statement.Instruction op) =
    instruction_line_of s op (other_words ws)
after_statement classes s line text ws others statement.Unknown = Err cause.Word

unfoldable pub after_line : ℕ → Source → ℕ → List ℕ → List (List ℕ) → Result Source AsmCause
after_line classes s line text others = after_statement classes s line text (words text) others
    (statement_in (words text))

abbrev pub fault_at : ℕ → AsmCause → AsmFault
fault_at line fault = record { line = line; cause = fault }

-- the entry's line is the last that says something
abbrev pub ended : Source → ℕ → Result Module AsmFault
ended s line = if is_finished s.stage then Ok s.so_far else Err (fault_at line cause.Order)

abbrev pub go_on : Result Source AsmCause → ℕ → (Source → Result Module AsmFault)
    → Result Module AsmFault
go_on (Ok s) line next = next s
go_on (Err fault) line next = Err (fault_at line fault)

-- the rest of a text from a line on
unfoldable pub read_from : ℕ → Source → ℕ → List (List ℕ) → Result Module AsmFault
read_from classes s line [] = ended s line
read_from classes s line (text ∷ others) =
    go_on (after_line classes s line text others) line (λ t. read_from classes t (suc line) others)

abbrev pub is_class : Statement → Bool
is_class statement.Class = true
is_class _ = false

-- how many of the lines are classes
unfoldable pub classes_in : List (List ℕ) → ℕ
classes_in [] = 0
classes_in (text ∷ others) = if is_class (statement_in (words text)) then suc
    (classes_in others) else classes_in others

-- the version of a text that has it after a line
abbrev pub version_by : Statement → ImageVersion → ImageVersion
version_by statement.Silent after = after
version_by statement.Version after = Two
version_by _ after = One

-- the version of a text with these lines: by the first of them that says something
unfoldable pub version_in : List (List ℕ) → ImageVersion
version_in [] = One
version_in (text ∷ others) = version_by (statement_in (words text)) (version_in others)

abbrev pub nothing_read : Source
nothing_read = record {
  stage = stage.Start;
  so_far = record {
    version = One;
    least_places = 0;
    classes = [];
    ints = [];
    texts = [];
    functions = [];
    entry = 0;
  };
  function = no_function;
  labels = [];
}

-- the module that a text spells, or its fault
unfoldable pub module_of : List ℕ → Result Module AsmFault
module_of text = read_from (classes_in (lines text)) nothing_read 1 (lines text)
