-- Reading an image from front to back, with the first fault that is met. A part that isn't there whole is short; then come its fields in order.
use Rattle.std.specs.Prelude.{ℕ, zero, suc, ◌+◌, ◌*◌, Bool, true, false, ◌&&◌, ◌==◌, nat_lt, nat_le, is_none, List, length, Option, Some, None}
use Rattle.std.specs.Prelude.{Result, Ok, Err, if◌then◌else◌, slice_get}
use Rattle.std.specs.Int.{w16, w32}
use Rattle.std.specs.Str.{is_utf8}
use Rattle.x10_model.specs.declared.limits.TheConstants.{MOST_FIELDS, MOST_FUNCTIONS, MOST_INSTRUCTIONS, MOST_LOOPS, MOST_PARAMETERS, MOST_PLACES}
use Rattle.x10_model.specs.declared.limits.TheConstants.{MOST_REGISTERS}
use Rattle.x10_kinds.specs.declared.kind.Kind.{Kind as ValueKind}
use Rattle.x10_kinds.specs.declared.kind.Kind.TheVariants as kind
use Rattle.x10_code.specs.declared.instr.Instr.{Instr}
use Rattle.x10_code.specs.declared.instr.CodeFault.{CodeFault}
use Rattle.x10_code.specs.Spelling.{decoded}
use Rattle.x10_model.specs.Modules.{Function, Module, takes_flag, is_known}
use Rattle.x10_model.specs.declared.slot.Slot.{Slot}
use Rattle.x10_model.specs.declared.version.ImageVersion.{ImageVersion}
use Rattle.x10_model.specs.declared.version.ImageVersion.TheVariants.{One, Two}
use Rattle.x10_model.specs.Images.{magic, Header}
use Rattle.x10_model.specs.Readers.{Reader, ◌>>=◌, ◌>>◌, done, check, such_that, expect, given, need, part, byte, number, int, times, numbered, all_of}

pub data ImageFault : Type 0 where
  -- a part isn't there whole
  Short : ImageFault
  Magic : ImageFault
  Version : ImageFault
  -- a number outside its range
  Count : ImageFault
  -- an unknown kind, a class that isn't there or has to be 0, or a flag that the kind doesn't take
  Kind : ImageFault
  -- a text that isn't UTF-8
  Text : ImageFault
  -- bytes after the last function
  Trailing : ImageFault
  -- a 0 that isn't
  Reserved : ImageFault
  -- no function has the entry's number, or it takes or gives something
  Entry : ImageFault
  -- no instruction, by its function and its number there
  Code : ℕ → ℕ → ImageFault

abbrev pub is_within : ℕ → ℕ → ℕ → Bool
is_within least most n = nat_le least n && nat_le n most

-- ---- kinds

abbrev pub without_class : ValueKind → ℕ → Option ValueKind
without_class k class = if class == 0 then Some k else None

abbrev pub with_class : (ℕ → ValueKind) → ℕ → ℕ → Option ValueKind
with_class make classes class = if nat_lt class classes then Some (make class) else None

-- the kind with a tag and a class
abbrev pub kind_of : ℕ → ℕ → ℕ → Option ValueKind
kind_of classes zero class = None
kind_of classes (suc zero) class = without_class kind.Int class
kind_of classes (suc (suc zero)) class = without_class kind.Place class
kind_of classes (suc (suc (suc zero))) class = without_class kind.Text class
kind_of classes (suc (suc (suc (suc zero)))) class = without_class kind.Rail class
kind_of classes (suc (suc (suc (suc (suc zero))))) class = with_class kind.Obj classes class
kind_of classes (suc (suc (suc (suc (suc (suc zero)))))) class = with_class kind.Opt classes class
kind_of classes (suc (suc (suc (suc (suc (suc (suc zero))))))) class =
    with_class kind.GRef classes class
kind_of classes (suc (suc (suc (suc (suc (suc (suc (suc tag)))))))) class = None

abbrev pub flagged : Option ValueKind → ℕ → Option Slot
flagged None flag = None
flagged (Some k) zero = Some (record { kind = k; home_here = false })
flagged (Some k) (suc zero) = if takes_flag k then Some
    (record { kind = k; home_here = true }) else None
flagged (Some k) (suc (suc flag)) = None

abbrev pub some_result : Option Slot → Option (Option Slot)
some_result None = None
some_result (Some s) = Some (Some s)

-- what stands for a result: four zeros for none
abbrev pub result_of : ℕ → ℕ → ℕ → ℕ → Option (Option Slot)
result_of classes zero class flag = if class == 0 && flag == 0 then Some None else None
result_of classes (suc tag) class flag =
    some_result (flagged (kind_of classes (suc tag) class) flag)

unfoldable pub kind_at : ℕ → Reader ImageFault ValueKind
kind_at classes = do
  tag ← byte Short
  class ← number w16 Short
  given (kind_of classes tag class) Kind

unfoldable pub slot_at : ℕ → Reader ImageFault Slot
slot_at classes = do
  tag ← byte Short
  class ← number w16 Short
  flag ← byte Short
  given (flagged (kind_of classes tag class) flag) Kind

unfoldable pub result_at : ℕ → Reader ImageFault (Option Slot)
result_at classes = do
  tag ← byte Short
  class ← number w16 Short
  flag ← byte Short
  given (result_of classes tag class flag) Kind

-- ---- the parts

abbrev pub version_of : ℕ → Option ImageVersion
version_of zero = None
version_of (suc zero) = Some One
version_of (suc (suc zero)) = Some Two
version_of (suc (suc (suc n))) = None

unfoldable pub version_at : Reader ImageFault ImageVersion
version_at = do
  n ← number w16 Short
  given (version_of n) Version

unfoldable pub header_at : Reader ImageFault Header
header_at = do
  need 20 Short
  expect (number w32 Short) magic Magic
  version ← version_at
  least_places ← such_that (number w16 Short) (is_within 1 MOST_PLACES) Count
  classes ← number w16 Short
  ints ← number w16 Short
  texts ← number w16 Short
  functions ← such_that (number w16 Short) (is_within 1 MOST_FUNCTIONS) Count
  entry ← number w16 Short
  expect (number w16 Short) 0 Reserved
  done (record {
    version = version;
    least_places = least_places;
    classes = classes;
    ints = ints;
    texts = texts;
    functions = functions;
    entry = entry;
  })

-- how many fields, and the kind of each
unfoldable pub class_at : ℕ → Reader ImageFault (List ValueKind)
class_at classes = do
  count ← byte Short
  need (3 * count) Short
  check (nat_le count MOST_FIELDS) Count
  times count (kind_at classes)

unfoldable pub text_at : Reader ImageFault (List ℕ)
text_at = do
  length ← number w16 Short
  such_that (part length Short) is_utf8 Text

abbrev pub if_decoded : Result Instr CodeFault → Option Instr
if_decoded (Ok i) = Some i
if_decoded (Err fault) = None

-- an instruction whose operation an image of the version may have
abbrev pub if_known : ImageVersion → Option Instr → Option Instr
if_known version None = None
if_known version (Some i) = if is_known version i.op then Some i else None

unfoldable pub instruction_at : ImageVersion → ℕ → ℕ → Reader ImageFault Instr
instruction_at version function pc = do
  bytes ← part 8 Short
  given (if_known version (if_decoded (decoded bytes))) (Code function pc)

unfoldable pub function_at : ImageVersion → ℕ → ℕ → Reader ImageFault Function
function_at version classes function = do
  need 4 Short
  count ← such_that (byte Short) (is_within 0 MOST_PARAMETERS) Count
  registers ← such_that (byte Short) (λ n. is_within 1 MOST_REGISTERS n && nat_le count n) Count
  loops ← such_that (byte Short) (is_within 0 MOST_LOOPS) Count
  expect (byte Short) 0 Reserved
  need (4 * (count + 1)) Short
  parameters ← times count (slot_at classes)
  result ← result_at classes
  need 4 Short
  instructions ← such_that (number w16 Short) (is_within 1 MOST_INSTRUCTIONS) Count
  expect (number w16 Short) 0 Reserved
  need (8 * instructions) Short
  code ← numbered instructions (instruction_at version function)
  done (record {
    parameters = parameters;
    registers = registers;
    loops = loops;
    result = result;
    code = code;
  })

-- all but the rule for the entry
unfoldable pub parts_at : Reader ImageFault Module
parts_at = do
  header ← header_at
  classes ← times header.classes (class_at header.classes)
  ints ← times header.ints (int Short)
  texts ← times header.texts text_at
  functions ← numbered header.functions (function_at header.version header.classes)
  done (record {
    version = header.version;
    least_places = header.least_places;
    classes = classes;
    ints = ints;
    texts = texts;
    functions = functions;
    entry = header.entry;
  })

abbrev pub is_entry : Option Function → Bool
is_entry None = false
is_entry (Some f) = (length f.parameters == 0) && is_none f.result

abbrev pub entered : Result Module ImageFault → Result Module ImageFault
entered (Ok m) = if is_entry (slice_get m.functions m.entry) then Ok m else Err Entry
entered (Err fault) = Err fault

-- the module that the bytes spell, or their first fault
unfoldable pub module_at : List ℕ → Result Module ImageFault
module_at bytes = entered (all_of parts_at Trailing bytes)
