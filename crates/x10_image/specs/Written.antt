-- A module to be written, as the model's module, and the tests that say whether it has an image.
use Rattle.std.specs.Prelude.{◌≡◌, ℕ, ◌^◌, Bool, true, false, not, ◌&&◌, ◌||◌, nat_lt, nat_le, List, length, map, Option, Some, None, slice_get}
use Rattle.std.specs.List.{list_all}
use Rattle.std.specs.String.{string_bytes}
use Rattle.std.specs.Str.{is_utf8}
use Rattle.x10_model.specs.declared.limits.TheConstants.{MOST_FIELDS, MOST_FUNCTIONS, MOST_INSTRUCTIONS, MOST_LOOPS, MOST_PARAMETERS, MOST_PLACES}
use Rattle.x10_model.specs.declared.limits.TheConstants.{MOST_BYTES, MOST_ENTRIES, MOST_REGISTERS}
use Rattle.x10_kinds.specs.declared.kind.Kind.{Kind}
use Rattle.x10_kinds.specs.declared.kind.Kind.TheVariants as kind
use Rattle.x10_code.specs.declared.instr.Instr.{Instr}
use Rattle.x10_code.specs.Spelling.{fits_form}
use Rattle.x10_model.specs.Modules as model
use Rattle.x10_model.specs.Modules.{takes_flag, is_known}
use Rattle.x10_model.specs.ReadingImages.{is_within, is_entry}
use Rattle.x10_model.specs.declared.slot.Slot.{Slot}
use Rattle.x10_model.specs.declared.version.ImageVersion.{ImageVersion}
use Rattle.x10_model.specs.Ranges.{instr_at}
use Rattle.x10_image.specs.declared.fault.ImageFault.{ImageFault}
use Rattle.x10_image.specs.declared.fault.ImageFault.TheVariants as fault
use Rattle.x10_image.specs.declared.module.Module.{Module}
use Rattle.x10_image.specs.declared.module.Function.{Function}

abbrev pub function_shown : Function → model.Function
function_shown f = record {
  parameters = f.parameters.items;
  registers = f.registers;
  loops = f.loops;
  result = f.result;
  code = f.code.items;
}

-- the module that is to be written
abbrev pub shown : Module → model.Module
shown m = record {
  version = m.version;
  least_places = m.least_places;
  classes = map (λ c. c.items) m.classes.items;
  ints = m.ints.items;
  texts = map string_bytes m.texts.items;
  functions = map function_shown m.functions.items;
  entry = m.entry;
}

-- ---- tests

abbrev pub names_below : ℕ → Kind → Bool
names_below classes (kind.Obj c) = nat_lt c classes
names_below classes (kind.Opt c) = nat_lt c classes
names_below classes (kind.GRef c) = nat_lt c classes
names_below classes _ = true

abbrev pub slot_fits : ℕ → Slot → Bool
slot_fits classes s = names_below classes s.kind && (not s.home_here || takes_flag s.kind)

abbrev pub result_fits : ℕ → Option Slot → Bool
result_fits classes None = true
result_fits classes (Some s) = slot_fits classes s

-- eight bytes spell the instruction
abbrev pub is_spelled : Instr → Bool
is_spelled i = nat_lt i.a 256 && nat_lt i.b 256 && nat_lt i.c 256 && nat_lt i.x
    (2 ^ 32) && fits_form i

abbrev pub instr_fits : ImageVersion → Instr → Bool
instr_fits version i = is_spelled i && is_known version i.op

abbrev pub text_fits : List ℕ → Bool
text_fits text = nat_le (length text) MOST_BYTES && is_utf8 text

-- how many registers, loop slots and parameters a function has is in range
abbrev pub signature_fits : model.Function → Bool
signature_fits f =
    is_within 1 MOST_REGISTERS f.registers
    && nat_le (length f.parameters) f.registers
    && nat_le f.loops MOST_LOOPS
    && nat_le (length f.parameters) MOST_PARAMETERS

abbrev pub counts_of_function : model.Function → Bool
counts_of_function f = signature_fits f && is_within 1 MOST_INSTRUCTIONS (length f.code)

-- the numbers of the header are in their ranges
abbrev pub tables_fit : Module → Bool
tables_fit m =
    is_within 1 MOST_PLACES m.least_places
    && nat_le (length m.classes.items) MOST_ENTRIES
    && nat_le (length m.ints.items) MOST_ENTRIES
    && nat_le (length m.texts.items) MOST_ENTRIES
    && is_within 1 MOST_FUNCTIONS (length m.functions.items)

-- those of the classes, texts and functions are
abbrev pub items_fit : Module → Bool
items_fit m =
    list_all (λ c. nat_le (length c.items) MOST_FIELDS) m.classes.items
    && list_all (λ t. text_fits (string_bytes t)) m.texts.items
    && list_all (λ f. counts_of_function (function_shown f)) m.functions.items

abbrev pub kinds_of_function : ℕ → model.Function → Bool
kinds_of_function classes f = list_all (slot_fits classes) f.parameters && result_fits classes
    f.result

-- every kind names a class that is there, and only a global reference is said to have its home here
abbrev pub kinds_fit : Module → Bool
kinds_fit m =
    list_all (λ c. list_all (names_below (length m.classes.items)) c.items) m.classes.items
    && list_all (λ f. kinds_of_function (length m.classes.items) (function_shown f))
    m.functions.items

-- every instruction is one that an image of the module's version may have
abbrev pub code_fits : Module → Bool
code_fits m = list_all (λ f. list_all (instr_fits m.version) f.code.items) m.functions.items

abbrev pub entry_fits : Module → Bool
entry_fits m = is_entry (slice_get (map function_shown m.functions.items) m.entry)

-- what a fault says of a module that is to be written
abbrev pub Hinders : ImageFault → Module → Type 0
Hinders fault.Count m = (tables_fit m && items_fit m) ≡ false
Hinders fault.Kind m = kinds_fit m ≡ false
Hinders (fault.Code function pc) m = (i : Instr) × (instr_at (shown m) function pc ≡ Some i)
    × (instr_fits m.version i ≡ false)
Hinders fault.Entry m = entry_fits m ≡ false
Hinders fault.Memory m = ⊥
Hinders fault.Short m = ⊥
Hinders fault.Magic m = ⊥
Hinders fault.Version m = ⊥
Hinders fault.Text m = ⊥
Hinders fault.Trailing m = ⊥
Hinders fault.Reserved m = ⊥

-- nothing hinders an image
pub record NothingHinders (m : Module) : Type 0 where
  pub tables : tables_fit m ≡ true
  pub items : items_fit m ≡ true
  pub kinds : kinds_fit m ≡ true
  pub code : code_fits m ≡ true
  pub entry_is : entry_fits m ≡ true
