-- The parts of a module that a view hands out.
use Rattle.std.specs.Prelude.{ℕ, zero, suc, ◌+◌, ◌*◌, ◌≤◌, ◌==◌, List, [], ◌∷◌, ◌++◌, length, Option, Some, None, IfSome, slice_index, take}
use Rattle.std.specs.List.{AllByRecursion, flat_map}
use Rattle.std.specs.Int.{w16, from_be_bytes}
use Rattle.x10_model.specs.declared.limits.TheConstants.{MOST_LOOPS, MOST_PARAMETERS, MOST_REGISTERS}
use Rattle.x10_kinds.specs.declared.kind.Kind.{Kind}
use Rattle.x10_kinds.specs.declared.kind.Kind.TheVariants as kind
use Rattle.x10_code.specs.declared.instr.Instr.{Instr}
use Rattle.x10_model.specs.Modules.{Module, Function, FitsSlot}
use Rattle.x10_model.specs.Images.{header_of, header_bytes, slot_bytes, result_bytes, class_bytes, int_bytes, text_bytes, function_bytes}
use Rattle.x10_model.specs.Ranges.{function_at}
use Rattle.x10_model.specs.declared.slot.Slot.{Slot}

-- a function without its code
pub record Signature : Type 0 where
  pub parameters : List Slot
  pub registers : ℕ
  pub loops : ℕ
  pub result : Option Slot

abbrev pub signature_of : Function → Signature
signature_of f = record {
  parameters = f.parameters;
  registers = f.registers;
  loops = f.loops;
  result = f.result;
}

-- the bytes that a function begins with: how many parameters, registers and loop slots, a zero, the parameters, the result
unfoldable pub signature_bytes : Signature → List ℕ
signature_bytes s = (length s.parameters ∷ s.registers ∷ s.loops ∷ 0 ∷ [])
    ++ (flat_map slot_bytes s.parameters ++ result_bytes s.result)

-- what holds of each function's signature, in a module with so many classes
pub record FitsSignature (classes : ℕ) (s : Signature) : Type 0 where
  pub parameters_fit : length s.parameters ≤ MOST_PARAMETERS
  pub registers_fit : (1 ≤ s.registers) × (s.registers ≤ MOST_REGISTERS)
  pub room : length s.parameters ≤ s.registers
  pub loops_fit : s.loops ≤ MOST_LOOPS
  pub slots : AllByRecursion (FitsSlot classes) s.parameters
  pub result_fits : IfSome s.result (FitsSlot classes)

abbrev pub code_in : Option Function → List Instr
code_in None = []
code_in (Some f) = f.code

-- the instructions of function f
abbrev pub code_at : Module → ℕ → List Instr
code_at m f = code_in (function_at m f)

-- ---- places in a module's spelling

-- where the classes, the numbers, the texts and the functions begin
abbrev pub classes_from : Module → ℕ
classes_from m = length (header_bytes (header_of m))

abbrev pub ints_from : Module → ℕ
ints_from m = classes_from m + length (flat_map class_bytes m.classes)

abbrev pub texts_from : Module → ℕ
texts_from m = ints_from m + length (flat_map int_bytes m.ints)

abbrev pub functions_from : Module → ℕ
functions_from m = texts_from m + length (flat_map text_bytes m.texts)

-- where the bytes of class c begin
abbrev pub place_of_class : Module → ℕ → ℕ
place_of_class m c = classes_from m + length (flat_map class_bytes (take c m.classes))

-- where the 8 bytes of number i begin
abbrev pub place_of_int : Module → ℕ → ℕ
place_of_int m i = ints_from m + 8 * i

-- where the bytes of text i begin: behind its length, in two bytes
abbrev pub place_of_text : Module → ℕ → ℕ
place_of_text m i = texts_from m + length (flat_map text_bytes (take i m.texts)) + 2

-- where the bytes of function f begin, its signature first
abbrev pub place_of_signature : Module → ℕ → ℕ
place_of_signature m f = functions_from m + length (flat_map function_bytes (take f m.functions))

abbrev pub parameters_in : Option Function → List Slot
parameters_in None = []
parameters_in (Some f) = f.parameters

-- where the instructions of function f begin: behind its head, its parameters and result with 4 bytes each, and its count
abbrev pub place_of_code : Module → ℕ → ℕ
place_of_code m f = place_of_signature m f + 12 + 4 * length (parameters_in (function_at m f))

-- where the count of function f's instructions stands, in two bytes: four bytes before them
abbrev pub place_of_count : Module → ℕ → ℕ
place_of_count m f = place_of_signature m f + 8 + 4 * length (parameters_in (function_at m f))

-- where the 8 bytes of instruction pc of function f begin
abbrev pub place_of_instr : Module → ℕ → ℕ → ℕ
place_of_instr m f pc = place_of_code m f + 8 * pc

-- ---- kinds and slots from their bytes

abbrev pub kind_with : ℕ → ℕ → Kind
kind_with zero class = kind.Int
kind_with (suc zero) class = kind.Int
kind_with (suc (suc zero)) class = kind.Place
kind_with (suc (suc (suc zero))) class = kind.Text
kind_with (suc (suc (suc (suc zero)))) class = kind.Rail
kind_with (suc (suc (suc (suc (suc zero))))) class = kind.Obj class
kind_with (suc (suc (suc (suc (suc (suc zero)))))) class = kind.Opt class
kind_with (suc (suc (suc (suc (suc (suc (suc tag))))))) class = kind.GRef class

-- the kinds that their bytes spell
unfoldable pub kinds_in : List ℕ → List Kind
kinds_in (tag ∷ high ∷ low ∷ rest) = kind_with tag (from_be_bytes w16 (high ∷ low ∷ []))
    ∷ kinds_in rest
kinds_in _ = []

-- the slots that their bytes spell
unfoldable pub slots_in : List ℕ → List Slot
slots_in (tag ∷ high ∷ low ∷ flag ∷ rest) =
    record { kind = kind_with tag (from_be_bytes w16 (high ∷ low ∷ [])); home_here = flag == 1 }
    ∷ slots_in rest
slots_in _ = []

-- the slot that the four bytes from a place on spell
abbrev pub slot_at : List ℕ → ℕ → Slot
slot_at bytes at = record {
  kind = kind_with (slice_index bytes at)
      (from_be_bytes w16 (slice_index bytes (at + 1) ∷ slice_index bytes (at + 2) ∷ []));
  home_here = slice_index bytes (at + 3) == 1;
}
