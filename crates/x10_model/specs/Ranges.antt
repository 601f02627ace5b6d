-- What an instruction names must be there: registers, slots, constants, classes, functions, places and instructions.
use Rattle.std.specs.Prelude.{◌≡◌, ℕ, ◌+◌, ◌<◌, ◌≤◌, List, [], length, Option, Some, None, slice_get}
use Rattle.x10_kinds.specs.declared.kind.Kind.{Kind}
use Rattle.x10_code.specs.declared.op.Op.{Op}
use Rattle.x10_code.specs.declared.op.Op.TheVariants as op
use Rattle.x10_code.specs.declared.instr.Instr.{Instr}
use Rattle.x10_code.specs.declared.operands.Operand.{Operand}
use Rattle.x10_code.specs.declared.operands.Operand.TheVariants as operand
use Rattle.x10_code.specs.Table.{form_of}
use Rattle.x10_model.specs.Modules.{Module, Function}
use Rattle.x10_model.specs.declared.slot.Slot.{Slot}

abbrev pub function_at : Module → ℕ → Option Function
function_at m f = slice_get m.functions f

abbrev pub instr_in : Option Function → ℕ → Option Instr
instr_in None pc = None
instr_in (Some f) pc = slice_get f.code pc

-- the instruction number pc of function f
abbrev pub instr_at : Module → ℕ → ℕ → Option Instr
instr_at m f pc = instr_in (function_at m f) pc

abbrev pub parameters_of : Option Function → List Slot
parameters_of None = []
parameters_of (Some f) = f.parameters

abbrev pub result_of : Option Function → Option Slot
result_of None = None
result_of (Some f) = f.result

abbrev pub fields_of : Option (List Kind) → List Kind
fields_of None = []
fields_of (Some kinds) = kinds

-- how many registers it takes from its b on: one for each field of the class, or for each parameter of the function
abbrev pub argument_count : Module → Instr → Op → ℕ
argument_count m i op.New = length (fields_of (slice_get m.classes i.x))
argument_count m i _ = length (parameters_of (function_at m i.x))

-- the result that its a stands for: that of the function that ends, or of the one that is called
abbrev pub result_for : Module → Function → Instr → Op → Option Slot
result_for m f i op.Ret = f.result
result_for m f i _ = result_of (function_at m i.x)

abbrev pub IsResultRegister : Function → Option Slot → ℕ → Type 0
IsResultRegister f None n = Unit {0}
IsResultRegister f (Some slot) n = n < f.registers

-- n arguments from a register on; where there are none, the register is 0
abbrev pub AreArgumentRegisters : Function → ℕ → ℕ → Type 0
AreArgumentRegisters f count n = (count ≡ 0 → n ≡ 0) × (n + count ≤ f.registers)

-- what one operand names is there
abbrev pub IsThere : Module → Function → Instr → Operand → ℕ → Type 0
IsThere m f i operand.Unused n = Unit {0}
IsThere m f i operand.Register n = n < f.registers
IsThere m f i operand.Result n = IsResultRegister f (result_for m f i i.op) n
IsThere m f i operand.Arguments n = AreArgumentRegisters f (argument_count m i i.op) n
IsThere m f i operand.Slot n = n < f.loops
IsThere m f i operand.Count n = Unit {0}
IsThere m f i operand.Field n = Unit {0}
IsThere m f i operand.Int n = n < length m.ints
IsThere m f i operand.Text n = n < length m.texts
IsThere m f i operand.Place n = n < m.least_places
IsThere m f i operand.Class n = n < length m.classes
IsThere m f i operand.Function n = n < length m.functions
IsThere m f i operand.Target n = n < length f.code

-- all that an instruction of function f names is there
pub record IsInRange (m : Module) (f : Function) (i : Instr) : Type 0 where
  pub a : IsThere m f i (form_of i.op).a i.a
  pub b : IsThere m f i (form_of i.op).b i.b
  pub c : IsThere m f i (form_of i.op).c i.c
  pub x : IsThere m f i (form_of i.op).x i.x
