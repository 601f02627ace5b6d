-- Which instructions print a text.
use Rattle.std.specs.Prelude.{◌≡◌, ◌↔◌, ◌&&◌, ℕ, Bool, true, false, List, length, Option, Some, None, Vec, slice_get}
use Rattle.std.specs.Global.{Global}
use Rattle.x10_kinds.specs.declared.kind.Kind.{Kind}
use Rattle.x10_kinds.specs.declared.kind.Kind.TheVariants.{Text}
use Rattle.x10_code.specs.declared.op.Op.{Op}
use Rattle.x10_code.specs.declared.op.Op.TheVariants as op
use Rattle.x10_code.specs.declared.instr.Instr.{Instr}
use Rattle.x10_image.specs.Parts.{code_at}
use Rattle.x10_model.specs.Modules.{Module, Function}
use Rattle.x10_model.specs.Ranges.{function_at}
use Rattle.x10_model.specs.Assignments.{State, HasAssignment}
use Rattle.x10_verify.specs.Certified.{Certified, IsCertified}
use Rattle.x10_verify.specs.Least.{HasLeast}

-- the flow reaches a PRINT, and the least consistent assignment, and so every one, knows a text in its register
pub record PrintsText (program : Module) (index pc : ℕ) : Type 0 where
  pub function : Function
  pub is_function : function_at program index ≡ Some function
  pub instr : Instr
  pub is_instr : slice_get function.code pc ≡ Some instr
  pub op_is : instr.op ≡ op.Print
  pub text : (a : HasAssignment program function)
      → (s : State) × (a.0 pc ≡ Some s) × (s.kinds instr.a ≡ Some Text)

-- ---- what is noted of it

abbrev pub is_print : Op → Bool
is_print op.Print = true
is_print _ = false

abbrev pub is_text : Option Kind → Bool
is_text (Some Text) = true
is_text _ = false

-- whether a register is known to hold a text
abbrev pub is_text_in : Option State → ℕ → Bool
is_text_in None r = false
is_text_in (Some s) r = is_text (s.kinds r)

-- whether an instruction is a PRINT whose register is known to hold a text
abbrev pub prints_in : Option Instr → Option State → Bool
prints_in None s = false
prints_in (Some i) s = is_print i.op && is_text_in s i.a

abbrev pub bit_if : Option Bool → Bool
bit_if None = false
bit_if (Some b) = b

-- a row has a bit for each instruction of a function
abbrev pub bit_in : List Bool → ℕ → Bool
bit_in row pc = bit_if (slice_get row pc)

abbrev pub row_if : Option (Vec Bool Global) → ℕ → Bool
row_if None pc = false
row_if (Some row) pc = bit_in row.items pc

-- the bit of an instruction, in a row for each function
abbrev pub bit_at : List (Vec Bool Global) → ℕ → ℕ → Bool
bit_at rows f pc = row_if (slice_get rows f) pc

-- the rows of a module are as long as its functions
pub record HasRows (program : Module) (rows : List (Vec Bool Global)) : Type 0 where
  pub count : length rows ≡ length program.functions
  pub sizes : (f : ℕ) (row : Vec Bool Global) → slice_get rows f ≡ Some row
      → length row.items ≡ length (code_at program f)

-- the bits say of function f which instructions print a text
abbrev pub AreNoted : Module → (ℕ → Bool) → ℕ → Type 0
AreNoted program bits f = (pc : ℕ) → bits pc ≡ true ↔ PrintsText program f pc

-- what the verifier keeps of a module: its certificate, the least assignments, and which instructions print a text
pub record IsKnownWell (c : Certified) (rows : List (Vec Bool Global)) : Type 0 where
  pub certified : IsCertified c
  pub least : (f : ℕ) (function : Function) → function_at c.program f ≡ Some function
      → HasLeast c.program function
  pub noted : (f : ℕ) → AreNoted c.program (bit_at rows f) f
