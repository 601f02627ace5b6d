-- What the verifier's answers say of a module.
use Rattle.std.specs.Prelude.{◌≡◌, ℕ, ◌<◌, length, Some, slice_get}
use Rattle.x10_code.specs.declared.instr.Instr.{Instr}
use Rattle.x10_model.specs.Modules.{Module, Function}
use Rattle.x10_model.specs.Ranges.{function_at, IsInRange}
use Rattle.x10_model.specs.Assignments.{HasAssignment}

-- what is named by the instructions of a function before pc is there
abbrev pub AreInRangeTo : Module → Function → ℕ → Type 0
AreInRangeTo m function pc = (q : ℕ) (i : Instr) → q < pc → slice_get function.code q ≡ Some i
    → IsInRange m function i

-- the instruction pc is the function's first that names what isn't there
pub record IsOutAt (m : Module) (function : Function) (pc : ℕ) : Type 0 where
  pub before : AreInRangeTo m function pc
  pub instr : Instr
  pub is_instr : slice_get function.code pc ≡ Some instr
  pub out : IsInRange m function instr → ⊥

-- the same over all functions
pub record IsFirstOut (m : Module) (f pc : ℕ) : Type 0 where
  pub before : (g : ℕ) (function : Function) → g < f → function_at m g ≡ Some function
      → AreInRangeTo m function (length function.code)
  pub function : Function
  pub is_function : function_at m f ≡ Some function
  pub out : IsOutAt m function pc

-- function f is the first without a consistent assignment
pub record IsFirstWithout (m : Module) (f : ℕ) : Type 0 where
  pub before : (g : ℕ) (function : Function) → g < f → function_at m g ≡ Some function
      → HasAssignment m function
  pub function : Function
  pub is_function : function_at m f ≡ Some function
  pub without : HasAssignment m function → ⊥
