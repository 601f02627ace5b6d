-- What the flow needs of the numbers in an instruction: all of it follows from their naming what is there.
use Rattle.std.specs.Prelude.{◌≡◌, ℕ, ◌<◌, Option, Some, None, true}
use Rattle.x10_code.specs.declared.instr.Instr.{Instr}
use Rattle.x10_code.specs.declared.operands.Operand.TheVariants as operand
use Rattle.x10_code.specs.Table.{form_of}
use Rattle.x10_code.specs.Rules.{NamesSmall}
use Rattle.x10_model.specs.declared.slot.Slot.{Slot}
use Rattle.x10_model.specs.Modules.{Module}
use Rattle.x10_model.specs.Ranges.{function_at, instr_at, result_of}
use Rattle.x10_model.specs.Structure.{is_call}

-- where there is a result, its register is one of the 64 that there may be
abbrev pub IsResultNamed : Option Slot → ℕ → Type 0
IsResultNamed None a = Unit {0}
IsResultNamed (Some slot) a = a < 64

-- and the register that is written is one of the 64 that there may be
pub record IsNamed (program : Module) (i : Instr) : Type 0 where
  pub small : NamesSmall i
  pub a : (form_of i.op).a ≡ operand.Register → i.a < 64
  pub result : is_call i.op ≡ true → IsResultNamed (result_of (function_at program i.x)) i.a

-- the same of each instruction of function f
abbrev pub HasNames : Module → ℕ → Type 0
HasNames program f = (pc : ℕ) (instr : Instr) → instr_at program f pc ≡ Some instr
    → IsNamed program instr
