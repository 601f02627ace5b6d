-- What is known before an instruction, compared.
use Rattle.std.specs.Prelude.{◌≡◌, ℕ, Option, Some, slice_get}
use Rattle.x10_kinds.specs.Equations.{SameEquations}
use Rattle.x10_code.specs.declared.instr.Instr.{Instr}
use Rattle.x10_model.specs.Modules.{Module, Function}
use Rattle.x10_model.specs.Maps.{IsIn}
use Rattle.x10_model.specs.Assignments.{State, IsBelow, Point, Edges, Permits, IsConsistent, entry_state}
use Rattle.x10_verify.specs.Merging.{IsMet}

-- two states say the same of every register and every two terms
pub record SameState (s t : State) : Type 0 where
  pub kinds : (r : ℕ) → s.kinds r ≡ t.kinds r
  pub homes : SameEquations s.homes t.homes

-- the instruction with its number in a function
abbrev pub point : Module → Function → ℕ → Instr → Point
point program function pc instr = record {
  program = program;
  function = function;
  pc = pc;
  instr = instr;
}

-- What follows from the entry at each instruction: the entry state; what an instruction whose rule holds in a state that
-- follows there hands on; and where two ways come together, the least state above both.
pub data Follows (program : Module) (function : Function) : ℕ → State → Type 0 where
  entered : Follows program function 0 (entry_state function)
  handed_on : (pc : ℕ) (s : State) (instr : Instr) (out : Edges) (edge : ℕ × State)
      → Follows program function pc s → slice_get function.code pc ≡ Some instr
      → Permits instr.op (point program function pc instr) s out → IsIn edge out
      → Follows program function edge.0 edge.1
  merged : (pc : ℕ) (s t u : State) → Follows program function pc s → Follows program function pc t
      → IsMet s t u → Follows program function pc u
  restated : (pc : ℕ) (s t : State) → Follows program function pc s → SameState t s
      → Follows program function pc t

-- every consistent assignment has a state at pc, and knows no more there; and the state follows from the entry
pub record LeastAt (program : Module) (function : Function) (pc : ℕ) (s : State) : Type 0 where
  pub below : (states : ℕ → Option State) → IsConsistent program function states
      → (t : State) × (states pc ≡ Some t) × IsBelow s t
  pub follows : Follows program function pc s
