-- How an outcome is decided for an instruction in a state, wherever the instruction stands: by an effect that the outcome
-- settles, or by a cause why there is none.
use Rattle.std.specs.Prelude.{ℕ, Result, IfErr}
use Rattle.x10_code.specs.declared.instr.Instr.{Instr}
use Rattle.x10_code.specs.declared.rule.Effect.{Effect}
use Rattle.x10_code.specs.declared.rule.Outcome.{Outcome}
use Rattle.x10_model.specs.Assignments.{State, Settles}
use Rattle.x10_model.specs.Modules.{Module, Function}
use Rattle.x10_verify.specs.declared.fault.FlowCause.{FlowCause}
use Rattle.x10_verify.specs.Causes.{IsCauseOf}
use Rattle.x10_verify.specs.Effects.{Decides}
use Rattle.x10_verify.specs.Knowledge.{point}

-- the answer is an effect that the outcome settles in a module, or there is none
abbrev pub SettlesIn : Module → Outcome → Instr → State → Result Effect FlowCause → Type 0
SettlesIn program outcome instr s result = (function : Function) (pc : ℕ)
    → Decides (Settles outcome (point program function pc instr) s) result

-- a refusal is a cause why there is none
abbrev pub RefusesIn : Module → Outcome → Instr → State → Result Effect FlowCause → Type 0
RefusesIn program outcome instr s result = IfErr result (λ why. (function : Function) (pc : ℕ)
    → IsCauseOf outcome (point program function pc instr) s why)

-- both, whatever the module
abbrev pub SettlesAnywhere : Outcome → Instr → State → Result Effect FlowCause → Type 0
SettlesAnywhere outcome instr s result = (program : Module)
    → SettlesIn program outcome instr s result

abbrev pub RefusesAnywhere : Outcome → Instr → State → Result Effect FlowCause → Type 0
RefusesAnywhere outcome instr s result = IfErr result (λ why. (program : Module)
    (function : Function) (pc : ℕ) → IsCauseOf outcome (point program function pc instr) s why)
