-- Laws of what a fault of flow says.
use Rattle.std.specs.Prelude.{◌≡◌, ℕ, Some}
use Rattle.x10_model.specs.Modules.{Module, Function, FitsImage}
use Rattle.x10_model.specs.Ranges.{function_at}
use Rattle.x10_model.specs.Assignments.{State, Point, Edges, Permits, Reaches, HasAssignment, AreInRange}
use Rattle.x10_verify.specs.declared.fault.FlowCause.{FlowCause}
use Rattle.x10_verify.specs.Knowledge.{Follows}
use Rattle.x10_code.specs.Rules.{rule_for}
use Rattle.x10_verify.specs.Causes.{IsCauseAt, IsFound}

-- where a cause holds at an instruction in a state, the instruction's rule doesn't hold there
abbrev pub CausesRefuteRules : Type 0
CausesRefuteRules = (p : Point) (s : State) (why : FlowCause) (out : Edges)
    → IsCauseAt (rule_for p.instr.op p.instr) p s why → Permits p.instr.op p s out → ⊥

-- what follows from the entry at an instruction is known there, or less, in every consistent assignment
abbrev pub FollowedIsKnown : Type 0
FollowedIsKnown = (m : Module) (f pc : ℕ) (function : Function) (s : State) → FitsImage m
    → AreInRange m → function_at m f ≡ Some function
    → Follows m function pc s → (a : HasAssignment m function) → Reaches a.0 (pc, s)

-- so a function has no consistent assignment where a cause is found at one of its instructions
abbrev pub FoundIsWithout : Type 0
FoundIsWithout = (m : Module) (f pc : ℕ) (function : Function) (why : FlowCause) → FitsImage m
    → AreInRange m → function_at m f ≡ Some function
    → IsFound m function pc why → HasAssignment m function → ⊥
