-- What the verifier finds of one function.
use Rattle.std.specs.Prelude.{◌≡◌, ℕ, Bool, false, List, length, Option, Some, None}
use Rattle.x10_kinds.specs.declared.kind.Kind.{Kind}
use Rattle.x10_kinds.specs.declared.homes.Term.{Term}
use Rattle.x10_model.specs.Modules.{Module, Function}
use Rattle.x10_model.specs.Assignments.{State, HasAssignment}
use Rattle.x10_verify.specs.declared.fault.FlowCause.TheVariants as flow
use Rattle.x10_verify.specs.declared.fault.VerifyCause.{VerifyCause}
use Rattle.x10_verify.specs.declared.fault.VerifyCause.TheVariants as cause
use Rattle.x10_verify.specs.declared.fault.FlowCause.{FlowCause}
use Rattle.x10_verify.specs.declared.fault.VerifyFault.{VerifyFault}
use Rattle.x10_verify.specs.declared.states.Entry.{Entry}
use Rattle.x10_verify.specs.Least.{IsLeast}
use Rattle.x10_verify.specs.Solving.{Shows, Stops}
use Rattle.x10_verify.specs.States.{stated}
use Rattle.x10_verify.specs.Verdict.{AreInRangeTo, IsOutAt}

-- the function's first fault, and the table of its states
pub record FlowFacts : Type 0 where
  pub fault : Option VerifyFault
  pub table : List Entry

-- the state that is known before each instruction that the flow reaches
abbrev pub states_of : FlowFacts → ℕ → Option State
states_of flow = stated flow.table

-- the kind of a register, where there is a state
abbrev pub kind_of : Option State → ℕ → Option Kind
kind_of None r = None
kind_of (Some s) r = s.kinds r

-- whether two terms are known to be the same place, where there is a state
abbrev pub same_of : Option State → Term → Term → Bool
same_of None t u = false
same_of (Some s) t u = s.homes t u

-- all that the function names is there, it has no consistent assignment, and the flow stops at the instruction; each state
-- is one that every assignment would have at least, and the cause holds in that of the instruction
pub record IsStopped (m : Module) (function : Function) (pc : ℕ) (table : List Entry)
    (why : FlowCause) : Type 0 where
  pub range : AreInRangeTo m function (length function.code)
  pub without : HasAssignment m function → ⊥
  pub stops : Stops m function pc why
  pub shows : Shows m function pc why table

-- what a function's own fault says; of the module's structure it says nothing
abbrev pub FlawsBy : VerifyCause → Module → Function → ℕ → List Entry → Type 0
FlawsBy cause.Index m function pc table = IsOutAt m function pc
FlawsBy cause.Unset m function pc table = IsStopped m function pc table flow.Unset
FlawsBy cause.Kind m function pc table = IsStopped m function pc table flow.Kind
FlawsBy cause.Home m function pc table = IsStopped m function pc table flow.Home
FlawsBy cause.Result m function pc table = IsStopped m function pc table flow.Result
FlawsBy _ m function pc table = ⊥

-- without a fault all that the function names is there, and the states are its least assignment; a fault says what is broken
abbrev pub Judges : Option VerifyFault → Module → ℕ → Function → List Entry → Type 0
Judges None m f function table = AreInRangeTo m function (length function.code)
    × IsLeast m function (stated table)
Judges (Some fault) m f function table = (fault.function ≡ f)
    × FlawsBy fault.cause m function fault.pc table
