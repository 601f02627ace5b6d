-- What a fault of the verifier says of a module.
use Rattle.std.specs.Prelude.{◌≡◌, ℕ, List, Option, Some, None, Ok, Err}
use Rattle.x10_bounds.specs.declared.fault.BoundCause.{BoundCause}
use Rattle.x10_bounds.specs.declared.fault.BoundCause.TheVariants as bound
use Rattle.x10_bounds.specs.Faults.{named}
use Rattle.x10_model.specs.Modules.{Module, Function}
use Rattle.x10_model.specs.Ranges.{function_at}
use Rattle.x10_model.specs.Structure as structure
use Rattle.x10_model.specs.Structure.{bounds_of}
use Rattle.x10_model.specs.Assignments.{AreInRange}
use Rattle.x10_verify.specs.declared.fault.FlowCause.{FlowCause}
use Rattle.x10_verify.specs.declared.fault.FlowCause.TheVariants as flow
use Rattle.x10_verify.specs.declared.fault.VerifyCause.{VerifyCause}
use Rattle.x10_verify.specs.declared.fault.VerifyCause.TheVariants as cause
use Rattle.x10_verify.specs.declared.fault.VerifyFault.{VerifyFault}
use Rattle.x10_verify.specs.Verdict.{IsFirstOut, IsFirstWithout}
use Rattle.x10_verify.specs.Causes.{IsFound}

-- the rule's cause by its name in the verifier's faults
abbrev pub flow_cause : FlowCause → VerifyCause
flow_cause flow.Unset = cause.Unset
flow_cause flow.Kind = cause.Kind
flow_cause flow.Home = cause.Home
flow_cause flow.Result = cause.Result

abbrev pub structure_cause : BoundCause → VerifyCause
structure_cause bound.Memory = cause.Memory
structure_cause c = cause.Structure c

abbrev pub IsStructureFault : Module → Option structure.BoundCause → ℕ → ℕ → Type 0
IsStructureFault m None f pc = ⊥
IsStructureFault m (Some c) f pc = bounds_of m ≡ Err (record { cause = c; function = f; pc = pc })

-- the cause holds at an instruction of function f
abbrev pub IsFoundIn : Module → ℕ → ℕ → FlowCause → Type 0
IsFoundIn m f pc why = (function : Function) × (function_at m f ≡ Some function)
    × IsFound m function pc why

-- the structure holds
abbrev pub HasBounds : Module → Type 0
HasBounds m = (bounds : List ℕ) × (bounds_of m ≡ Ok bounds)

-- The module breaks the rule of structure that is named; or its structure holds, and the instruction is the first that
-- names what isn't there; or all that is named is there, the function is the first without an assignment, and the cause
-- holds at the instruction in a state that follows there from the entry. Where memory ran out, nothing is said of the module.
abbrev pub RefutesBy : VerifyCause → Module → ℕ → ℕ → Type 0
RefutesBy (cause.Structure c) m f pc = IsStructureFault m (named c) f pc
RefutesBy cause.Index m f pc = HasBounds m × IsFirstOut m f pc
RefutesBy cause.Unset m f pc = HasBounds m × AreInRange m × IsFirstWithout m f
    × IsFoundIn m f pc flow.Unset
RefutesBy cause.Kind m f pc = HasBounds m × AreInRange m × IsFirstWithout m f
    × IsFoundIn m f pc flow.Kind
RefutesBy cause.Home m f pc = HasBounds m × AreInRange m × IsFirstWithout m f
    × IsFoundIn m f pc flow.Home
RefutesBy cause.Result m f pc = HasBounds m × AreInRange m × IsFirstWithout m f
    × IsFoundIn m f pc flow.Result
RefutesBy cause.Memory m f pc = (f ≡ 0) × (pc ≡ 0)

abbrev pub Refutes : Module → VerifyFault → Type 0
Refutes m fault = RefutesBy fault.cause m fault.function fault.pc
