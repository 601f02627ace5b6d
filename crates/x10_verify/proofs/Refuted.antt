-- What the faults of a function's flow say of its module.
use Rattle.std.proofs.Common.{◌≡◌, ℕ, ◌+◌, ◌<◌, true, length, Some, refl, subst, inl, inr, arith}
use Rattle.std.specs.Prelude.{slice_get}
use Rattle.x10_code.specs.declared.instr.Instr.{Instr}
use Rattle.x10_code.specs.declared.operands.Operand.{Operand}
use Rattle.x10_code.specs.declared.operands.Operand.TheVariants as operand
use Rattle.x10_code.specs.Table.{form_of}
use Rattle.x10_model.specs.Modules.{Module, Function}
use Rattle.x10_model.specs.Ranges.{function_at}
use Rattle.x10_model.specs.Structure.{is_target}
use Rattle.x10_model.specs.Assignments.{AreInRange}
use Rattle.x10_verify.specs.declared.fault.FlowCause.{FlowCause}
use Rattle.x10_verify.specs.declared.fault.FlowCause.TheVariants as flow
use Rattle.x10_verify.specs.Faults.{flow_cause, HasBounds, IsFoundIn, RefutesBy}
use Rattle.x10_code.specs.Rules.{goes_on_of}
use Rattle.x10_verify.specs.Solving.{LeadsOut, StopsIn}
use Rattle.x10_verify.specs.Verdict.{IsFirstWithout}
use Rattle.x10_verify.proofs.Structured.{bounds_each, has_next}
use Rattle.x10_verify.proofs.Wholes.{there_as}

target_is : (o : Operand) → is_target o ≡ true → o ≡ operand.Target
target_is operand.Target e = refl
target_is _ e = absurd cc

-- each instruction leads to one of its function, where the structure holds and all that is named is there
leads_on : (m : Module) (f pc : ℕ) (function : Function) (instr : Instr) (why : FlowCause) → HasBounds m → AreInRange m
    → function_at m f ≡ Some function → slice_get function.code pc ≡ Some instr → LeadsOut function pc instr why → ⊥
leads_on m f pc function instr why bounds range there is out = elim out.1 [
  | inl jump ↦ (
      let lt : instr.x < length function.code = there_as m function instr (form_of instr.op).x operand.Target instr.x
      (target_is (form_of instr.op).x jump.0) (range f pc function instr there is).x in
      absurd (omega (arith, lt, jump.1)))
  | inr next ↦ (
      let b = bounds_each m bounds.0 f function bounds.1 there in
      let lt : pc + 1 < length function.code = has_next function.code pc instr b.2.1 is
      (λ ret. absurd (let e = subst (λ o. goes_on_of o ≡ true) ret next.0 in cc)) in
      absurd (omega (arith, lt, next.1)))
]

-- so where the flow stops a cause is found
found_in : (m : Module) (c : FlowCause) (f pc : ℕ) → HasBounds m → AreInRange m → StopsIn m f pc c → IsFoundIn m f pc c
found_in m c f pc bounds range (function, there, inl found) = (function, there, found)
found_in m c f pc bounds range (function, there, inr (instr, is, out)) = absurd (leads_on m f pc function instr c bounds range there is out)

refutes_by : (m : Module) (c : FlowCause) (f pc : ℕ) → HasBounds m → AreInRange m → IsFirstWithout m f → IsFoundIn m f pc c
    → RefutesBy (flow_cause c) m f pc
refutes_by m flow.Unset f pc bounds range first found = (bounds, range, first, found)
refutes_by m flow.Kind f pc bounds range first found = (bounds, range, first, found)
refutes_by m flow.Home f pc bounds range first found = (bounds, range, first, found)
refutes_by m flow.Result f pc bounds range first found = (bounds, range, first, found)

pub flow_refutes : (m : Module) (c : FlowCause) (f pc : ℕ) → HasBounds m → AreInRange m → IsFirstWithout m f → StopsIn m f pc c
    → RefutesBy (flow_cause c) m f pc
flow_refutes m c f pc bounds range first stops = refutes_by m c f pc bounds range first (found_in m c f pc bounds range stops)
