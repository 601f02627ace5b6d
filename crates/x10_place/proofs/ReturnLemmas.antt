-- A function ends, and its caller goes on.
use Rattle.std.proofs.Common.{◌≡◌, ◌≢◌, refl, ℕ, ◌+◌, ◌<◌, ◌^◌, true, false, List, [], ◌∷◌, ◌++◌, length, Option, Some, None, sym, ap, subst, ◌∙◌, arith}
use Rattle.std.specs.Prelude.{is_some}
use Rattle.std.proofs.lemmas.Option.{same_Some}
use Rattle.x10_code.specs.declared.op.Op.TheVariants as op
use Rattle.x10_code.specs.declared.instr.Instr.{Instr}
use Rattle.x10_code.specs.Table.{form_of}
use Rattle.x10_model.specs.Modules.{Module, Function, FitsImage}
use Rattle.x10_model.specs.declared.slot.Slot.{Slot}
use Rattle.x10_model.specs.Ranges.{function_at, instr_at, result_of, result_for, IsThere, IsResultRegister}
use Rattle.x10_image.specs.Parts.{Signature, signature_of, code_in, code_at}
use Rattle.x10_verify.specs.Certified.{Certified, IsCertified}
use Rattle.x10_verify.proofs.Wholes.{function_fits, fetched_in_range, fetched_follows}
use Rattle.x10_place.specs.declared.call_frame.CallFrame.{CallFrame}
use Rattle.x10_place.specs.Frames.{word_at}
use Rattle.x10_place.specs.Stays.{StayState, IsCalling, GoesNext, GoesNextWith, GoesOn, GoesBack, Resumes}
use Rattle.x10_place.proofs.FetchedInstructions.{IsRefetched, value_at, fetched_within}

-- ---- the caller's call

pub call_named : (program : Module) (caller : CallFrame) (callee : ℕ) (call : Instr) → IsCalling program caller callee
    → instr_at program caller.function caller.pc ≡ Some call → (call.op ≡ op.Call) × (call.x ≡ callee)
call_named program caller callee call calling e = subst (λ (i : Instr). (i.op ≡ op.Call) × (i.x ≡ callee))
    (same_Some calling.call call (sym calling.call_is ∙ e)) (calling.op_is, calling.callee_is)

pub goes_on : (i : Instr) → i.op ≡ op.Call → i.op ≢ op.Ret
goes_on i e f = absurd cc

-- what is known of a call
pub at_call : (v : Certified) (caller : CallFrame) (callee : ℕ) → IsCertified v → (calling : IsCalling v.program caller callee)
    → IsRefetched v.program caller.function caller.pc caller.function caller.pc calling.call
at_call v caller callee certified calling = record {
  function_is = refl;
  pc_is = refl;
  value = calling.call_is;
  in_range = fetched_in_range v.program caller.function caller.pc calling.call certified.verified.in_range calling.call_is;
  follows = fetched_follows v.program v.bounds caller.function caller.pc calling.call certified.verified.bounds_are calling.call_is;
}

-- an instruction follows the call
pub caller_follows : (program : Module) (caller : CallFrame) (callee f pc : ℕ) (call : Instr) → IsCalling program caller callee
    → IsRefetched program caller.function caller.pc f pc call → caller.pc + 1 < length (code_at program caller.function)
caller_follows program caller callee f pc call calling r =
    let named = call_named program caller callee call calling (value_at program caller.function caller.pc f pc call r) in
    subst (λ n. caller.pc + 1 < length (code_at program n)) r.function_is
    (subst (λ n. n + 1 < length (code_at program f)) r.pc_is (r.follows (goes_on call named.0)))

pub caller_next : (program : Module) (caller : CallFrame) (callee f pc : ℕ) (call : Instr) → FitsImage program → IsCalling program caller callee
    → IsRefetched program caller.function caller.pc f pc call → caller.pc + 1 < 2 ^ 16
caller_next program caller callee f pc call fits calling r =
    let lt = subst (λ o. caller.pc + 1 < length (code_in o)) calling.inside.is_function (caller_follows program caller callee f pc call calling r) in
    let few = (function_fits program caller.function calling.inside.function fits calling.inside.is_function).length.1 in
    omega (arith, lt, few)

-- ---- the result

pub result_is : (program image : Module) (top : CallFrame) (n : ℕ) (s : Signature) (o : Option Slot) → image ≡ program → n ≡ top.function
    → (g : Function) × (function_at image n ≡ Some g) × (s ≡ signature_of g) → o ≡ s.result → result_of (function_at program top.function) ≡ o
result_is program image top n s o same e g is =
    ap (λ (m : Module). result_of (function_at m top.function)) (sym same) ∙ ap (λ k. result_of (function_at image k)) (sym e) ∙ ap result_of g.1
    ∙ ap (λ (t : Signature). t.result) (sym g.2) ∙ sym is

-- the caller has the register of the result
pub result_there : (program : Module) (caller top : CallFrame) (f pc : ℕ) (call : Instr) (o : Option Slot) → IsCalling program caller top.function
    → IsRefetched program caller.function caller.pc f pc call → result_of (function_at program top.function) ≡ o → is_some o ≡ true
    → call.a < length caller.registers.items
result_there program caller top f pc call None calling r is some = absurd cc
result_there program caller top f pc call (Some slot) calling r is some =
    let named = call_named program caller top.function call calling (value_at program caller.function caller.pc f pc call r) in
    let function = calling.inside.function in
    let range = r.in_range function (subst (λ n. function_at program n ≡ Some function) (sym r.function_is) calling.inside.is_function) in
    let at = subst (λ o. IsThere program function call (form_of o).a call.a) named.0 range.a in
    let there = subst (λ o. IsResultRegister function (result_for program function call o) call.a) named.0 at in
    let lt : call.a < function.registers = subst (λ q. IsResultRegister function q call.a)
    (ap (λ n. result_of (function_at program n)) named.1 ∙ is) there in
    omega (arith, lt, calling.inside.registers)

pub goes_with : (o : Option Slot) (caller : CallFrame) (call : Instr) (top : CallFrame) (i : Instr) (f : CallFrame) → is_some o ≡ true
    → GoesNextWith caller call.a (word_at top.registers.items i.a) f → GoesOn o caller call top i f
goes_with None caller call top i f some h = absurd cc
goes_with (Some slot) caller call top i f some h = h

pub goes_without : (o : Option Slot) (caller : CallFrame) (call : Instr) (top : CallFrame) (i : Instr) (f : CallFrame) → is_some o ≡ false
    → GoesNext caller f → GoesOn o caller call top i f
goes_without None caller call top i f some h = h
goes_without (Some slot) caller call top i f some h = absurd cc

-- ---- both together

pub goes_back : (program : Module) (caller top f : CallFrame) (i call : Instr) (n pc : ℕ) (o : Option Slot) → FitsImage program
    → IsCalling program caller top.function → IsRefetched program caller.function caller.pc n pc call
    → result_of (function_at program top.function) ≡ o → GoesOn o caller call top i f → GoesBack program top i caller f
goes_back program caller top f i call n pc o fits calling refetched result goes =
    let named = call_named program caller top.function call calling (value_at program caller.function caller.pc n pc call refetched) in
    record {
      call = call;
      fetched = fetched_within program caller.function caller.pc (length caller.registers.items) n pc call fits calling.inside refetched;
      op_is = named.0;
      callee_is = named.1;
      goes = subst (λ q. GoesOn q caller call top i f) (sym result) goes;
    }

abbrev pub stay_with : StayState → CallFrame → List CallFrame → StayState
stay_with a top callers = record a { top = top; callers = callers }

pub resumes : (program : Module) (a : StayState) (i : Instr) (b : StayState) (caller f : CallFrame) → a.callers ≡ b.callers ++ caller ∷ []
    → GoesBack program a.top i caller f → b ≡ stay_with a f b.callers → Resumes program a i b
resumes program a i b caller f callers back is =
    let top : b.top ≡ f = ap (λ (x : StayState). x.top) is in
    record {
      caller = caller;
      callers = callers;
      back = subst (GoesBack program a.top i caller) (sym top) back;
      rest = is ∙ ap (λ g. stay_with a g b.callers) (sym top);
    }
