-- What a PRINT prints, as the verifier tells it.
use Rattle.std.proofs.Common.{◌≡◌, ℕ, Some, sym, subst, ◌∙◌}
use Rattle.std.specs.Prelude.{slice_get}
use Rattle.std.proofs.lemmas.Option.{same_Some}
use Rattle.x10_kinds.specs.declared.kind.Kind.TheVariants as kind
use Rattle.x10_code.specs.declared.op.Op.TheVariants as op
use Rattle.x10_code.specs.declared.instr.Instr.{Instr}
use Rattle.x10_model.specs.Modules.{Module, Function}
use Rattle.x10_model.specs.Ranges.{function_at}
use Rattle.x10_model.specs.Assignments.{State, HasAssignment, IsKind}
use Rattle.x10_verify.specs.Least.{IsReached}
use Rattle.x10_place.specs.declared.call_frame.CallFrame.{CallFrame}
use Rattle.x10_place.specs.Frames.{IsFetchedFor}
use Rattle.x10_place.specs.Stays.{PrintsNumber}

-- what is told of a PRINT that doesn't print a text
abbrev pub SaysNumber : Module → ℕ → ℕ → Type 0
SaysNumber program n pc = (function : Function) → function_at program n ≡ Some function → IsReached program function pc → (i : Instr)
    → slice_get function.code pc ≡ Some i → i.op ≡ op.Print
    → (a : HasAssignment program function) (s : State) → a.0 pc ≡ Some s → IsKind s i.a kind.Int

pub number_known : (program : Module) (f : CallFrame) (n pc r : ℕ) (i : Instr) → IsFetchedFor program f i → i.op ≡ op.Print → i.a ≡ r → n ≡ f.function
    → pc ≡ f.pc → SaysNumber program n pc → PrintsNumber program f.function f.pc r
number_known program f n pc r i fetched print register function_is pc_is says =
    subst (λ k. PrintsNumber program f.function k r) pc_is (subst (λ k. PrintsNumber program k pc r) function_is
    (subst (λ k. PrintsNumber program n pc k) register known))
  where
    known : PrintsNumber program n pc i.a
    known function is least s e =
        let same : fetched.function ≡ function = same_Some fetched.function function
        (sym fetched.is_function ∙ subst (λ k. function_at program k ≡ Some function) function_is is) in
        let at : slice_get function.code pc ≡ Some i = subst (λ k. slice_get function.code k ≡ Some i) (sym pc_is)
        (subst (λ (g : Function). slice_get g.code f.pc ≡ Some i) same fetched.is_instr) in
        says function is (λ a. let b = least.1.below pc s e a in (b.0, b.1)) i at print (least.0, least.1.consistent) s e
