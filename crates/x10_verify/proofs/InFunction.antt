-- A function of a module, by its number.
use Rattle.std.proofs.Common.{◌≡◌, ℕ, length, Option, Some, sym, ap, subst, ◌∙◌}
use Rattle.std.specs.Prelude.{slice_get}
use Rattle.std.proofs.lemmas.Option.{same_Some}
use Rattle.x10_code.specs.declared.instr.Instr.{Instr}
use Rattle.x10_image.specs.Parts.{Signature, signature_of, code_in, code_at}
use Rattle.x10_model.specs.declared.slot.Slot.{Slot}
use Rattle.x10_model.specs.Modules.{Module, Function}
use Rattle.x10_model.specs.Ranges.{function_at, instr_at, instr_in}
use Rattle.x10_model.specs.Assignments.{State}
use Rattle.x10_verify.specs.Known.{entered}
use Rattle.x10_verify.specs.Knowledge.{SameState}

pub in_function : (program : Module) (f pc : ℕ) (function : Function) (instr : Instr) → function_at program f ≡ Some function
    → instr_at program f pc ≡ Some instr → slice_get function.code pc ≡ Some instr
in_function program f pc function instr e i = subst (λ (o : Option Function). instr_in o pc ≡ Some instr) e i

pub same_function : (program : Module) (f : ℕ) (g function : Function) → function_at program f ≡ Some g → function_at program f ≡ Some function
    → g ≡ function
same_function program f g function e h = same_Some g function (sym e ∙ h)

-- the function's code is that of the view
pub code_length : (program : Module) (f len : ℕ) (function : Function) → function_at program f ≡ Some function → len ≡ length (code_at program f)
    → length function.code ≡ len
code_length program f len function e size = sym (size ∙ ap (λ o. length (code_in o)) e)

pub same_result : (program : Module) (f : ℕ) (function : Function) (s : Signature) (slot : Option Slot)
    → (g : Function) × (function_at program f ≡ Some g) × (s ≡ signature_of g) → slot ≡ s.result → function_at program f ≡ Some function
    → function.result ≡ slot
same_result program f function s slot h e i = sym (e ∙ ap (λ (x : Signature). x.result) h.2
    ∙ ap (λ (x : Function). x.result) (same_function program f h.0 function h.1 i))

pub same_entry : (program : Module) (f : ℕ) (function : Function) (s : Signature) (known : State)
    → (g : Function) × (function_at program f ≡ Some g) × (s ≡ signature_of g) → function_at program f ≡ Some function
    → SameState known (entered s.parameters) → SameState known (entered function.parameters)
same_entry program f function s known h i same =
    let e : s.parameters ≡ function.parameters = ap (λ (x : Signature). x.parameters) h.2
    ∙ ap (λ (x : Function). x.parameters) (same_function program f h.0 function h.1 i) in
    subst (λ ps. SameState known (entered ps)) e same

pub parameters_are : (program : Module) (f : ℕ) (function : Function) (s : Signature)
    → (g : Function) × (function_at program f ≡ Some g) × (s ≡ signature_of g) → function_at program f ≡ Some function
    → function.parameters ≡ s.parameters
parameters_are program f function s h i = sym (ap (λ (x : Signature). x.parameters) h.2
    ∙ ap (λ (x : Function). x.parameters) (same_function program f h.0 function h.1 i))
