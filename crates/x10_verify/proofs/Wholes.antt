-- All instructions of a function, and all functions of a module.
use Rattle.std.proofs.Common.{◌≡◌, ◌≢◌, ◌⊎◌, ℕ, ◌+◌, ◌<◌, ◌≤◌, true, List, length, max, Option, Some, None, refl, sym, ap, subst, ◌∙◌, inl, inr, arith}
use Rattle.std.specs.Prelude.{slice_get}
use Rattle.std.proofs.lemmas.Bool.{cases_lt}
use Rattle.x10_code.specs.declared.op.Op.{Op}
use Rattle.x10_code.specs.declared.op.Op.TheVariants as op
use Rattle.x10_code.specs.declared.instr.Instr.{Instr}
use Rattle.x10_code.specs.declared.operands.Operand.{Operand}
use Rattle.x10_code.specs.declared.operands.Operand.TheVariants as operand
use Rattle.x10_code.specs.Table.{form_of}
use Rattle.x10_model.specs.declared.slot.Slot.{Slot}
use Rattle.x10_model.specs.Modules.{Module, Function, FitsFunction, FitsImage}
use Rattle.x10_model.specs.Ranges.{function_at, instr_at, instr_in, IsThere, IsInRange, IsResultRegister, result_for, result_of}
use Rattle.x10_model.specs.Assignments.{AreInRange, HasAssignment}
use Rattle.x10_verify.specs.Named.{IsNamed, IsResultNamed, HasNames}
use Rattle.x10_verify.specs.Least.{HasLeast}
use Rattle.x10_verify.specs.Verdict.{AreInRangeTo, IsOutAt, IsFirstOut, IsFirstWithout}
use Rattle.std.specs.Prelude.{Ok}
use Rattle.std.proofs.lemmas.Option.{same_Some, slice_get_within, slice_get_past}
use Rattle.x10_image.specs.Parts.{code_in, code_at}
use Rattle.x10_model.specs.Structure.{bounds_of, is_call}
use Rattle.x10_verify.proofs.Structured.{bounds_each, has_next}
use Rattle.x10_verify.proofs.InFunction.{in_function}
use Rattle.x10_model.proofs.Decided.{get_below}
use Rattle.x10_model.proofs.Lists.{all_at}

below_or_at : (q pc : ℕ) → q < pc + 1 → (q < pc) ⊎ (q ≡ pc)
below_or_at q pc lt = elim (cases_lt q pc) [ inl less ↦ inl less | inr le ↦ inr (omega arith) ]

-- ---- ranges

pub range_more : (m : Module) (f pc : ℕ) (function : Function) (i : Instr) → function_at m f ≡ Some function → instr_at m f pc ≡ Some i
    → AreInRangeTo m function pc → IsInRange m function i → AreInRangeTo m function (pc + 1)
range_more m f pc function i e is before here q j lt g = elim (below_or_at q pc lt) [
  | inl less ↦ before q j less g
  | inr at ↦ subst (λ k. IsInRange m function k) (same_Some i j
      (sym (in_function m f pc function i e is) ∙ subst (λ n. slice_get function.code n ≡ Some j) at g)) here
]

pub range_out : (m : Module) (f pc : ℕ) (function : Function) (i : Instr) → function_at m f ≡ Some function → instr_at m f pc ≡ Some i
    → AreInRangeTo m function pc → (IsInRange m function i → ⊥) → IsOutAt m function pc
range_out m f pc function i e is before out = record { before = before; instr = i; is_instr = in_function m f pc function i e is; out = out }

pub functions_more : (m : Module) (P : Function → Type 0) (f : ℕ)
    → ((g : ℕ) (function : Function) → g < f → function_at m g ≡ Some function → P function)
    → ((function : Function) → function_at m f ≡ Some function → P function) → (g : ℕ) (function : Function) → g < f + 1
    → function_at m g ≡ Some function → P function
functions_more m P f before here g function lt e = elim (below_or_at g f lt) [
  | inl less ↦ before g function less e
  | inr at ↦ here function (subst (λ n. function_at m n ≡ Some function) at e)
]

pub first_out_is : (m : Module) (f pc : ℕ) → f < length m.functions
    → ((g : ℕ) (function : Function) → g < f → function_at m g ≡ Some function → AreInRangeTo m function (length function.code))
    → ((function : Function) → function_at m f ≡ Some function → IsOutAt m function pc) → IsFirstOut m f pc
first_out_is m f pc lt before out = let g = get_below m.functions f lt in
    record { before = before; function = g.0; is_function = g.1; out = out g.0 g.1 }

pub first_without_is : (m : Module) (f : ℕ) → f < length m.functions
    → ((g : ℕ) (function : Function) → g < f → function_at m g ≡ Some function → HasAssignment m function)
    → ((function : Function) → function_at m f ≡ Some function → HasAssignment m function → ⊥) → IsFirstWithout m f
first_without_is m f lt before without = let g = get_below m.functions f lt in
    record { before = before; function = g.0; is_function = g.1; without = without g.0 g.1 }

pub function_there : (m : Module) (f : ℕ) (P : Function → Type 0) → f < length m.functions
    → ((function : Function) → function_at m f ≡ Some function → P function) → (function : Function) × (function_at m f ≡ Some function) × P function
function_there m f P lt h = let g = get_below m.functions f lt in (g.0, g.1, h g.0 g.1)

pub all_in_range : (m : Module) (n : ℕ) → length m.functions ≤ n
    → ((g : ℕ) (function : Function) → g < n → function_at m g ≡ Some function → AreInRangeTo m function (length function.code)) → AreInRange m
all_in_range m n le h f pc function instr e i =
    let lt = slice_get_within m.functions f function e in
    h f function (omega arith) e pc instr (slice_get_within function.code pc instr i) i

pub all_functions : (m : Module) (P : Function → Type 0) (n : ℕ) → length m.functions ≤ n
    → ((g : ℕ) (function : Function) → g < n → function_at m g ≡ Some function → P function) → (f : ℕ) (function : Function)
    → function_at m f ≡ Some function → P function
all_functions m P n le h f function e = let lt = slice_get_within m.functions f function e in h f function (omega arith) e

pub least_assigns : (m : Module) (function : Function) → HasLeast m function → HasAssignment m function
least_assigns m function least = (least.0, least.1.consistent)

-- ---- functions and instructions

pub function_fits : (m : Module) (f : ℕ) (function : Function) → FitsImage m → function_at m f ≡ Some function
    → FitsFunction m.version (length m.classes) function
function_fits m f function fits e = all_at (FitsFunction m.version (length m.classes)) m.functions f function fits.functions.2 e

-- an instruction of a function, by its number
instr_of : (m : Module) (f pc : ℕ) (o : Option Function) (i : Instr) → function_at m f ≡ o → instr_in o pc ≡ Some i
    → (function : Function) × (function_at m f ≡ Some function) × (slice_get function.code pc ≡ Some i)
instr_of m f pc None i e g = absurd cc
instr_of m f pc (Some function) i e g = (function, e, g)

-- ---- what an instruction names

-- an operand that is there, by what its form says that it is
pub there_as : (m : Module) (f : Function) (i : Instr) (o p : Operand) (n : ℕ) → o ≡ p → IsThere m f i o n → IsThere m f i p n
there_as m f i o p n e h = subst (λ q. IsThere m f i q n) e h

result_register : (f : Function) (o : Option Slot) (n : ℕ) → f.registers ≤ 64 → IsResultRegister f o n → IsResultNamed o n
result_register f None n le h = tt
result_register f (Some slot) n le h = omega (arith, h)

-- the register of a call's result
call_result : (o : Op) (m : Module) (f : Function) (i : Instr) → is_call o ≡ true → f.registers ≤ 64 → i.op ≡ o → IsThere m f i (form_of i.op).a i.a
    → IsResultNamed (result_of (function_at m i.x)) i.a
call_result op.Call m f i c le e h = result_register f (result_of (function_at m i.x)) i.a le
    (subst (λ o. IsResultRegister f (result_for m f i o) i.a) e (subst (λ o. IsThere m f i (form_of o).a i.a) e h))
call_result op.At m f i c le e h = result_register f (result_of (function_at m i.x)) i.a le
    (subst (λ o. IsResultRegister f (result_for m f i o) i.a) e (subst (λ o. IsThere m f i (form_of o).a i.a) e h))
call_result _ m f i c le e h = absurd cc

named_in : (m : Module) (f : Function) (i : Instr) → FitsImage m → FitsFunction m.version (length m.classes) f → IsInRange m f i → IsNamed m i
named_in m f i image fits r = record {
  small = record {
    class = λ e. (let h : i.x < length m.classes = there_as m f i (form_of i.op).x operand.Class i.x e r.x in omega (arith, image.classes));
    place = λ e. (let h : i.x < m.least_places = there_as m f i (form_of i.op).x operand.Place i.x e r.x in omega (arith, image.least_places.1));
  };
  a = λ e. (let h : i.a < f.registers = there_as m f i (form_of i.op).a operand.Register i.a e r.a in omega (arith, fits.registers.1));
  result = λ e. call_result i.op m f i e fits.registers.1 refl r.a;
}

-- all that the instructions of an image's function name is there
pub has_names : (m : Module) (f : ℕ) → FitsImage m → AreInRange m → HasNames m f
has_names m f fits range pc i is =
    let g = instr_of m f pc (function_at m f) i refl is in
    named_in m g.0 i fits (function_fits m f g.0 fits g.1) (range f pc g.0 i g.1 g.2)

-- the same of one function, by itself
pub names_in : (m : Module) (f : ℕ) → FitsImage m → ((function : Function) → function_at m f ≡ Some function
    → AreInRangeTo m function (length function.code)) → HasNames m f
names_in m f fits range pc i is =
    let g = instr_of m f pc (function_at m f) i refl is in
    named_in m g.0 i fits (function_fits m f g.0 fits g.1) (range g.0 g.1 pc i (slice_get_within g.0.code pc i g.2) g.2)

-- ---- the longest function

pub length_more : (m : Module) (f longest len : ℕ) → ((g : ℕ) → g < f → length (code_at m g) ≤ longest) → len ≡ length (code_at m f) → (g : ℕ)
    → g < f + 1 → length (code_at m g) ≤ max longest len
length_more m f longest len before here g lt = elim (below_or_at g f lt) [
  | inl less ↦ (let h : length (code_at m g) ≤ longest = before g less in omega arith)
  | inr at ↦ (let h : length (code_at m g) ≡ len = ap (λ n. length (code_at m n)) at ∙ sym here in omega arith)
]

pub length_one : (m : Module) (f longest len : ℕ) → (g : ℕ) × (length (code_at m g) ≡ longest) → len ≡ length (code_at m f)
    → (g : ℕ) × (length (code_at m g) ≡ max longest len)
length_one m f longest len before here = elim (cases_lt longest len) [
  | inl lt ↦ (f, omega (arith, here))
  | inr ge ↦ (before.0, omega (arith, before.1))
]

pub all_lengths : (m : Module) (n longest : ℕ) → length m.functions ≤ n → ((g : ℕ) → g < n → length (code_at m g) ≤ longest) → (g : ℕ)
    → length (code_at m g) ≤ longest
all_lengths m n longest le h g = elim (cases_lt g n) [
  | inl lt ↦ h g lt
  | inr ge ↦ (let e : length (code_at m g) ≡ 0 = ap (λ o. length (code_in o)) (slice_get_past m.functions g (omega arith)) in omega arith)
]

-- ---- what a certificate says of an instruction

pub fetched_in_range : (m : Module) (f pc : ℕ) (i : Instr) → AreInRange m → instr_at m f pc ≡ Some i → (function : Function)
    → function_at m f ≡ Some function → IsInRange m function i
fetched_in_range m f pc i range is function e = range f pc function i e (in_function m f pc function i e is)

pub fetched_follows : (m : Module) (bounds : List ℕ) (f pc : ℕ) (i : Instr) → bounds_of m ≡ Ok bounds → instr_at m f pc ≡ Some i → i.op ≢ op.Ret
    → pc + 1 < length (code_at m f)
fetched_follows m bounds f pc i e is ne =
    let g = instr_of m f pc (function_at m f) i refl is in
    let b = bounds_each m bounds f g.0 e g.1 in
    subst (λ o. pc + 1 < length (code_in o)) (sym g.1) (has_next g.0.code pc i b.2.1 g.2 ne)

pub bound_below : (m : Module) (bounds : List ℕ) (f : ℕ) → bounds_of m ≡ Ok bounds → f < length m.functions → f < length bounds
bound_below m bounds f e lt =
    let g = get_below m.functions f lt in
    let b = bounds_each m bounds f g.0 e g.1 in
    slice_get_within bounds f b.0 b.1
