-- A ready activity moves or goes wrong, wherever it stands; and a message that is taken in fits.
use Rattle.std.proofs.Common.{◌≡◌, ◌⊎◌, ℕ, ◌+◌, ◌≤◌, false, length, Option, Some, None, refl, ap, subst, ◌∙◌, inl, inr, arith}
use Rattle.std.specs.Prelude.{slice_get}
use Rattle.std.proofs.lemmas.Bool.{cases_lt, cases_eq}
use Rattle.x10_code.specs.declared.instr.Instr.{Instr}
use Rattle.x10_code.specs.declared.operands.Operand.{Operand}
use Rattle.x10_code.specs.declared.operands.Operand.TheVariants as operand
use Rattle.x10_code.specs.Table.{form_of}
use Rattle.x10_model.specs.Modules.{Module, Function}
use Rattle.x10_model.specs.declared.slot.Slot.{Slot}
use Rattle.x10_model.specs.Ranges.{function_at, instr_in, IsThere, IsResultRegister, IsInRange, result_for, argument_count}
use Rattle.x10_model.specs.Places as places
use Rattle.x10_model.specs.Places.{Setting, Stay, IsFree, Effect, Message, Spawn, Shift, Back}
use Rattle.x10_model.specs.Moves.{Situation, Moves}
use Rattle.x10_model.specs.Deliveries.{WaitsFor, Receives}
use Rattle.x10_model.specs.Wrong.{out_of_range, IsWrong, no_instruction, wrong_at, IsMisfit, not_here, graph, torn, spawn, shift, back}
use Rattle.x10_model.specs.Laws.{HasRoomAt}
use Rattle.x10_model.proofs.Decided.{below_or_not, both_or_not}
use Rattle.x10_model.proofs.Operations.{step}

-- ---- what an instruction names is there, or not

result_or_not : (f : Function) (slot : Option Slot) (n : ℕ) → IsResultRegister f slot n ⊎ (IsResultRegister f slot n → ⊥)
result_or_not f None n = inl tt
result_or_not f (Some slot) n = below_or_not n f.registers

first_or_not : (count n : ℕ) → (count ≡ 0 → n ≡ 0) ⊎ ((count ≡ 0 → n ≡ 0) → ⊥)
first_or_not count n = elim (cases_eq n 0) [
  | inl e ↦ inl (λ c. e)
  | inr n-not ↦ elim (cases_eq count 0) [ inl e ↦ inr (λ h. n-not (h e)) | inr c-not ↦ inl (λ e. absurd (c-not e)) ]
]

at_most_or_not : (m n : ℕ) → (m ≤ n) ⊎ (m ≤ n → ⊥)
at_most_or_not m n = elim (cases_lt n m) [ inl lt ↦ inr (λ le. omega arith) | inr le ↦ inl le ]

there_or_not : (m : Module) (f : Function) (i : Instr) (o : Operand) (n : ℕ) → IsThere m f i o n ⊎ (IsThere m f i o n → ⊥)
there_or_not m f i operand.Unused n = inl tt
there_or_not m f i operand.Register n = below_or_not n f.registers
there_or_not m f i operand.Result n = result_or_not f (result_for m f i i.op) n
there_or_not m f i operand.Arguments n = both_or_not (first_or_not (argument_count m i i.op) n)
    (at_most_or_not (n + argument_count m i i.op) f.registers)
there_or_not m f i operand.Slot n = below_or_not n f.loops
there_or_not m f i operand.Count n = inl tt
there_or_not m f i operand.Field n = inl tt
there_or_not m f i operand.Int n = below_or_not n (length m.ints)
there_or_not m f i operand.Text n = below_or_not n (length m.texts)
there_or_not m f i operand.Place n = below_or_not n m.least_places
there_or_not m f i operand.Class n = below_or_not n (length m.classes)
there_or_not m f i operand.Function n = below_or_not n (length m.functions)
there_or_not m f i operand.Target n = below_or_not n (length f.code)

pub range_or_not : (m : Module) (f : Function) (i : Instr) → IsInRange m f i ⊎ (IsInRange m f i → ⊥)
range_or_not m f i =
    elim (both_or_not (both_or_not (there_or_not m f i (form_of i.op).a i.a) (there_or_not m f i (form_of i.op).b i.b))
    (both_or_not (there_or_not m f i (form_of i.op).c i.c) (there_or_not m f i (form_of i.op).x i.x))) [
      | inl h ↦ inl (record { a = h.0.0; b = h.0.1; c = h.1.0; x = h.1.1 })
      | inr n ↦ inr (λ r. n ((r.a, r.b), (r.c, r.x)))
    ]

-- ---- ready activities

abbrev pub MovesOrWrong : Setting → ℕ → places.Place → ℕ → Type 0
MovesOrWrong setting here old key = ((new : places.Place) × (effect : Effect) × Moves setting here old key new effect) ⊎ IsWrong setting here old key

abbrev pub sited : Setting → ℕ → places.Place → ℕ → Stay → Function → Instr → Situation
sited setting here old key stay function instr = record {
  setting = setting;
  here = here;
  place = old;
  key = key;
  stay = stay;
  function = function;
  instr = instr;
}

with_instr : (setting : Setting) (here key : ℕ) (old : places.Place) (stay : Stay) (function : Function) (instr : Instr)
    → HasRoomAt setting here key old stay → old.stays key ≡ Some stay → stay.away ≡ false → IsFree old.stays key
    → function_at setting.program stay.top.function ≡ Some function → slice_get function.code stay.top.pc ≡ Some instr
    → MovesOrWrong setting here old key
with_instr setting here key old stay function instr room e ready free f i = elim (range_or_not setting.program function instr) [
  | inr never ↦ inr (wrong_at stay function instr e ready free f i (out_of_range never))
  | inl range ↦ elim (step instr.op (sited setting here old key stay function instr) refl range (room function instr f i)) [
    | inl h ↦ inl (
      h.0,
      h.1,
      record {
        stay = stay;
        function = function;
        instr = instr;
        is_there = e;
        is_ready = ready;
        is_free = free;
        function_is = f;
        instr_is = i;
        in_range = range;
        does = h.2;
      },
    )
    | inr w ↦ inr (wrong_at stay function instr e ready free f i w)
  ]
]

with_function : (setting : Setting) (here key : ℕ) (old : places.Place) (stay : Stay) (function : Function) (instr : Option Instr)
    → HasRoomAt setting here key old stay → old.stays key ≡ Some stay → stay.away ≡ false → IsFree old.stays key
    → function_at setting.program stay.top.function ≡ Some function → slice_get function.code stay.top.pc ≡ instr → MovesOrWrong setting here old key
with_function setting here key old stay function None room e ready free f i =
    inr (no_instruction stay e ready free (ap (λ g. instr_in g stay.top.pc) f ∙ i))
with_function setting here key old stay function (Some instr) room e ready free f i =
    with_instr setting here key old stay function instr room e ready free f i

with_stay_at : (setting : Setting) (here key : ℕ) (old : places.Place) (stay : Stay) (function : Option Function)
    → HasRoomAt setting here key old stay → old.stays key ≡ Some stay → stay.away ≡ false → IsFree old.stays key
    → function_at setting.program stay.top.function ≡ function → MovesOrWrong setting here old key
with_stay_at setting here key old stay None room e ready free f = inr (no_instruction stay e ready free (ap (λ g. instr_in g stay.top.pc) f))
with_stay_at setting here key old stay (Some function) room e ready free f =
    with_function setting here key old stay function (slice_get function.code stay.top.pc) room e ready free f refl

pub ready_is_able_or_wrong : (setting : Setting) (here key : ℕ) (old : places.Place) (stay : Stay) → HasRoomAt setting here key old stay
    → old.stays key ≡ Some stay → stay.away ≡ false → IsFree old.stays key → MovesOrWrong setting here old key
ready_is_able_or_wrong setting here key old stay room e ready free =
    with_stay_at setting here key old stay (function_at setting.program stay.top.function) room e ready free refl

-- ---- deliveries

pub received_fits : (setting : Setting) (here key : ℕ) (old new : places.Place) (message : Message) → Receives setting here old message key new
    → IsMisfit setting here old message → ⊥
received_fits setting here key old new (Spawn from to under function g) r (not_here message ne) = ne r.0
received_fits setting here key old new (Spawn from to under function g) r (graph message never) = never r.1.fits_place
received_fits setting here key old new (Spawn from to under function g) r (torn message never) = never r.1.arrives.copy.whole
received_fits setting here key old new (Spawn from to under function g) r (spawn from' to' under' function' g' never) =
    never r.1.callee r.1.fits_function (r.1.no_result refl)
received_fits setting here key old new (Shift from to waiting under function g) r (not_here message ne) = ne r.0
received_fits setting here key old new (Shift from to waiting under function g) r (graph message never) = never r.1.fits_place
received_fits setting here key old new (Shift from to waiting under function g) r (torn message never) = never r.1.arrives.copy.whole
received_fits setting here key old new (Shift from to waiting under function g) r (shift from' to' waiting' under' function' g' never) =
    never r.1.callee r.1.fits_function
received_fits setting here key old new (Back from to waiting g) r (not_here message ne) = ne r.0
received_fits setting here key old new (Back from to waiting g) r (graph message never) = never r.2.fits_place
received_fits setting here key old new (Back from to waiting g) r (torn message never) = never r.2.arrives.copy.whole
received_fits setting here key old new (Back from to waiting g) r (back from' to' waiting' g' never) =
    never r.2.stay r.2.call r.2.callee (subst (λ k. WaitsFor setting old k from r.2.stay r.2.call r.2.callee) r.1 r.2.waits) r.2.fits_result
