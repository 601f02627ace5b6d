-- A move is not wrong: what each operation found is what the list of causes asks for.
use Rattle.std.proofs.Common.{◌≡◌, ℕ, List, [], ◌∷◌, Option, Some, refl, sym, subst}
use Rattle.std.specs.Prelude.{slice_get}
use Rattle.x10_kinds.specs.declared.kind.Kind.{Kind}
use Rattle.x10_code.specs.declared.op.Op.TheVariants as op
use Rattle.x10_code.specs.declared.instr.Instr.{Instr}
use Rattle.x10_model.specs.Modules.{Function}
use Rattle.x10_model.specs.Ranges.{function_at, instr_at, instr_in, IsInRange, fields_of}
use Rattle.x10_model.specs.Values.{Value, Object, Fields, IsOfKind}
use Rattle.x10_model.specs.Signatures.{AreOfKinds}
use Rattle.x10_model.specs.Places as places
use Rattle.x10_model.specs.Places.{Setting, Stay, CallFrame, Effect}
use Rattle.x10_model.specs.Moves.{Situation, Holds, HoldsFrom, Returns, Does, Moves}
use Rattle.x10_model.specs.Wrong.{asked, IsWrongAt, out_of_range, operand, argument, result_dropped, new_field, no_field, put_field, away, no_export, result, finish_open, no_call, no_finish, IsWrong, no_instruction, wrong_at}
use Rattle.x10_model.proofs.Lists.{same_some, none_some}
use Rattle.x10_model.proofs.Found.{nil_cons, cons_nil, head_is, met_in, held_object, held_ref, same_object}
use Rattle.x10_model.proofs.Operations.{asked_met, arguments_fit, no_result_dropped, field_found}

-- ---- what the causes speak of

-- a put found a field of the class that takes its value
put_fits : (s : Situation) (new : places.Place) (effect : Effect) (r c : ℕ) (fields : List Value) (v : Value) → Does op.Put s new effect
    → Holds s s.instr.a (Object r) → s.place.cells r ≡ Some (Fields c fields) → Holds s s.instr.b v
    → ((kind : Kind) → slice_get (fields_of (slice_get s.setting.program.classes c)) s.instr.c ≡ Some kind → IsOfKind s.place.cells v kind → ⊥) → ⊥
put_fits s new effect r c fields v d h e hv never =
    let same = same_object s.place.cells d.0 r d.1 c d.2 fields (held_object s s.instr.a d.0 r d.6 h) d.7 e in
    let class-is : slice_get s.setting.program.classes c ≡ Some d.4 = subst (λ k. slice_get s.setting.program.classes k ≡ Some d.4) same.0 d.9 in
    let kind-is : slice_get (fields_of (slice_get s.setting.program.classes c)) s.instr.c ≡ Some d.5 =
    subst (λ (o : Option (List Kind)). slice_get (fields_of o) s.instr.c ≡ Some d.5) (sym class-is) d.10 in
    never d.5 kind-is (subst (λ w. IsOfKind s.place.cells w d.5) (same_some (s.stay.top.registers s.instr.b) d.3 v d.8 hv) d.11)

new_fits : (s : Situation) (new : places.Place) (effect : Effect) → Does op.New s new effect
    → ((vs : List Value) → HoldsFrom s s.instr.b vs → AreOfKinds (IsOfKind s.place.cells) vs
    (fields_of (slice_get s.setting.program.classes s.instr.x)) → ⊥) → ⊥
new_fits s new effect d never = never d.1 d.4 (subst (λ (o : Option (List Kind)). AreOfKinds (IsOfKind s.place.cells) d.1 (fields_of o))
    (sym d.3) d.5)

exported : (s : Situation) (id class id' class' object : ℕ) → (s.here ≡ s.here) × (id ≡ id') × (class ≡ class')
    → slice_get s.place.exports id ≡ Some (record { class = class; object = object })
    → slice_get s.place.exports id' ≡ Some (record { class = class'; object = object })
exported s id class id' class' object same e = subst (λ k. slice_get s.place.exports k ≡ Some (record { class = class'; object = object })) same.1
    (subst (λ k. slice_get s.place.exports id ≡ Some (record { class = k; object = object })) same.2 e)

-- the stay that ends has no finish open
ret_closed : (s : Situation) (callers : List CallFrame) (r : Option Value) (new : places.Place) (effect : Effect) (n : ℕ) (ns : List ℕ) → callers ≡ []
    → Returns s callers r new effect → s.stay.finishes ≡ n ∷ ns → ⊥
ret_closed s [] r new effect n ns e d f = nil_cons s.stay.finishes n ns d.1 f
ret_closed s (c ∷ cs) r new effect n ns e d f = cons_nil c cs e

-- the caller that goes on stands at a call
ret_call : (s : Situation) (callers : List CallFrame) (r : Option Value) (new : places.Place) (effect : Effect) (caller : CallFrame)
    (rest : List CallFrame) → callers ≡ caller ∷ rest → Returns s callers r new effect
    → ((call : Instr) → instr_at s.setting.program caller.function caller.pc ≡ Some call → call.op ≡ op.Call → ⊥) → ⊥
ret_call s [] r new effect caller rest e d never = cons_nil caller rest (sym e)
ret_call s (c ∷ cs) r new effect caller rest e d never =
    let at = λ (k : CallFrame). (call : Instr) × (instr_at s.setting.program k.function k.pc ≡ Some call) × (call.op ≡ op.Call) in
    let found = subst at (head_is c caller cs rest e) (d.0, d.1, d.2) in
    never found.0 found.1 found.2

-- ---- all causes

not_wrong : (s : Situation) (new : places.Place) (effect : Effect) → IsInRange s.setting.program s.function s.instr → Does s.instr.op s new effect
    → IsWrongAt s → ⊥
not_wrong s new effect range d (out_of_range never) = never range
not_wrong s new effect range d (operand r want member never) =
    let met = met_in s (asked s.instr.op s.instr) r want (asked_met s.instr.op s new effect d) member in
    never met.0 met.1 met.2
not_wrong s new effect range d (argument at target never) =
    let passed = arguments_fit s.instr.op s new effect at d target in
    never passed.0 passed.1 passed.2
not_wrong s new effect range d (result_dropped slot detached e) = no_result_dropped s.instr.op s new effect slot d detached e
not_wrong s new effect range d (new_field e never) = new_fits s new effect (subst (λ o. Does o s new effect) e d) never
not_wrong s new effect range d (no_field r c fields owner e none) = field_found s.instr.op s new effect r c fields d owner e none
not_wrong s new effect range d (put_field r c fields v e h f hv never) =
    put_fits s new effect r c fields v (subst (λ o. Does o s new effect) e d) h f hv never
not_wrong s new effect range d (away home id class e h ne) =
    let g = subst (λ o. Does o s new effect) e d in
    ne (held_ref s s.instr.b home id class s.here g.0 g.1 h g.3).0
not_wrong s new effect range d (no_export id class e h never) =
    let g = subst (λ o. Does o s new effect) e d in
    never g.2 (exported s g.0 g.1 id class g.2 (let same = held_ref s s.instr.b s.here g.0 g.1 s.here id class g.3 h in (refl, same.1, same.2)) g.4)
not_wrong s new effect range d (result e never) =
    let g = subst (λ o. Does o s new effect) e d in
    never g.0 g.1
not_wrong s new effect range d (finish_open n ns e callers f) =
    let g = subst (λ o. Does o s new effect) e d in
    ret_closed s s.stay.callers g.0 new effect n ns callers g.2 f
not_wrong s new effect range d (no_call caller callers e f never) =
    let g = subst (λ o. Does o s new effect) e d in
    ret_call s s.stay.callers g.0 new effect caller callers f g.2 never
not_wrong s new effect range d (no_finish e none) =
    let g = subst (λ o. Does o s new effect) e d in
    nil_cons s.stay.finishes g.0 g.1 none g.2

-- ---- places

-- the situation of a move
abbrev pub situation : {setting : Setting} {here : ℕ} {old : places.Place} {key : ℕ} {new : places.Place} {effect : Effect}
    → Moves setting here old key new effect → Situation
situation {setting} {here} {old} {key} m = record {
  setting = setting;
  here = here;
  place = old;
  key = key;
  stay = m.stay;
  function = m.function;
  instr = m.instr;
}

there : (setting : Setting) (here key : ℕ) (old new : places.Place) (effect : Effect) (m : Moves setting here old key new effect) (stay : Stay)
    → old.stays key ≡ Some stay → m.stay ≡ stay
there setting here key old new effect m stay e = same_some (old.stays key) m.stay stay m.is_there e

instr_there : (setting : Setting) (here key : ℕ) (old new : places.Place) (effect : Effect) (m : Moves setting here old key new effect)
    → instr_at setting.program m.stay.top.function m.stay.top.pc ≡ Some m.instr
instr_there setting here key old new effect m = subst (λ (f : Option Function). instr_in f m.stay.top.pc ≡ Some m.instr)
    (sym m.function_is) m.instr_is

-- what is wrong at the situation of a move is what is wrong at the move's stay, function and instruction
abbrev pub At : Setting → ℕ → places.Place → ℕ → Stay → Function → Instr → Type 0
At setting here old key stay function instr = IsWrongAt (record
    { setting = setting; here = here; place = old; key = key; stay = stay; function = function; instr = instr })

pub moves_not_wrong : (setting : Setting) (here key : ℕ) (old new : places.Place) (effect : Effect) → Moves setting here old key new effect
    → IsWrong setting here old key → ⊥
moves_not_wrong setting here key old new effect m (no_instruction stay e ready free none) =
    let same = there setting here key old new effect m stay e in
    none_some (instr_at setting.program stay.top.function stay.top.pc) m.instr none
    (subst (λ (t : Stay). instr_at setting.program t.top.function t.top.pc ≡ Some m.instr) same (instr_there setting here key old new effect m))
moves_not_wrong setting here key old new effect m (wrong_at stay function instr e ready free f i w) =
    let same = there setting here key old new effect m stay e in
    let same_function : function ≡ m.function = same_some (function_at setting.program m.stay.top.function) function m.function
    (subst (λ (t : Stay). function_at setting.program t.top.function ≡ Some function) (sym same) f) m.function_is in
    let here-is : slice_get m.function.code m.stay.top.pc ≡ Some instr =
    subst (λ (t : Stay). slice_get m.function.code t.top.pc ≡ Some instr) (sym same)
    (subst (λ (g : Function). slice_get g.code stay.top.pc ≡ Some instr) same_function i) in
    let same_instr : instr ≡ m.instr = same_some (slice_get m.function.code m.stay.top.pc) instr m.instr here-is m.instr_is in
    let w1 : At setting here old key m.stay function instr = subst (λ (t : Stay). At setting here old key t function instr) (sym same) w in
    let w2 : At setting here old key m.stay m.function instr = subst (λ (g : Function). At setting here old key m.stay g instr) same_function w1 in
    let w3 : At setting here old key m.stay m.function m.instr = subst (λ (j : Instr). At setting here old key m.stay m.function j) same_instr w2 in
    not_wrong (record { setting = setting; here = here; place = old; key = key; stay = m.stay; function = m.function; instr = m.instr }) new effect
    m.in_range m.does w3
