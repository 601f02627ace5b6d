-- A ready activity moves or goes wrong: for each operation, what it asks is there, or its lack is a cause.
use Rattle.std.proofs.Common.{◌≡◌, ◌⊎◌, ℕ, ℤ, pos, ◌<◌, List, [], ◌∷◌, length, replicate, Option, Some, None, refl, sym, ap, subst, ◌∙◌, inl, inr}
use Rattle.std.specs.Prelude.{slice_get, slice_set}
use Rattle.std.specs.Int.{int_rem_euclid}
use Rattle.std.proofs.lemmas.Option.{slice_get_within}
use Rattle.std.proofs.lemmas.Bool.{cases_eq}
use Rattle.x10_kinds.specs.declared.kind.Kind.{Kind}
use Rattle.x10_code.specs.declared.op.Op.{Op}
use Rattle.x10_code.specs.declared.op.Op.TheVariants as op
use Rattle.x10_code.specs.declared.instr.Instr.{Instr}
use Rattle.x10_code.specs.Table.{form_of}
use Rattle.x10_model.specs.Maps.{IsIn}
use Rattle.x10_model.specs.Modules.{Function}
use Rattle.x10_model.specs.declared.slot.Slot.{Slot}
use Rattle.x10_model.specs.Ranges.{function_at, instr_at, IsThere, IsInRange, parameters_of, result_of, fields_of}
use Rattle.x10_model.specs.Values.{Value, Int, Place, Text, Rail, Object, Null, Ref, Fields, Bytes, Cells, IsOfKind}
use Rattle.x10_model.specs.Signatures.{FitSlots}
use Rattle.x10_model.specs.Copies.{Snapshot, Captures}
use Rattle.x10_model.specs.Places as places
use Rattle.x10_model.specs.Places.{Setting, CallFrame, Origin, Stay, Export, Message, Spawn, Shift, Back, innermost, Effect, Waits, Works, Begins, Spawns, Shifts, Opens, Ends, with_stay, goes, next, writes}
use Rattle.x10_model.specs.Moves.{Situation, Holds, Passes, GivesBack, SendsBack, Returns, as_list, resumed, with_cell, MakesRail, SetsByte, Does}
use Rattle.x10_model.specs.Results.{place_of, line_of, index_of}
use Rattle.x10_model.specs.Wrong.{Want, AnInt, APlace, AText, ARail, AnObject, AReference, AnIntOrText, AnObjectOrNull, APlaceOrReference, Meets, asked, IsTarget, IsDetached, IsFieldOwner, IsWrongAt, operand, argument, result_dropped, no_field, put_field, away, no_export, finish_open, no_call}
use Rattle.x10_model.specs.Laws.{IsSent, HasRoom}
use Rattle.x10_model.proofs.Found.{Met}
use Rattle.x10_model.proofs.Decided.{and_then, get_below, met_or_not, slots_or_not, kind_or_not}
use Rattle.x10_model.proofs.Lists.{same_some, none_some}

-- the operation can be done in the situation
abbrev pub Able : Op → Situation → Type 0
Able o s = (new : places.Place) × (effect : Effect) × Does o s new effect

abbrev pub Result : Op → Situation → Type 0
Result o s = Able o s ⊎ IsWrongAt s

-- ---- asking registers

pub ask : (o : Op) (s : Situation) → s.instr.op ≡ o → (r : ℕ) (want : Want) → IsIn (r, want) (asked o s.instr) → Met s r want ⊎ IsWrongAt s
ask o s e r want m = elim (met_or_not s r want) [
  | inl h ↦ inl h
  | inr never ↦ inr (operand r want (subst (λ p. IsIn (r, want) (asked p s.instr)) (sym e) m) never)
]

pub is_int : (cells : Cells) (v : Value) → Meets cells AnInt v → (z : ℤ) × (v ≡ Int z)
is_int cells (Int z) m = (z, refl)
is_int cells (Place p) m = absurd m
is_int cells (Text t) m = absurd m
is_int cells (Rail r) m = absurd m
is_int cells (Object r) m = absurd m
is_int cells Null m = absurd m
is_int cells (Ref home id class) m = absurd m

pub is_place : (cells : Cells) (v : Value) → Meets cells APlace v → (p : ℕ) × (v ≡ Place p)
is_place cells (Place p) m = (p, refl)
is_place cells (Int z) m = absurd m
is_place cells (Text t) m = absurd m
is_place cells (Rail r) m = absurd m
is_place cells (Object r) m = absurd m
is_place cells Null m = absurd m
is_place cells (Ref home id class) m = absurd m

pub is_text : (cells : Cells) (v : Value) → Meets cells AText v → (t : List ℕ) × (v ≡ Text t)
is_text cells (Text t) m = (t, refl)
is_text cells (Int z) m = absurd m
is_text cells (Place p) m = absurd m
is_text cells (Rail r) m = absurd m
is_text cells (Object r) m = absurd m
is_text cells Null m = absurd m
is_text cells (Ref home id class) m = absurd m

pub is_rail : (cells : Cells) (v : Value) → Meets cells ARail v → (r : ℕ) × (bytes : List ℕ) × (v ≡ Rail r) × (cells r ≡ Some (Bytes bytes))
is_rail cells (Rail r) m = (r, m.0, refl, m.1)
is_rail cells (Int z) m = absurd m
is_rail cells (Place p) m = absurd m
is_rail cells (Text t) m = absurd m
is_rail cells (Object r) m = absurd m
is_rail cells Null m = absurd m
is_rail cells (Ref home id class) m = absurd m

pub is_object : (cells : Cells) (v : Value) → Meets cells AnObject v
    → (r class : ℕ) × (fields : List Value) × (v ≡ Object r) × (cells r ≡ Some (Fields class fields))
is_object cells (Object r) m = (r, m.0, m.1.0, refl, m.1.1)
is_object cells (Int z) m = absurd m
is_object cells (Place p) m = absurd m
is_object cells (Text t) m = absurd m
is_object cells (Rail r) m = absurd m
is_object cells Null m = absurd m
is_object cells (Ref home id class) m = absurd m

pub is_ref : (cells : Cells) (v : Value) → Meets cells AReference v → (home id class : ℕ) × (v ≡ Ref home id class)
is_ref cells (Ref home id class) m = (home, id, class, refl)
is_ref cells (Int z) m = absurd m
is_ref cells (Place p) m = absurd m
is_ref cells (Text t) m = absurd m
is_ref cells (Rail r) m = absurd m
is_ref cells (Object r) m = absurd m
is_ref cells Null m = absurd m

pub is_placed : (cells : Cells) (v : Value) → Meets cells APlaceOrReference v → (p : ℕ) × (place_of v ≡ Some p)
is_placed cells (Place p) m = (p, refl)
is_placed cells (Ref home id class) m = (home, refl)
is_placed cells (Int z) m = absurd m
is_placed cells (Text t) m = absurd m
is_placed cells (Rail r) m = absurd m
is_placed cells (Object r) m = absurd m
is_placed cells Null m = absurd m

pub is_line : (cells : Cells) (v : Value) → Meets cells AnIntOrText v → (line : places.Line) × (line_of v ≡ Some line)
is_line cells (Int z) m = (places.Number z, refl)
is_line cells (Text t) m = (places.Words t, refl)
is_line cells (Place p) m = absurd m
is_line cells (Ref home id class) m = absurd m
is_line cells (Rail r) m = absurd m
is_line cells (Object r) m = absurd m
is_line cells Null m = absurd m

pub is_object_or_null : (cells : Cells) (v : Value) → Meets cells AnObjectOrNull v → ((r : ℕ) × (v ≡ Object r)) ⊎ (v ≡ Null)
is_object_or_null cells (Object r) m = inl (r, refl)
is_object_or_null cells Null m = inr refl
is_object_or_null cells (Int z) m = absurd m
is_object_or_null cells (Place p) m = absurd m
is_object_or_null cells (Text t) m = absurd m
is_object_or_null cells (Rail r) m = absurd m
is_object_or_null cells (Ref home id class) m = absurd m

pub holds : (s : Situation) (r : ℕ) (v w : Value) → Holds s r v → v ≡ w → Holds s r w
holds s r v w h e = h ∙ ap Some e

pub ask_int : (o : Op) (s : Situation) → s.instr.op ≡ o → (r : ℕ) → IsIn (r, AnInt) (asked o s.instr) → ((z : ℤ) × Holds s r (Int z)) ⊎ IsWrongAt s
ask_int o s e r m = and_then (ask o s e r AnInt m) (λ h. let i = is_int s.place.cells h.0 h.2 in inl (i.0, holds s r h.0 (Int i.0) h.1 i.1))

pub ask_place : (o : Op) (s : Situation) → s.instr.op ≡ o → (r : ℕ) → IsIn (r, APlace) (asked o s.instr)
    → ((p : ℕ) × Holds s r (Place p)) ⊎ IsWrongAt s
ask_place o s e r m = and_then (ask o s e r APlace m) (λ h. let i = is_place s.place.cells h.0 h.2 in inl (i.0, holds s r h.0 (Place i.0) h.1 i.1))

pub ask_text : (o : Op) (s : Situation) → s.instr.op ≡ o → (r : ℕ) → IsIn (r, AText) (asked o s.instr)
    → ((t : List ℕ) × Holds s r (Text t)) ⊎ IsWrongAt s
ask_text o s e r m = and_then (ask o s e r AText m) (λ h. let i = is_text s.place.cells h.0 h.2 in inl (i.0, holds s r h.0 (Text i.0) h.1 i.1))

pub ask_rail : (o : Op) (s : Situation) → s.instr.op ≡ o → (r : ℕ) → IsIn (r, ARail) (asked o s.instr)
    → ((k : ℕ) × (bytes : List ℕ) × Holds s r (Rail k) × (s.place.cells k ≡ Some (Bytes bytes))) ⊎ IsWrongAt s
ask_rail o s e r m = and_then (ask o s e r ARail m) (λ h. let i = is_rail s.place.cells h.0 h.2 in
    inl (i.0, i.1, holds s r h.0 (Rail i.0) h.1 i.2, i.3))

pub ask_object : (o : Op) (s : Situation) → s.instr.op ≡ o → (r : ℕ) → IsIn (r, AnObject) (asked o s.instr)
    → ((k class : ℕ) × (fields : List Value) × Holds s r (Object k) × (s.place.cells k ≡ Some (Fields class fields))) ⊎ IsWrongAt s
ask_object o s e r m = and_then (ask o s e r AnObject m) (λ h. let i = is_object s.place.cells h.0 h.2 in
    inl (i.0, i.1, i.2, holds s r h.0 (Object i.0) h.1 i.3, i.4))

pub ask_ref : (o : Op) (s : Situation) → s.instr.op ≡ o → (r : ℕ) → IsIn (r, AReference) (asked o s.instr)
    → ((home id class : ℕ) × Holds s r (Ref home id class)) ⊎ IsWrongAt s
ask_ref o s e r m = and_then (ask o s e r AReference m) (λ h. let i = is_ref s.place.cells h.0 h.2 in
    inl (i.0, i.1, i.2, holds s r h.0 (Ref i.0 i.1 i.2) h.1 i.3))

pub ask_placed : (o : Op) (s : Situation) → s.instr.op ≡ o → (r : ℕ) → IsIn (r, APlaceOrReference) (asked o s.instr)
    → ((v : Value) × (p : ℕ) × Holds s r v × (place_of v ≡ Some p)) ⊎ IsWrongAt s
ask_placed o s e r m = and_then (ask o s e r APlaceOrReference m) (λ h. let i = is_placed s.place.cells h.0 h.2 in inl (h.0, i.0, h.1, i.1))

-- ---- going on

-- the place after the activity went on with another call frame on top
abbrev pub on_at : Situation → places.Place → CallFrame → places.Place
on_at s place top = with_stay place s.key (Some (record s.stay { top = top }))

abbrev pub on : Situation → CallFrame → places.Place
on s top = on_at s s.place top

abbrev pub put : Situation → Value → CallFrame
put s v = writes s.stay.top s.instr.a v

-- what the operand x of a known operation names is there
pub x_there : (o : Op) (s : Situation) → s.instr.op ≡ o → IsInRange s.setting.program s.function s.instr
    → IsThere s.setting.program s.function s.instr (form_of o).x s.instr.x
x_there o s e range = subst (λ p. IsThere s.setting.program s.function s.instr (form_of p).x s.instr.x) e range.x

-- ---- calls

-- the function is there, and the arguments fit it
pub called : (o : Op) (s : Situation) (at : ℕ) → s.instr.op ≡ o → s.instr.x < length s.setting.program.functions → IsTarget s o at
    → ((callee : Function) × (vs : List Value) × Passes s at callee vs) ⊎ IsWrongAt s
called o s at e lt target =
    let found = get_below s.setting.program.functions s.instr.x lt in
    elim (slots_or_not s at s.instr.b found.0.parameters) [
      | inl h ↦ inl (found.0, h.0, record { callee_is = found.1; held = h.1; fit = h.2 })
      | inr never ↦ inr (argument at (subst (λ p. IsTarget s p at) (sym e) target)
          (λ vs h f. never vs h (subst (λ (g : Option Function). FitSlots (IsOfKind s.place.cells) at vs (parameters_of g)) found.1 f)))
    ]

pub detached_as : (o : Op) (s : Situation) (callee : Function) (slot : Option Slot) → s.instr.op ≡ o → IsDetached o
    → function_at s.setting.program s.instr.x ≡ Some callee → callee.result ≡ slot → (callee.result ≡ None) ⊎ IsWrongAt s
detached_as o s callee None e d f r = inl r
detached_as o s callee (Some slot) e d f r = inr (result_dropped slot (subst (λ p. IsDetached p) (sym e) d) (ap result_of f ∙ r))

pub detached : (o : Op) (s : Situation) (callee : Function) → s.instr.op ≡ o → IsDetached o → function_at s.setting.program s.instr.x ≡ Some callee
    → (callee.result ≡ None) ⊎ IsWrongAt s
detached o s callee e d f = detached_as o s callee callee.result e d f refl

-- ---- results

pub call_or_not : (o : Op) → (o ≡ op.Call) ⊎ (o ≡ op.Call → ⊥)
call_or_not op.Call = inl refl
call_or_not _ = inr (λ e. absurd cc)

-- a result that was given back fits, and so it can be captured
pub captured : (o : Op) (s : Situation) → HasRoom s → s.instr.op ≡ o → (vs : List Value) → IsSent s o vs
    → (graph : Snapshot) × Captures s.place.cells vs graph
captured o s room e vs sent = room.captures vs (subst (λ p. IsSent s p vs) (sym e) sent)

pub sends_back : (s : Situation) (room : HasRoom s) (v : Option Value) (back : Option Origin) → s.instr.op ≡ op.Ret → s.stay.callers ≡ []
    → s.stay.back ≡ back → GivesBack s s.function.result v → (message : Option Message) × SendsBack s v back message
sends_back s room v None e callers b g = (None, refl)
sends_back s room v (Some origin) e callers b g =
    let graph = captured op.Ret s room e (as_list v) (origin, v, callers, b, g, refl) in
    (Some (Back s.here origin.place origin.key graph.0), (graph.0, graph.1, refl))

abbrev pub CanReturn : Situation → List CallFrame → Option Value → Type 0
CanReturn s callers v = (new : places.Place) × (effect : Effect) × Returns s callers v new effect

pub ends_stay : (s : Situation) (room : HasRoom s) (v : Option Value) (finishes : List ℕ) → s.instr.op ≡ op.Ret → GivesBack s s.function.result v
    → s.stay.callers ≡ [] → s.stay.finishes ≡ finishes → CanReturn s [] v ⊎ IsWrongAt s
ends_stay s room v [] e g callers f =
    let message = sends_back s room v s.stay.back e callers refl g in
    inl (with_stay s.place s.key None, Ends s.stay.inherited message.0, (message.0, f, message.1, refl, refl))
ends_stay s room v (n ∷ ns) e g callers f = inr (finish_open n ns e callers f)

pub ends_call : (s : Situation) (v : Option Value) (caller : CallFrame) (callers : List CallFrame) (call : Option Instr) → s.instr.op ≡ op.Ret
    → s.stay.callers ≡ caller ∷ callers → instr_at s.setting.program caller.function caller.pc ≡ call → CanReturn s (caller ∷ callers) v ⊎ IsWrongAt s
ends_call s v caller callers None e cs none = inr (no_call caller callers e cs
    (λ call f o. none_some (instr_at s.setting.program caller.function caller.pc) call none f))
ends_call s v caller callers (Some call) e cs found = elim (call_or_not call.op) [
  | inl is ↦ inl (
    with_stay s.place s.key (Some (record s.stay { top = resumed caller call.a v; callers = callers })),
    Works,
    (call, found, is, refl, refl),
  )
  | inr never ↦ inr (no_call caller callers e cs (λ other f o.
      never (ap (λ (i : Instr). i.op) (same_some (instr_at s.setting.program caller.function caller.pc) call other found f) ∙ o)))
]

pub returns_to : (s : Situation) (room : HasRoom s) (v : Option Value) (callers : List CallFrame) → s.instr.op ≡ op.Ret
    → GivesBack s s.function.result v → s.stay.callers ≡ callers → CanReturn s callers v ⊎ IsWrongAt s
returns_to s room v [] e g cs = ends_stay s room v s.stay.finishes e g cs refl
returns_to s room v (caller ∷ callers) e g cs = ends_call s v caller callers (instr_at s.setting.program caller.function caller.pc) e cs refl

-- ---- objects

pub put_kind : (s : Situation) (r class : ℕ) (fields : List Value) (v : Value) (kinds : List Kind) (kind : Option Kind) → s.instr.op ≡ op.Put
    → Holds s s.instr.a (Object r) → s.place.cells r ≡ Some (Fields class fields) → Holds s s.instr.b v
    → s.instr.c < length fields → slice_get s.setting.program.classes class ≡ Some kinds → slice_get kinds s.instr.c ≡ kind → Result op.Put s
put_kind s r class fields v kinds None e h c hv lt k f =
    inr (put_field r class fields v e h c hv (λ kind g t. none_some (slice_get kinds s.instr.c) kind f
    (subst (λ (o : Option (List Kind)). slice_get (fields_of o) s.instr.c ≡ Some kind) k g)))
put_kind s r class fields v kinds (Some kind) e h c hv lt k f = elim (kind_or_not s.place.cells v kind) [
  | inl t ↦ inl (
    on_at s (with_cell s.place r (Fields class (slice_set fields s.instr.c v))) (next s.stay.top),
    Works,
    (r, class, fields, v, kinds, kind, h, c, hv, k, f, t, lt, (refl, refl)),
  )
  | inr never ↦ inr (put_field r class fields v e h c hv (λ other g t.
      never (subst (λ w. IsOfKind s.place.cells v w) (same_some (slice_get kinds s.instr.c) other kind
      (subst (λ (o : Option (List Kind)). slice_get (fields_of o) s.instr.c ≡ Some other) k g) f) t)))
]

pub put_class : (s : Situation) (r class : ℕ) (fields : List Value) (v : Value) (kinds : Option (List Kind)) → s.instr.op ≡ op.Put
    → Holds s s.instr.a (Object r) → s.place.cells r ≡ Some (Fields class fields) → Holds s s.instr.b v
    → s.instr.c < length fields → slice_get s.setting.program.classes class ≡ kinds → Result op.Put s
put_class s r class fields v None e h c hv lt k = inr (put_field r class fields v e h c hv
    (λ kind g t. none_some None kind refl (subst (λ (o : Option (List Kind)). slice_get (fields_of o) s.instr.c ≡ Some kind) k g)))
put_class s r class fields v (Some kinds) e h c hv lt k = put_kind s r class fields v kinds (slice_get kinds s.instr.c) e h c hv lt k refl

pub put_value : (s : Situation) (r class : ℕ) (fields : List Value) (v : Value) (old : Option Value) → s.instr.op ≡ op.Put
    → Holds s s.instr.a (Object r) → s.place.cells r ≡ Some (Fields class fields) → Holds s s.instr.b v → slice_get fields s.instr.c ≡ old
    → Result op.Put s
put_value s r class fields v None e h c hv f = inr (no_field r class fields (subst (λ o. IsFieldOwner s o r) (sym e) h) c f)
put_value s r class fields v (Some old) e h c hv f = put_class s r class fields v (slice_get s.setting.program.classes class) e h c hv
    (slice_get_within fields s.instr.c old f) refl

pub open_export : (s : Situation) (id class : ℕ) (found : Option Export) → s.instr.op ≡ op.Gopen → Holds s s.instr.b (Ref s.here id class)
    → slice_get s.place.exports id ≡ found → Result op.Gopen s
open_export s id class None e h f = inr (no_export id class e h
    (λ object g. none_some (slice_get s.place.exports id) (record { class = class; object = object }) f g))
open_export s id class (Some x) e h f = elim (cases_eq x.class class) [
  | inl same ↦ inl (
    on s (put s (Object x.object)),
    Works,
    (
      id,
      class,
      x.object,
      h,
      f ∙ ap (λ k. Some (record { class = k; object = x.object })) same,
      (refl, refl),
    ),
  )
  | inr never ↦ inr (no_export id class e h (λ object g. never
      (ap (λ (y : Export). y.class) (same_some (slice_get s.place.exports id) x (record { class = class; object = object }) f g))))
]

pub opened : (s : Situation) (home id class : ℕ) → s.instr.op ≡ op.Gopen → Holds s s.instr.b (Ref home id class) → Result op.Gopen s
opened s home id class e h = elim (cases_eq home s.here) [
  | inl same ↦ open_export s id class (slice_get s.place.exports id) e (subst (λ p. Holds s s.instr.b (Ref p id class)) same h) refl
  | inr never ↦ inr (away home id class e h never)
]

-- ---- rails and finishes

pub makes_rail : (s : Situation) (room : HasRoom s) (n : Option ℕ) → (new : places.Place) × (effect : Effect) × MakesRail s n new effect
makes_rail s room None = (on s (goes s.stay.top s.instr.x), Works, (refl, refl))
makes_rail s room (Some n) = (
  on_at s (with_cell s.place room.reference.0 (Bytes (replicate n 0))) (put s (Rail room.reference.0)),
  Works,
  (room.reference.0, room.reference.1, (refl, refl)),
)

pub sets_byte : (s : Situation) (r : ℕ) (bytes : List ℕ) (z w : ℤ) (byte : Option ℕ)
    → (new : places.Place) × (effect : Effect) × SetsByte s r bytes z w byte new effect
sets_byte s r bytes z w None = (on s (goes s.stay.top s.instr.x), Works, (refl, refl))
sets_byte s r bytes z w (Some byte) = (
  on_at s (with_cell s.place r (Bytes (slice_set bytes (index_of z) (index_of (int_rem_euclid w (pos 256))))))
      (next s.stay.top),
  Works,
  (refl, refl),
)
