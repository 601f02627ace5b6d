-- A message that arrives is taken in or is a misfit: whatever is asked of it is decided.
use Rattle.std.proofs.Common.{◌≡◌, ◌⊎◌, ℕ, Bool, true, false, List, [], ◌∷◌, length, Option, Some, None, refl, ap, ◌∙◌, inl, inr}
use Rattle.std.specs.Prelude.{slice_get}
use Rattle.std.proofs.lemmas.Bool.{cases_eq}
use Rattle.x10_kinds.specs.declared.kind.Kind.{Kind}
use Rattle.x10_kinds.specs.declared.kind.Kind.TheVariants as kind
use Rattle.x10_code.specs.declared.op.Op.{Op}
use Rattle.x10_code.specs.declared.op.Op.TheVariants as op
use Rattle.x10_code.specs.declared.instr.Instr.{Instr}
use Rattle.x10_model.specs.declared.finish.Finish.{Finish}
use Rattle.x10_model.specs.Maps.{IsIn}
use Rattle.x10_model.specs.declared.slot.Slot.{Slot}
use Rattle.x10_model.specs.Modules.{Module, Function}
use Rattle.x10_model.specs.Ranges.{function_at, instr_at}
use Rattle.x10_model.specs.Values.{Value, Int, Place, Text, Rail, Object, Null, Ref}
use Rattle.x10_model.specs.Signatures.{FitsSlotAt, FitSlots, AreOfKinds}
use Rattle.x10_model.specs.Copies.{Node, Snapshot, IsNodeOf, IsOfKindIn, IsWhole}
use Rattle.x10_model.specs.Places as places
use Rattle.x10_model.specs.Places.{Setting, Export, Origin, Stay, Message, Spawn, Shift, Back, receiver, with_stay}
use Rattle.x10_model.specs.Moves.{new_stay}
use Rattle.x10_model.specs.Deliveries.{FitsClasses, IsExported, NamesExports, FitsPlace, FitsFunctionAt, FitsResultAt, WaitsFor, Begins, Receives}
use Rattle.x10_model.specs.Wrong.{IsMisfit, graph_of, not_here, graph, torn, spawn, shift, back}
use Rattle.x10_model.specs.Laws.{HasRoomFor, ArrivedIsTakenOrMisfit}
use Rattle.x10_model.proofs.Decided.{below_or_not, both_or_not, flag_or_not}
use Rattle.x10_model.proofs.Choices.{OrNot, same_as, some_or_not, every_in, pairwise_or_not}
use Rattle.x10_model.proofs.WholeDecided.{whole_or_not}

-- ---- kinds

node_or_not : (s : Snapshot) (k class : ℕ) → OrNot (IsNodeOf s k class)
node_or_not s k class = some_or_not (slice_get s.nodes k) (λ node. node.class ≡ class) (λ node. cases_eq node.class class)

kind_or_not : (s : Snapshot) (v : Value) (k : Kind) → OrNot (IsOfKindIn s v k)
kind_or_not s (Int z) kind.Int = inl tt
kind_or_not s (Place p) kind.Place = inl tt
kind_or_not s (Text t) kind.Text = inl tt
kind_or_not s (Rail r) kind.Rail = below_or_not r (length s.rails)
kind_or_not s (Object r) (kind.Obj c) = node_or_not s r c
kind_or_not s (Object r) (kind.Opt c) = node_or_not s r c
kind_or_not s Null (kind.Opt c) = inl tt
kind_or_not s (Ref home id class) (kind.GRef c) = cases_eq class c
kind_or_not s _ _ = inr (λ h. h)

slot_or_not : (s : Snapshot) (at : ℕ) (v : Value) (slot : Slot) → OrNot (FitsSlotAt (IsOfKindIn s) at v slot)
slot_or_not s at v slot = same_as (λ p. record { kind = p.0; home = p.1 }) (λ f. (f.kind, f.home))
    (both_or_not (kind_or_not s v slot.kind) (flag_or_not at v slot.home_here))

slots_or_not : (s : Snapshot) (at : ℕ) (vs : List Value) (slots : List Slot) → OrNot (FitSlots (IsOfKindIn s) at vs slots)
slots_or_not s at vs slots = pairwise_or_not (FitsSlotAt (IsOfKindIn s) at) (slot_or_not s at) vs slots

-- ---- the graph

classes_or_not : (m : Module) (s : Snapshot) → OrNot (FitsClasses m s)
classes_or_not m s =
    same_as (λ all k node is. all node (k, is)) (λ fits node at. fits at.0 node at.1)
    (every_in (λ (node : Node). (kinds : List Kind) × (slice_get m.classes node.class ≡ Some kinds) × AreOfKinds (IsOfKindIn s) node.fields kinds)
    (λ node. some_or_not (slice_get m.classes node.class) (AreOfKinds (IsOfKindIn s) node.fields)
    (pairwise_or_not (IsOfKindIn s) (kind_or_not s) node.fields)) s.nodes)

export_is : (e : Export) (class : ℕ) → e.class ≡ class → Some e ≡ Some (record { class = class; object = e.object })
export_is e class same = ap (λ c. let x : Export = record { class = c; object = e.object } in Some x) same

class_is : (e : Export) (class object : ℕ) → e ≡ record { class = class; object = object } → e.class ≡ class
class_is e class object same = ap (λ (x : Export). x.class) same

named_or_not : (exports : List Export) (id class : ℕ) → OrNot
    ((object : ℕ) × (slice_get exports id ≡ Some (record { class = class; object = object })))
named_or_not exports id class =
    same_as (λ h. (h.0.object, h.1 ∙ export_is h.0 class h.2)) (λ h. (record { class = class; object = h.0 }, h.1, refl))
    (some_or_not (slice_get exports id) (λ (e : Export). e.class ≡ class) (λ e. cases_eq e.class class))

exported_or_not : (here : ℕ) (exports : List Export) (v : Value) → OrNot (IsExported here exports v)
exported_or_not here exports (Ref home id class) = elim (cases_eq home here) [
  | inr n ↦ inl (λ e. absurd (n e))
  | inl e ↦ same_as (λ h same. h) (λ f. f e) (named_or_not exports id class)
]
exported_or_not here exports _ = inl tt

exports_or_not : (here : ℕ) (exports : List Export) (s : Snapshot) → OrNot (NamesExports here exports s)
exports_or_not here exports s =
    same_as (λ h. record { roots = h.0; fields = λ k node v is t. h.1 node (k, is) v t }) (λ n. (n.roots, λ node at v t. n.fields at.0 node v at.1 t))
    (both_or_not (every_in (IsExported here exports) (exported_or_not here exports) s.roots)
    (every_in (λ (node : Node). (v : Value) → IsIn v node.fields → IsExported here exports v)
    (λ node. every_in (IsExported here exports) (exported_or_not here exports) node.fields) s.nodes))

place_or_not : (setting : Setting) (here : ℕ) (place : places.Place) (s : Snapshot) → OrNot (FitsPlace setting here place s)
place_or_not setting here place s =
    same_as (λ h. record { classes = h.0; exports = h.1 }) (λ f. (f.classes, f.exports))
    (both_or_not (classes_or_not setting.program s) (exports_or_not here place.exports s))

-- ---- the function that begins

abbrev FitsSome : Setting → ℕ → ℕ → Snapshot → (Function → Type 0) → Type 0
FitsSome setting here function s P = (callee : Function) × FitsFunctionAt setting here function s callee × P callee

function_or_not : (setting : Setting) (here function : ℕ) (s : Snapshot) (P : Function → Type 0) → ((callee : Function) → OrNot (P callee))
    → OrNot (FitsSome setting here function s P)
function_or_not setting here function s P each =
    same_as (λ h. (h.0, record { callee_is = h.1; arguments = h.2.0 }, h.2.1)) (λ h. (h.0, h.1.callee_is, (h.1.arguments, h.2)))
    (some_or_not (function_at setting.program function) (λ callee. FitSlots (IsOfKindIn s) here s.roots callee.parameters × P callee)
    (λ callee. both_or_not (slots_or_not s here s.roots callee.parameters) (each callee)))

none_or_not : (o : Option Slot) → OrNot (o ≡ None)
none_or_not None = inl refl
none_or_not (Some slot) = inr (λ e. absurd cc)

-- ---- the stay that waits

result_or_not : (s : Snapshot) (from : ℕ) (o : Option Slot) (vs : List Value) → OrNot (FitsResultAt s from o vs)
result_or_not s from None [] = inl tt
result_or_not s from None (v ∷ vs) = inr (λ h. h)
result_or_not s from (Some slot) [] = inr (λ h. h)
result_or_not s from (Some slot) (v ∷ []) = slot_or_not s from v slot
result_or_not s from (Some slot) (v ∷ w ∷ vs) = inr (λ h. h)

at_or_not : (o : Op) → OrNot (o ≡ op.At)
at_or_not op.At = inl refl
at_or_not _ = inr (λ e. absurd cc)

true_or_not : (b : Bool) → OrNot (b ≡ true)
true_or_not true = inl refl
true_or_not false = inr (λ e. absurd cc)

value_is : (p q : ℕ) → Some (Place p) ≡ Some (Place q) → p ≡ q
value_is p q e = cc

holds_or_not : (o : Option Value) (q : ℕ) → OrNot (o ≡ Some (Place q))
holds_or_not (Some (Place p)) q = same_as (ap (λ n. Some (Place n))) (value_is p q) (cases_eq p q)
holds_or_not _ q = inr (λ e. absurd cc)

abbrev IsAnswered : Setting → ℕ → Snapshot → Instr → Type 0
IsAnswered setting from s call = (callee : Function) × (function_at setting.program call.x ≡ Some callee) × FitsResultAt s from callee.result s.roots

abbrev Calls : Setting → ℕ → Snapshot → Stay → Instr → Type 0
Calls setting from s stay call = ((call.op ≡ op.At) × (stay.top.registers call.c ≡ Some (Place from))) × IsAnswered setting from s call

abbrev IsWaiting : Setting → ℕ → Snapshot → Stay → Type 0
IsWaiting setting from s stay = (stay.away ≡ true) × ((call : Instr) × (instr_at setting.program stay.top.function stay.top.pc ≡ Some call)
    × Calls setting from s stay call)

waiting_or_not : (setting : Setting) (from : ℕ) (s : Snapshot) (stay : Stay) → OrNot (IsWaiting setting from s stay)
waiting_or_not setting from s stay =
    both_or_not (true_or_not stay.away) (some_or_not (instr_at setting.program stay.top.function stay.top.pc) (Calls setting from s stay) (λ call.
    both_or_not (both_or_not (at_or_not call.op) (holds_or_not (stay.top.registers call.c) from))
    (some_or_not (function_at setting.program call.x) (λ callee. FitsResultAt s from callee.result s.roots)
    (λ callee. result_or_not s from callee.result s.roots))))

abbrev WaitsThere : Setting → places.Place → ℕ → ℕ → Snapshot → Type 0
WaitsThere setting place waiting from s = (stay : Stay) × (call : Instr) × (callee : Function) × WaitsFor setting place waiting from stay call callee
    × FitsResultAt s from callee.result s.roots

waits_or_not : (setting : Setting) (place : places.Place) (waiting from : ℕ) (s : Snapshot) → OrNot (WaitsThere setting place waiting from s)
waits_or_not setting place waiting from s =
    same_as (λ (stay, there, (is_away, (call, call_is, ((is_at, is_from), (callee, callee_is, fits))))). (
      stay,
      call,
      callee,
      record {
        is_there = there;
        is_away = is_away;
        call_is = call_is;
        is_at = is_at;
        is_from = is_from;
        callee_is = callee_is;
      },
      fits,
    ))
    (λ (stay, call, callee, w, fits). (stay, w.is_there, (w.is_away, (call, w.call_is, ((w.is_at, w.is_from), (callee, w.callee_is, fits))))))
    (some_or_not (place.stays waiting) (IsWaiting setting from s) (waiting_or_not setting from s))

-- ---- messages

abbrev IsTaken : Setting → ℕ → places.Place → Message → Type 0
IsTaken setting here old message = (key : ℕ) × (new : places.Place) × Receives setting here old message key new

begins : (setting : Setting) (here : ℕ) (old : places.Place) (function : ℕ) (g : Snapshot) (under : Finish) (origin : Option Origin)
    (room : HasRoomFor old g) (callee : Function) → FitsFunctionAt setting here function g callee
    → (origin ≡ None → callee.result ≡ None) → FitsPlace setting here old g → (whole : IsWhole g)
    → Begins setting here old function g under origin room.key.0
    (with_stay (record old { cells = (room.arrives whole).1 }) room.key.0 (Some (new_stay function (room.arrives whole).0 under origin)))
begins setting here old function g under origin room callee fits none place whole = record {
  callee = callee;
  fits_function = fits;
  no_result = none;
  fits_place = place;
  arguments = (room.arrives whole).0;
  cells = (room.arrives whole).1;
  arrives = (room.arrives whole).2;
  free = room.key.1;
  new_is = refl;
}

-- what reaches its place with a graph that fits and is whole
of_message : (setting : Setting) (here : ℕ) (old : places.Place) (message : Message) → HasRoomFor old (graph_of message) → receiver message ≡ here
    → FitsPlace setting here old (graph_of message) → IsWhole (graph_of message)
    → IsTaken setting here old message ⊎ IsMisfit setting here old message
of_message setting here old (Spawn from to under function g) room is_here place whole =
    elim (function_or_not setting here function g (λ callee. callee.result ≡ None) (λ callee. none_or_not callee.result)) [
      | inr none ↦ inr (spawn from to under function g (λ callee fits no_result. none (callee, fits, no_result)))
      | inl f ↦ inl (room.key.0, _, (is_here, begins setting here old function g under None room f.0 f.1 (λ e. f.2) place whole))
    ]
of_message setting here old (Shift from to waiting under function g) room is_here place whole =
    elim (function_or_not setting here function g (λ callee. Unit {0}) (λ callee. inl tt)) [
      | inr none ↦ inr (shift from to waiting under function g (λ callee fits. none (callee, fits, tt)))
      | inl f ↦ inl (
        room.key.0,
        _,
        (
          is_here,
          begins setting here old function g under (Some (record { place = from; key = waiting })) room f.0 f.1
              (λ e. absurd cc) place whole,
        ),
      )
    ]
of_message setting here old (Back from to waiting g) room is_here place whole =
    let a = room.arrives whole in
    elim (waits_or_not setting old waiting from g) [
      | inr none ↦ inr (back from to waiting g (λ stay call callee waits fits. none (stay, call, callee, waits, fits)))
      | inl (stay, call, callee, waits, fits) ↦ inl (
        waiting,
        _,
        (
          is_here,
          refl,
          record {
            stay = stay;
            call = call;
            callee = callee;
            waits = waits;
            fits_result = fits;
            fits_place = place;
            result = a.0;
            cells = a.1;
            arrives = a.2;
            new_is = refl;
          },
        ),
      )
    ]

pub taken_or_misfit : ArrivedIsTakenOrMisfit
taken_or_misfit setting here old message room = elim (cases_eq (receiver message) here) [
  | inr other ↦ inr (not_here message other)
  | inl is_here ↦ elim (place_or_not setting here old (graph_of message)) [
    | inr never ↦ inr (graph message never)
    | inl fits ↦ elim (whole_or_not (graph_of message)) [
      | inr never ↦ inr (torn message never)
      | inl whole ↦ of_message setting here old message room is_here fits whole
    ]
  ]
]
