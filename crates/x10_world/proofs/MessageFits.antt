-- A message in flight fits the place that stands for its receiver: the function that it names or the stay that waits for it
-- is there, its graph fits, and its finish is open.
use Rattle.std.proofs.Common.{◌≡◌, ℕ, List, [], ◌∷◌, Option, Some, None, refl, sym, ap, subst, ◌∙◌, eqb-true}
use Rattle.std.specs.Prelude.{IsTrue, slice_get, slice_index}
use Rattle.std.proofs.lemmas.Option.{same_Some}
use Rattle.slab.specs.Slab.{get}
use Rattle.x10_kinds.specs.declared.kind.Kind.{Kind}
use Rattle.x10_kinds.specs.declared.kind.Kind.TheVariants as kind
use Rattle.x10_kinds.specs.Kinds.{Fits}
use Rattle.x10_code.specs.declared.op.Op.TheVariants as op
use Rattle.x10_code.specs.declared.instr.Instr.{Instr}
use Rattle.x10_model.specs.declared.slot.Slot.{Slot}
use Rattle.x10_model.specs.Modules.{Module, Function}
use Rattle.x10_model.specs.Ranges.{function_at, instr_in, instr_at}
use Rattle.x10_model.specs.Assignments.{IsKind, Point, Permits}
use Rattle.x10_model.specs.Values.{Value, Int, Place, Text, Rail, Object, Null, Ref}
use Rattle.x10_model.specs.Signatures.{FitSlots}
use Rattle.x10_model.specs.Copies.{Snapshot, IsOfKindIn}
use Rattle.x10_model.specs.Places as machine
use Rattle.x10_model.specs.declared.finish.Finish.{Finish}
use Rattle.x10_model.specs.Places.{Stay, Message, Spawn, Shift, Back, receiver}
use Rattle.x10_model.specs.Deliveries.{FitsClasses, IsExported, FitsPlace, FitsFunctionAt, FitsResultAt}
use Rattle.x10_model.specs.Worlds.{World, IsUnder}
use Rattle.x10_model.specs.Wrong as wrong
use Rattle.x10_model.proofs.Lists.{none_some}
use Rattle.x10_heap.specs.Words.{Context, IsWordOf}
use Rattle.x10_copy.specs.References.{OfReference, OfReferences}
use Rattle.x10_copy.specs.Arrived.{FitsArrival}
use Rattle.x10_copy.proofs.Lawful.{arrivals_fit}
use Rattle.x10_finish.specs.Nesting.{stays_in, stays_of, IsHeld}
use Rattle.x10_place.specs.declared.call_frame.CallFrame.{CallFrame}
use Rattle.x10_place.specs.Stays.{StayState}
use Rattle.x10_place.specs.StandsFor.{PlaceState, setting_of, context_of, Assigned, StandsForFrame, StandsFor}
use Rattle.x10_place.specs.Receiving.{IsAwaited}
use Rattle.x10_place.specs.Sending.{slots_of}
use Rattle.x10_world.specs.Links.{WaitsAt, FitsReceiver}
use Rattle.x10_world.specs.StandsForWorld.{is_export, exported_at, far_in}

-- ---- a register that an at reads

place_only : (k : Kind) → Fits k kind.Place → k ≡ kind.Place
place_only kind.Int f = f
place_only kind.Place f = f
place_only kind.Text f = f
place_only kind.Rail f = f
place_only (kind.Obj c) f = f
place_only (kind.Opt c) f = f
place_only (kind.GRef c) f = f

same_place : (a b : ℕ) → Place a ≡ Place b → a ≡ b
same_place a b e = cc

-- where a call frame stands at an AT, the word of its place register is the place's number
place_word : (program : Module) (assigned : Assigned program) (x : Context) (f : CallFrame) (c : machine.CallFrame) (call : Instr) (to : ℕ)
    → StandsForFrame program assigned x f c → instr_at program f.function f.pc ≡ Some call → call.op ≡ op.At
    → c.registers call.c ≡ Some (Place to) → slice_index f.registers.items call.c ≡ to
place_word program assigned x f c call to h call-is at holds =
    sym (same_place to word (same_Some (Place to) (Place word) (sym holds ∙ value.1 ∙ ap Some value.2.1)))
  where
    word : ℕ
    word = slice_index f.registers.items call.c

    point : Instr → Point
    point i = record { program = program; function = h.function; pc = f.pc; instr = i }

    asks : IsKind h.state call.c kind.Place
    asks =
        let permitted = (assigned f.function h.function h.is_function).1.consistent.permitted f.pc h.state h.is_state in
        let found : slice_get h.function.code f.pc ≡ Some call = sym (ap (λ g. instr_in g f.pc) h.is_function) ∙ call-is in
        let same : permitted.0 ≡ call = same_Some permitted.0 call (sym permitted.2 ∙ found) in
        (subst (λ o. Permits o (point call) h.state permitted.1) at
        (subst (λ (i : Instr). Permits i.op (point i) h.state permitted.1) same permitted.3)).1.settles.1.place

    value : (v : Value) × (c.registers call.c ≡ Some v) × IsWordOf x kind.Place word v
    value = h.words call.c kind.Place (asks.1 ∙ ap Some (place_only asks.0 asks.2))

-- ---- results

result_slots : (s : Snapshot) (from : ℕ) (result : Option Slot) (roots : List Value) → FitsResultAt s from result roots
    → FitSlots (IsOfKindIn s) from roots (slots_of result)
result_slots s from None [] h = tt
result_slots s from None (v ∷ vs) h = absurd h
result_slots s from (Some slot) [] h = absurd h
result_slots s from (Some slot) (v ∷ []) h = (h, tt)
result_slots s from (Some slot) (v ∷ u ∷ vs) h = absurd h

-- ---- at a place that stands for its place of the world

export_found : (o : Option machine.Export) (class : ℕ) → IsTrue (is_export o class)
    → (object : ℕ) × (o ≡ Some (record { class = class; object = object }))
export_found None class h = absurd cc
export_found (Some e) class h = (e.object, ap (λ c. Some (record { class = c; object = e.object })) (eqb-true e.class class h))

-- what is known of a message that flies to a place
pub record IsFor (w : World) (p : PlaceState) (message : Message) : Type 0 where
  pub to_is : receiver message ≡ p.id
  pub classes : FitsClasses p.program (wrong.graph_of message)
  pub named : OfReferences (λ home id class. IsTrue (far_in w home id class)) (wrong.graph_of message)
  pub fits : FitsReceiver (setting_of p) (stays_of w.net) message
  pub held : (f : Finish) → IsUnder f message → IsHeld (stays_of w.net) f

module _ (w : World) (p : PlaceState) (m : machine.Place) (there : w.net.places p.id ≡ Some m) (old : StandsFor (far_in w) p m) where
  value_exported : (v : Value) → OfReference (λ home id class. IsTrue (far_in w home id class)) v → IsExported p.id m.exports v
  value_exported (Int z) h = tt
  value_exported (Place q) h = tt
  value_exported (Text t) h = tt
  value_exported (Rail r) h = tt
  value_exported (Object r) h = tt
  value_exported Null h = tt
  value_exported (Ref home id class) h = λ e. export_found (slice_get m.exports id) class
      (subst (λ o. IsTrue (exported_at o id class)) (ap w.net.places e ∙ there) h)

  fits_place : (s : Snapshot) → FitsClasses p.program s → OfReferences (λ home id class. IsTrue (far_in w home id class)) s
      → FitsPlace (setting_of p) p.id m s
  fits_place s classes named = record {
    classes = classes;
    exports = record {
      roots = λ v is. value_exported v (named.roots v is);
      fields = λ k node v at is. value_exported v (named.fields k node v at is);
    };
  }

  arrives : (s : Snapshot) (home : ℕ) (slots : List Slot) → FitsClasses p.program s
      → OfReferences (λ home id class. IsTrue (far_in w home id class)) s → FitSlots (IsOfKindIn s) home s.roots slots
      → FitsArrival p.program p.id home p.heap slots s
  arrives s home slots classes named fit = (arrivals_fit (setting_of p) m p.id home p.heap slots s old.exports.exports_are).1
      (fits_place s classes named, fit)

  -- the arguments fit the function
  function_fits : (to function : ℕ) (s : Snapshot) (known callee : Function) → to ≡ p.id → FitsClasses p.program s
      → OfReferences (λ home id class. IsTrue (far_in w home id class)) s → FitsFunctionAt (setting_of p) to function s known
      → function_at p.program function ≡ Some callee → FitsArrival p.program p.id p.id p.heap callee.parameters s
  function_fits to function s known callee to-is classes named fits callee-is =
      let same : known ≡ callee = same_Some known callee (sym fits.callee_is ∙ callee-is) in
      arrives s p.id callee.parameters classes named (subst (λ (f : Function). FitSlots (IsOfKindIn s) p.id s.roots f.parameters) same
      (subst (λ h. FitSlots (IsOfKindIn s) h s.roots known.parameters) to-is fits.arguments))

  pub spawn_fits : (from to function : ℕ) (under : Finish) (s : Snapshot) (callee : Function) → IsFor w p (Spawn from to under function s)
      → function_at p.program function ≡ Some callee → FitsArrival p.program p.id p.id p.heap callee.parameters s
  spawn_fits from to function under s callee h is = function_fits to function s h.fits.0 callee h.to_is h.classes h.named h.fits.1 is

  pub shift_fits : (from to waiting function : ℕ) (under : Finish) (s : Snapshot) (callee : Function)
      → IsFor w p (Shift from to waiting under function s) → function_at p.program function ≡ Some callee
      → FitsArrival p.program p.id p.id p.heap callee.parameters s
  shift_fits from to waiting function under s callee h is = function_fits to function s h.fits.0 callee h.to_is h.classes h.named h.fits.1 is

  -- the stay that waits for a result, and the machine's that it stands for
  module _ (from to waiting : ℕ) (s : Snapshot) (h : IsFor w p (Back from to waiting s)) where
    waits : WaitsAt p.program (stays_of w.net) to waiting from h.fits.0
    waits = h.fits.2

    its_stay : m.stays waiting ≡ Some waits.stay
    its_stay = sym (ap (λ o. stays_in o waiting) (ap w.net.places h.to_is ∙ there)) ∙ waits.is_there

    -- its call is the machine's
    its_call : (a : StayState) → get p.stays waiting ≡ Some a → instr_at p.program a.top.function a.top.pc ≡ Some waits.call
    its_call a e =
        let found = old.some waiting a e in
        let same : found.0 ≡ waits.stay = same_Some found.0 waits.stay (sym found.1 ∙ its_stay) in
        let function-is : a.top.function ≡ waits.stay.top.function = sym found.2.top.function_is ∙ ap (λ (t : Stay). t.top.function) same in
        let pc-is : a.top.pc ≡ waits.stay.top.pc = sym found.2.top.pc_is ∙ ap (λ (t : Stay). t.top.pc) same in
        ap (λ f. instr_at p.program f a.top.pc) function-is ∙ ap (λ k. instr_at p.program waits.stay.top.function k) pc-is ∙ waits.call_is

    its_callee : function_at p.program waits.call.x ≡ Some h.fits.1
    its_callee = ap (function_at p.program) waits.function_is ∙ h.fits.3

    awaited_by : (o : Option StayState) → get p.stays waiting ≡ o → IsAwaited p waiting from (slots_of h.fits.1.result)
    awaited_by None e = absurd (none_some (m.stays waiting) waits.stay (old.none waiting e) its_stay)
    awaited_by (Some a) e =
        let found = old.some waiting a e in
        let same : found.0 ≡ waits.stay = same_Some found.0 waits.stay (sym found.1 ∙ its_stay) in
        record {
          stay = a;
          is_there = e;
          is_away = sym found.2.away ∙ ap (λ (t : Stay). t.away) same ∙ waits.is_away;
          call = waits.call;
          call_is = its_call a e;
          is_at = waits.is_at;
          from_is = place_word p.program old.assigned (context_of (far_in w) p) a.top found.0.top waits.call from found.2.top
              (its_call a e) waits.is_at (ap (λ (t : Stay). t.top.registers waits.call.c) same ∙ waits.to_is);
          callee = h.fits.1;
          callee_is = its_callee;
          slots_are = refl;
        }

    pub awaited : IsAwaited p waiting from (slots_of h.fits.1.result)
    awaited = awaited_by (get p.stays waiting) refl

    -- whoever waits for it, the result fits
    pub back_fits : (slots : List Slot) → IsAwaited p waiting from slots → FitsArrival p.program p.id from p.heap slots s
    back_fits slots a =
        let call-is : a.call ≡ waits.call = same_Some a.call waits.call (sym a.call_is ∙ its_call a.stay a.is_there) in
        let callee-is : a.callee ≡ h.fits.1 = same_Some a.callee h.fits.1
        (sym a.callee_is ∙ ap (λ (i : Instr). function_at p.program i.x) call-is ∙ its_callee) in
        let slots-are : slots ≡ slots_of h.fits.1.result = a.slots_are ∙ ap (λ (f : Function). slots_of f.result) callee-is in
        subst (λ l. FitsArrival p.program p.id from p.heap l s) (sym slots-are)
        (arrives s from (slots_of h.fits.1.result) h.classes h.named (result_slots s from h.fits.1.result s.roots h.fits.4))
