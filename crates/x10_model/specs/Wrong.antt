-- When a move or a delivery goes wrong: a list of causes of its own, apart from what moves do.
use Rattle.std.specs.Prelude.{◌≡◌, ◌≢◌, ℕ, false, List, [], ◌∷◌, Option, Some, None, slice_get}
use Rattle.x10_kinds.specs.declared.kind.Kind.{Kind}
use Rattle.x10_code.specs.declared.op.Op.{Op}
use Rattle.x10_code.specs.declared.op.Op.TheVariants as op
use Rattle.x10_code.specs.declared.instr.Instr.{Instr}
use Rattle.x10_model.specs.declared.finish.Finish.{Finish}
use Rattle.x10_model.specs.Maps.{IsIn}
use Rattle.x10_model.specs.Modules.{Function}
use Rattle.x10_model.specs.declared.slot.Slot.{Slot}
use Rattle.x10_model.specs.Ranges.{function_at, instr_at, IsInRange, parameters_of, result_of, fields_of}
use Rattle.x10_model.specs.Values.{Value, Int, Place, Text, Rail, Object, Null, Ref, Fields, Cells, IsOfKind, IsObjectOf, IsRail}
use Rattle.x10_model.specs.Signatures.{FitSlots, AreOfKinds}
use Rattle.x10_model.specs.Copies.{Snapshot, IsWhole}
use Rattle.x10_model.specs.Places as places
use Rattle.x10_model.specs.Places.{Setting, CallFrame, Stay, IsFree, Export, Message, Spawn, Shift, Back}
use Rattle.x10_model.specs.Moves.{Situation, Holds, HoldsFrom, GivesBack}
use Rattle.x10_model.specs.Deliveries.{FitsPlace, FitsFunctionAt, FitsResultAt, WaitsFor}

-- what an operation asks of a register
pub data Want : Type 0 where
  Anything AnInt APlace AText ARail AnObject AReference AnIntOrText AnObjectOrNull
      APlaceOrReference : Want

abbrev pub Meets : Cells → Want → Value → Type 0
Meets cells Anything v = Unit {0}
Meets cells AnInt (Int z) = Unit {0}
Meets cells APlace (Place p) = Unit {0}
Meets cells AText (Text t) = Unit {0}
Meets cells ARail (Rail r) = IsRail cells r
Meets cells AnObject (Object r) = (class : ℕ) × IsObjectOf cells r class
Meets cells AReference (Ref home id class) = Unit {0}
Meets cells AnIntOrText (Int z) = Unit {0}
Meets cells AnIntOrText (Text t) = Unit {0}
Meets cells AnObjectOrNull (Object r) = Unit {0}
Meets cells AnObjectOrNull Null = Unit {0}
Meets cells APlaceOrReference (Place p) = Unit {0}
Meets cells APlaceOrReference (Ref home id class) = Unit {0}
Meets cells _ _ = ⊥

-- the registers that an operation reads, beside arguments and results, with what it asks of each
abbrev pub asked : Op → Instr → List (ℕ × Want)
asked op.Move i = (i.b, Anything) ∷ []
asked op.Add i = (i.b, AnInt) ∷ (i.c, AnInt) ∷ []
asked op.Sub i = (i.b, AnInt) ∷ (i.c, AnInt) ∷ []
asked op.Mul i = (i.b, AnInt) ∷ (i.c, AnInt) ∷ []
asked op.Div i = (i.b, AnInt) ∷ (i.c, AnInt) ∷ []
asked op.Rem i = (i.b, AnInt) ∷ (i.c, AnInt) ∷ []
asked op.Lt i = (i.b, AnInt) ∷ (i.c, AnInt) ∷ []
asked op.Eq i = (i.b, AnInt) ∷ (i.c, AnInt) ∷ []
asked op.Jz i = (i.a, AnInt) ∷ []
asked op.Tlen i = (i.b, AText) ∷ []
asked op.Tcat i = (i.b, AText) ∷ (i.c, AText) ∷ []
asked op.Get i = (i.b, AnObject) ∷ []
asked op.Put i = (i.a, AnObject) ∷ (i.b, Anything) ∷ []
asked op.Ifobj i = (i.b, AnObjectOrNull) ∷ []
asked op.Rail i = (i.b, AnInt) ∷ []
asked op.Rget i = (i.b, ARail) ∷ (i.c, AnInt) ∷ []
asked op.Rset i = (i.a, ARail) ∷ (i.b, AnInt) ∷ (i.c, AnInt) ∷ []
asked op.Rlen i = (i.b, ARail) ∷ []
asked op.Placen i = (i.b, AnInt) ∷ []
asked op.Placei i = (i.b, APlace) ∷ []
asked op.Nextp i = (i.b, APlace) ∷ []
asked op.Home i = (i.b, AReference) ∷ []
asked op.Gnew i = (i.b, AnObject) ∷ []
asked op.Gopen i = (i.b, AReference) ∷ []
asked op.Ifhere i = (i.a, APlaceOrReference) ∷ []
asked op.Ifsame i = (i.a, APlaceOrReference) ∷ (i.b, APlaceOrReference) ∷ []
asked op.At i = (i.c, APlace) ∷ []
asked op.Ata i = (i.c, APlace) ∷ []
asked op.Print i = (i.a, AnIntOrText) ∷ []
asked _ i = []

-- the place where the arguments of a call are to fit: here, or where an at goes
abbrev pub IsTarget : Situation → Op → ℕ → Type 0
IsTarget s op.Call at = at ≡ s.here
IsTarget s op.Async at = at ≡ s.here
IsTarget s op.At at = Holds s s.instr.c (Place at)
IsTarget s op.Ata at = Holds s s.instr.c (Place at)
IsTarget s _ at = ⊥

-- the operations that begin an activity, which gives nothing back
abbrev pub IsDetached : Op → Type 0
IsDetached op.Async = Unit {0}
IsDetached op.Ata = Unit {0}
IsDetached _ = ⊥

-- the fields of an object that a get or a put speaks of
abbrev pub IsFieldOwner : Situation → Op → ℕ → Type 0
IsFieldOwner s op.Get reference = Holds s s.instr.b (Object reference)
IsFieldOwner s op.Put reference = Holds s s.instr.a (Object reference)
IsFieldOwner s _ reference = ⊥

-- Why the instruction of a situation goes wrong.
pub data IsWrongAt (s : Situation) : Type 0 where
  -- it names a register, slot, constant, class, function, place or instruction that isn't there
  out_of_range : (IsInRange s.setting.program s.function s.instr → ⊥) → IsWrongAt s
  -- a register that it reads holds nothing, or nothing of the kind that it asks for
  operand : (register : ℕ) (want : Want) → IsIn (register, want) (asked s.instr.op s.instr)
      → ((v : Value) → Holds s register v → Meets s.place.cells want v → ⊥) → IsWrongAt s
  -- the arguments don't fit the function
  argument : (at : ℕ) → IsTarget s s.instr.op at
      → ((vs : List Value) → HoldsFrom s s.instr.b vs
      → FitSlots (IsOfKind s.place.cells) at vs
      (parameters_of (function_at s.setting.program s.instr.x)) → ⊥)
      → IsWrongAt s
  -- an activity is begun with a function that gives something back
  result_dropped : (slot : Slot) → IsDetached s.instr.op
      → result_of (function_at s.setting.program s.instr.x) ≡ Some slot → IsWrongAt s
  -- the fields don't fit the class
  new_field : s.instr.op ≡ op.New
      → ((vs : List Value) → HoldsFrom s s.instr.b vs
      → AreOfKinds (IsOfKind s.place.cells) vs
      (fields_of (slice_get s.setting.program.classes s.instr.x)) → ⊥)
      → IsWrongAt s
  -- the object has no such field
  no_field : (reference class : ℕ) (fields : List Value) → IsFieldOwner s s.instr.op reference
      → s.place.cells reference ≡ Some (Fields class fields)
      → slice_get fields s.instr.c ≡ None → IsWrongAt s
  -- the value that is put doesn't fit the field's kind, or the class has no such field
  put_field : (reference class : ℕ) (fields : List Value) (v : Value) → s.instr.op ≡ op.Put
      → Holds s s.instr.a (Object reference)
      → s.place.cells reference ≡ Some (Fields class fields) → Holds s s.instr.b v
      → ((kind : Kind) → slice_get (fields_of (slice_get s.setting.program.classes class)) s.instr.c
      ≡ Some kind → IsOfKind s.place.cells v kind → ⊥)
      → IsWrongAt s
  -- a global reference is opened away from its home
  away : (home id class : ℕ) → s.instr.op ≡ op.Gopen → Holds s s.instr.b (Ref home id class)
      → home ≢ s.here → IsWrongAt s
  -- a global reference is opened that names no export of its class
  no_export : (id class : ℕ) → s.instr.op ≡ op.Gopen → Holds s s.instr.b (Ref s.here id class)
      → ((object : ℕ) → slice_get s.place.exports id
      ≡ Some (record { class = class; object = object }) → ⊥) → IsWrongAt s
  -- the result doesn't fit the function that ends
  result : s.instr.op ≡ op.Ret → ((v : Option Value) → GivesBack s s.function.result v → ⊥)
      → IsWrongAt s
  -- an activity's stay ends with a finish open
  finish_open : (number : ℕ) (finishes : List ℕ) → s.instr.op ≡ op.Ret → s.stay.callers ≡ []
      → s.stay.finishes ≡ number ∷ finishes → IsWrongAt s
  -- a function ends whose caller doesn't stand at a call
  no_call : (caller : CallFrame) (callers : List CallFrame) → s.instr.op ≡ op.Ret
      → s.stay.callers ≡ caller ∷ callers
      → ((call : Instr) → instr_at s.setting.program caller.function caller.pc ≡ Some call
      → call.op ≡ op.Call → ⊥) → IsWrongAt s
  -- no finish is open where one is to be left
  no_finish : s.instr.op ≡ op.Fine → s.stay.finishes ≡ [] → IsWrongAt s

-- The activity with a key is ready, no other is inside an atomic region, and its move goes wrong: it stands at no
-- instruction, or at one that goes wrong.
pub data IsWrong (setting : Setting) (here : ℕ) (place : places.Place) (key : ℕ) : Type 0 where
  no_instruction : (stay : Stay) → place.stays key ≡ Some stay → stay.away ≡ false
      → IsFree place.stays key → instr_at setting.program stay.top.function stay.top.pc ≡ None
      → IsWrong setting here place key
  wrong_at : (stay : Stay) (function : Function) (instr : Instr) → place.stays key ≡ Some stay
      → stay.away ≡ false → IsFree place.stays key
      → function_at setting.program stay.top.function ≡ Some function
      → slice_get function.code stay.top.pc ≡ Some instr
      → IsWrongAt (record {
        setting = setting;
        here = here;
        place = place;
        key = key;
        stay = stay;
        function = function;
        instr = instr;
      })
      → IsWrong setting here place key

abbrev pub graph_of : Message → Snapshot
graph_of (Spawn from to under function graph) = graph
graph_of (Shift from to waiting under function graph) = graph
graph_of (Back from to waiting graph) = graph

-- Why a message doesn't fit the place that takes it in.
pub data IsMisfit (setting : Setting) (here : ℕ) (place : places.Place) : Message → Type 0 where
  -- it is for another place
  not_here : (message : Message) → places.receiver message ≢ here
      → IsMisfit setting here place message
  -- its graph doesn't fit the classes, or names an export that isn't there
  graph : (message : Message) → (FitsPlace setting here place (graph_of message) → ⊥)
      → IsMisfit setting here place message
  -- a part of its graph is reached by nothing, or a reference leads to no part
  torn : (message : Message) → (IsWhole (graph_of message) → ⊥)
      → IsMisfit setting here place message
  -- its arguments don't fit its function, or there is none
  spawn : (from to : ℕ) (under : Finish) (function : ℕ) (g : Snapshot)
      → ((callee : Function) → FitsFunctionAt setting here function g callee → callee.result ≡ None
      → ⊥)
      → IsMisfit setting here place (Spawn from to under function g)
  shift : (from to waiting : ℕ) (under : Finish) (function : ℕ) (g : Snapshot)
      → ((callee : Function) → FitsFunctionAt setting here function g callee → ⊥)
      → IsMisfit setting here place (Shift from to waiting under function g)
  -- nobody waits for it, or its result doesn't fit the function that was waited for
  back : (from to waiting : ℕ) (g : Snapshot)
      → ((stay : Stay) (call : Instr) (callee : Function)
      → WaitsFor setting place waiting from stay call callee
      → FitsResultAt g from callee.result g.roots → ⊥)
      → IsMisfit setting here place (Back from to waiting g)
