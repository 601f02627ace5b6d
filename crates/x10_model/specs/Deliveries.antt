-- What a place does with a message that it takes in.
use Rattle.std.specs.Prelude.{◌≡◌, ℕ, true, false, List, [], ◌∷◌, Option, Some, None, slice_get}
use Rattle.x10_kinds.specs.declared.kind.Kind.{Kind}
use Rattle.x10_code.specs.declared.op.Op.TheVariants as op
use Rattle.x10_code.specs.declared.instr.Instr.{Instr}
use Rattle.x10_model.specs.Maps.{IsIn}
use Rattle.x10_model.specs.Modules.{Module, Function}
use Rattle.x10_model.specs.declared.slot.Slot.{Slot}
use Rattle.x10_model.specs.Ranges.{function_at, instr_at}
use Rattle.x10_model.specs.Values.{Value, Place, Ref, Cells}
use Rattle.x10_model.specs.Signatures.{FitsSlotAt, FitSlots, AreOfKinds}
use Rattle.x10_model.specs.Copies.{Node, Snapshot, IsOfKindIn, Arrives}
use Rattle.x10_model.specs.Places as places
use Rattle.x10_model.specs.declared.finish.Finish.{Finish}
use Rattle.x10_model.specs.Places.{Setting, Origin, Stay, Export, Message, Spawn, Shift, Back, with_stay}
use Rattle.x10_model.specs.Moves.{new_stay, resumed}

-- each object of the graph has the fields of its class
abbrev pub FitsClasses : Module → Snapshot → Type 0
FitsClasses m graph = (k : ℕ) (node : Node) → slice_get graph.nodes k ≡ Some node
    → (kinds : List Kind) × (slice_get m.classes node.class ≡ Some kinds)
    × AreOfKinds (IsOfKindIn graph) node.fields kinds

-- a global reference whose home is the place names an object that the place exported with that class
abbrev pub IsExported : ℕ → List Export → Value → Type 0
IsExported here exports (Ref home id class) = home ≡ here
    → (object : ℕ) × (slice_get exports id ≡ Some (record { class = class; object = object }))
IsExported here exports _ = Unit {0}

-- the same of each value in a graph
pub record NamesExports (here : ℕ) (exports : List Export) (graph : Snapshot) : Type 0 where
  pub roots : (v : Value) → IsIn v graph.roots → IsExported here exports v
  pub fields : (k : ℕ) (node : Node) (v : Value) → slice_get graph.nodes k ≡ Some node
      → IsIn v node.fields → IsExported here exports v

-- a graph that a place may take in
pub record FitsPlace (setting : Setting) (here : ℕ) (place : places.Place)
    (graph : Snapshot) : Type 0 where
  pub classes : FitsClasses setting.program graph
  pub exports : NamesExports here place.exports graph

-- the arguments in a message fit the function that it names
pub record FitsFunctionAt (setting : Setting) (here function : ℕ) (graph : Snapshot)
    (callee : Function) : Type 0 where
  pub callee_is : function_at setting.program function ≡ Some callee
  pub arguments : FitSlots (IsOfKindIn graph) here graph.roots callee.parameters

-- the roots of a result: one value that fits, or none
abbrev pub FitsResultAt : Snapshot → ℕ → Option Slot → List Value → Type 0
FitsResultAt graph from None [] = Unit {0}
FitsResultAt graph from (Some slot) (v ∷ []) = FitsSlotAt (IsOfKindIn graph) from v slot
FitsResultAt graph from _ _ = ⊥

abbrev pub first_of : List Value → Option Value
first_of [] = None
first_of (v ∷ vs) = Some v

-- a stay begins with the arguments that came, under a finish, with a key that no other stay has
pub record Begins (setting : Setting) (here : ℕ) (old : places.Place) (function : ℕ)
    (graph : Snapshot) (under : Finish) (back : Option Origin) (key : ℕ)
    (new : places.Place) : Type 0 where
  pub callee : Function
  pub fits_function : FitsFunctionAt setting here function graph callee
  pub no_result : back ≡ None → callee.result ≡ None
  pub fits_place : FitsPlace setting here old graph
  pub arguments : List Value
  pub cells : Cells
  pub arrives : Arrives old.cells graph arguments cells
  pub free : old.stays key ≡ None
  pub new_is : new ≡ with_stay (record old { cells = cells }) key
      (Some (new_stay function arguments under back))

-- the stay with the key waits for the function that it sent to the place from
pub record WaitsFor (setting : Setting) (place : places.Place) (key from : ℕ) (stay : Stay)
    (call : Instr) (callee : Function) : Type 0 where
  pub is_there : place.stays key ≡ Some stay
  pub is_away : stay.away ≡ true
  pub call_is : instr_at setting.program stay.top.function stay.top.pc ≡ Some call
  pub is_at : call.op ≡ op.At
  pub is_from : stay.top.registers call.c ≡ Some (Place from)
  pub callee_is : function_at setting.program call.x ≡ Some callee

-- a waiting stay goes on after its at, with the result that came
pub record Resumes (setting : Setting) (here : ℕ) (old : places.Place) (from : ℕ) (graph : Snapshot)
    (key : ℕ) (new : places.Place) : Type 0 where
  pub stay : Stay
  pub call : Instr
  pub callee : Function
  pub waits : WaitsFor setting old key from stay call callee
  pub fits_result : FitsResultAt graph from callee.result graph.roots
  pub fits_place : FitsPlace setting here old graph
  pub result : List Value
  pub cells : Cells
  pub arrives : Arrives old.cells graph result cells
  pub new_is : new ≡ with_stay (record old { cells = cells }) key
      (Some (record stay { top = resumed stay.top call.a (first_of result); away = false }))

-- the place here takes in a message: from old to new; key is that of the stay that begins or goes on
abbrev pub Receives : Setting → ℕ → places.Place → Message → ℕ → places.Place → Type 0
Receives setting here old (Spawn from to under function graph) key new = (to ≡ here)
    × Begins setting here old function graph under None key new
Receives setting here old (Shift from to waiting under function graph) key new = (to ≡ here)
    × Begins setting here old function graph under
    (Some (record { place = from; key = waiting })) key new
Receives setting here old (Back from to waiting graph) key new = (to ≡ here) × (key ≡ waiting)
    × Resumes setting here old from graph key new
