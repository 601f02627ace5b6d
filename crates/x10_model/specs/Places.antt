-- Places, the activities that work on them, finishes, and the messages between places.
use Rattle.std.specs.Prelude.{◌≡◌, ℕ, ℤ, ◌+◌, List, [], ◌∷◌, Bool, true, Option, Some}
use Rattle.x10_model.specs.declared.finish.Finish.{Finish}
use Rattle.x10_model.specs.Maps.{with_entry}
use Rattle.x10_model.specs.Modules.{Module}
use Rattle.x10_model.specs.Values.{Value, Cells}
use Rattle.x10_model.specs.Copies.{Snapshot}

-- what doesn't change in a run: the module, and how many places there are
pub record Setting : Type 0 where
  pub program : Module
  pub places : ℕ

-- the finish 0 of place 0
abbrev pub root : Finish
root = record { home = 0; number = 0 }

-- a function that is being executed, at the instruction pc
pub record CallFrame : Type 0 where
  pub function : ℕ
  pub pc : ℕ
  pub registers : ℕ → Option Value
  pub loops : ℕ → ℕ

-- the waiting stay that a result goes back to
pub record Origin : Type 0 where
  pub place : ℕ
  pub key : ℕ

-- One stay of an activity at a place: the function that it executes and those that called it, the finishes that it
-- opened and hasn't closed (the last one first), the finish that it inherited, whether it waits for an at, whether it is
-- inside an atomic region, and where its result goes if it was itself sent by an at.
pub record Stay : Type 0 where
  pub top : CallFrame
  pub callers : List CallFrame
  pub finishes : List ℕ
  pub inherited : Finish
  pub away : Bool
  pub inside : Bool
  pub back : Option Origin

-- a line of output
pub data Line : Type 0 where
  Number : ℤ → Line
  Words : List ℕ → Line

-- an object that a global reference names, with its class
pub record Export : Type 0 where
  pub class : ℕ
  pub object : ℕ

-- how many finishes a place opened is also the number of the next; the root counts as one that place 0 opened
pub record Place : Type 0 where
  pub cells : Cells
  pub exports : List Export
  pub stays : ℕ → Option Stay
  pub opened : ℕ
  pub lines : List Line

-- none of the stays but that with the key is inside an atomic region
abbrev pub IsFree : (ℕ → Option Stay) → ℕ → Type 0
IsFree stays key = (other : ℕ) (stay : Stay) → stays other ≡ Some stay → stay.inside ≡ true
    → other ≡ key

-- what one place sends to another: a new activity, an activity that shifts, or the result of one that shifted
pub data Message : Type 0 where
  Spawn : (from to : ℕ) (under : Finish) (function : ℕ) (graph : Snapshot) → Message
  Shift : (from to waiting : ℕ) (under : Finish) (function : ℕ) (graph : Snapshot) → Message
  Back : (from to waiting : ℕ) (graph : Snapshot) → Message

abbrev pub receiver : Message → ℕ
receiver (Spawn from to under function graph) = to
receiver (Shift from to waiting under function graph) = to
receiver (Back from to waiting graph) = to

-- the innermost finish of a stay at a place
abbrev pub innermost_of : ℕ → Finish → List ℕ → Finish
innermost_of here inherited [] = inherited
innermost_of here inherited (number ∷ rest) = record { home = here; number = number }

abbrev pub innermost : ℕ → Stay → Finish
innermost here s = innermost_of here s.inherited s.finishes

-- What a move of an activity does beside changing its own place: it waits at a finish, works on, begins an activity
-- here, sends an activity or itself away, opens or closes a finish, or ends.
pub data Effect : Type 0 where
  Waits : (number : ℕ) → Effect
  Works : Effect
  Begins : (key function : ℕ) (under : Finish) → Effect
  Spawns : (message : Message) (function : ℕ) (under : Finish) → Effect
  Shifts : (message : Message) (under : Finish) → Effect
  Opens : (number : ℕ) (inside : Finish) → Effect
  Closes : (number : ℕ) → Effect
  Ends : (under : Finish) (back : Option Message) → Effect

-- ---- changes of a place, a stay and a call frame

abbrev pub with_stay : Place → ℕ → Option Stay → Place
with_stay place key stay = record place { stays = with_entry place.stays key stay }

abbrev pub goes : CallFrame → ℕ → CallFrame
goes frame pc = record frame { pc = pc }

abbrev pub next : CallFrame → CallFrame
next frame = goes frame (frame.pc + 1)

-- goes on with a value in a register
abbrev pub writes : CallFrame → ℕ → Value → CallFrame
writes frame register v = record frame {
  pc = frame.pc + 1;
  registers = with_entry frame.registers register (Some v);
}
