-- What one instruction of one activity does to its place: a relation by cases on the operation, in the groups numbers,
-- control, text, objects, rails, places, activities and output.
use Rattle.std.specs.Prelude.{◌≡◌, ℕ, ℤ, pos, ◌+ℤ◌, ◌-ℤ◌, ◌*ℤ◌, int_lt, ◌+◌, ◌-◌, ◌%◌, ◌<◌, ◌⊎◌, Bool, true, false, ◌==◌}
use Rattle.std.specs.Prelude.{nat_lt, List, [], ◌∷◌, ◌++◌, length, replicate, Option, Some, None, if◌then◌else◌, slice_get, slice_set}
use Rattle.std.specs.Int.{int_rem_euclid}
use Rattle.std.specs.Ordering.{int_eq}
use Rattle.x10_kinds.specs.declared.kind.Kind.{Kind}
use Rattle.x10_code.specs.declared.op.Op.{Op}
use Rattle.x10_code.specs.declared.op.Op.TheVariants as op
use Rattle.x10_code.specs.declared.instr.Instr.{Instr}
use Rattle.x10_model.specs.Maps.{with_entry}
use Rattle.x10_model.specs.Modules.{Function}
use Rattle.x10_model.specs.declared.slot.Slot.{Slot}
use Rattle.x10_model.specs.Ranges.{function_at, instr_at, IsInRange}
use Rattle.x10_model.specs.Values.{Value, Int, Place, Text, Rail, Object, Null, Ref, Cell, Fields, Bytes, IsOfKind}
use Rattle.x10_model.specs.Signatures.{FitsSlotAt, FitSlots, AreOfKinds}
use Rattle.x10_model.specs.Copies.{Snapshot, Captures}
use Rattle.x10_model.specs.Results.{is_zero, wrapped, quotient, remainder, truth, joined_text, rail_length, byte_at, byte_value, index_of, place_number, place_of, line_of}
use Rattle.x10_model.specs.Places as places
use Rattle.x10_model.specs.declared.finish.Finish.{Finish}
use Rattle.x10_model.specs.Places.{Setting, CallFrame, Origin, Stay, IsFree, Line, Message, Spawn, Shift, Back, innermost}
use Rattle.x10_model.specs.Places.{Effect, Waits, Works, Begins, Spawns, Shifts, Opens, Closes, Ends, with_stay, goes, next, writes}

-- where an instruction is executed: the run's setting, the place with its number, the activity's key there and its
-- stay, the function and the instruction
pub record Situation : Type 0 where
  pub setting : Setting
  pub here : ℕ
  pub place : places.Place
  pub key : ℕ
  pub stay : Stay
  pub function : Function
  pub instr : Instr

-- ---- what is asked of registers

-- the register holds the value
abbrev pub Holds : Situation → ℕ → Value → Type 0
Holds s r v = s.stay.top.registers r ≡ Some v

-- the registers from r on hold the values
abbrev pub HoldsFrom : Situation → ℕ → List Value → Type 0
HoldsFrom s r [] = Unit {0}
HoldsFrom s r (v ∷ vs) = Holds s r v × HoldsFrom s (r + 1) vs

-- ---- how an activity goes on

-- with another call frame on top, at a place that is otherwise as given
abbrev pub ContinuesAt : Situation → places.Place → CallFrame → places.Place → Effect → Type 0
ContinuesAt s place top new effect = (new
    ≡ with_stay place s.key (Some (record s.stay { top = top }))) × (effect ≡ Works)

abbrev pub Continues : Situation → CallFrame → places.Place → Effect → Type 0
Continues s top new effect = ContinuesAt s s.place top new effect

-- writes a value to register a, or goes to x where there is none
abbrev pub writes_or_goes : Situation → Option Value → CallFrame
writes_or_goes s (Some v) = writes s.stay.top s.instr.a v
writes_or_goes s None = goes s.stay.top s.instr.x

-- goes on to the next instruction, or to x
abbrev pub next_or_goes : Situation → Bool → CallFrame
next_or_goes s true = next s.stay.top
next_or_goes s false = goes s.stay.top s.instr.x

-- ---- functions

-- at its first instruction, with the arguments in the first registers
abbrev pub entry_frame : ℕ → List Value → CallFrame
entry_frame function arguments = record {
  function = function;
  pc = 0;
  registers = slice_get arguments;
  loops = λ n. 0;
}

-- function x of arguments from register b on, which fit it at a place
pub record Passes (s : Situation) (at : ℕ) (callee : Function)
    (arguments : List Value) : Type 0 where
  pub callee_is : function_at s.setting.program s.instr.x ≡ Some callee
  pub held : HoldsFrom s s.instr.b arguments
  pub fit : FitSlots (IsOfKind s.place.cells) at arguments callee.parameters

-- the result of the function that ends: the value of register a, which fits, or none
abbrev pub GivesBack : Situation → Option Slot → Option Value → Type 0
GivesBack s None None = Unit {0}
GivesBack s (Some slot) (Some v) = Holds s s.instr.a v
    × FitsSlotAt (IsOfKind s.place.cells) s.here v slot
GivesBack s _ _ = ⊥

-- a caller goes on after its call, with the result, if there is one, in its register a
abbrev pub resumed : CallFrame → ℕ → Option Value → CallFrame
resumed caller register None = next caller
resumed caller register (Some v) = writes caller register v

abbrev pub as_list : Option Value → List Value
as_list None = []
as_list (Some v) = v ∷ []

-- the message that a result goes back in
abbrev pub SendsBack : Situation → Option Value → Option Origin → Option Message → Type 0
SendsBack s result None message = message ≡ None
SendsBack s result (Some origin) message = (graph : Snapshot)
    × Captures s.place.cells (as_list result) graph
    × (message ≡ Some (Back s.here origin.place origin.key graph))

-- the last function of a stay ends, and with it the stay
abbrev pub EndsStay : Situation → Option Value → places.Place → Effect → Type 0
EndsStay s result new effect = (back : Option Message) × (s.stay.finishes ≡ [])
    × SendsBack s result s.stay.back back × (new ≡ with_stay s.place s.key None)
    × (effect ≡ Ends s.stay.inherited back)

-- a called function ends, and its caller goes on
abbrev pub EndsCall : Situation → CallFrame → List CallFrame → Option Value → places.Place → Effect
    → Type 0
EndsCall s caller callers result new effect = (call : Instr)
    × (instr_at s.setting.program caller.function caller.pc ≡ Some call) × (call.op ≡ op.Call)
    × (new ≡ with_stay s.place s.key (Some
    (record s.stay { top = resumed caller call.a result; callers = callers })))
    × (effect ≡ Works)

abbrev pub Returns : Situation → List CallFrame → Option Value → places.Place → Effect → Type 0
Returns s [] result new effect = EndsStay s result new effect
Returns s (caller ∷ callers) result new effect = EndsCall s caller callers result new effect

-- a new activity's stay, or the stay of one that shifts
abbrev pub new_stay : ℕ → List Value → Finish → Option Origin → Stay
new_stay function arguments under back = record {
  top = entry_frame function arguments;
  callers = [];
  finishes = [];
  inherited = under;
  away = false;
  inside = false;
  back = back;
}

-- ---- output

abbrev pub with_line : places.Place → Line → places.Place
with_line place line = record place { lines = place.lines ++ line ∷ [] }

abbrev pub with_cell : places.Place → ℕ → Cell → places.Place
with_cell place reference cell = record place
    { cells = with_entry place.cells reference (Some cell) }

-- a new rail of zero bytes, or goes to x where there is no such length
abbrev pub MakesRail : Situation → Option ℕ → places.Place → Effect → Type 0
MakesRail s (Some n) new effect = (reference : ℕ) × (s.place.cells reference ≡ None)
    × ContinuesAt s (with_cell s.place reference (Bytes (replicate n 0)))
    (writes s.stay.top s.instr.a (Rail reference)) new effect
MakesRail s None new effect = Continues s (goes s.stay.top s.instr.x) new effect

-- the byte at an index becomes the number's lowest eight bits, or goes to x where there is no such byte
abbrev pub SetsByte : Situation → ℕ → List ℕ → ℤ → ℤ → Option ℕ → places.Place → Effect → Type 0
SetsByte s reference bytes z w (Some byte) new effect = ContinuesAt s
    (with_cell s.place reference (Bytes (slice_set bytes (index_of z)
    (index_of (int_rem_euclid w (pos 256)))))) (next s.stay.top) new effect
SetsByte s reference bytes z w None new effect = Continues s (goes s.stay.top s.instr.x) new effect

-- stays at the end of a finish, or closes it and goes on; which of the two depends on the whole world
abbrev pub LeavesFinish : Situation → ℕ → List ℕ → places.Place → Effect → Type 0
LeavesFinish s number finishes new effect = ((new ≡ s.place) × (effect ≡ Waits number))
    ⊎ ((new ≡ with_stay s.place s.key (Some
    (record s.stay { top = next s.stay.top; finishes = finishes }))) × (effect ≡ Closes number))

-- goes on to the next instruction, from then on inside an atomic region or not
abbrev pub GoesOnInside : Situation → Bool → places.Place → Effect → Type 0
GoesOnInside s inside new effect = (new ≡ with_stay s.place s.key
    (Some (record s.stay { top = next s.stay.top; inside = inside }))) × (effect ≡ Works)

-- ---- the operations

abbrev pub Does : Op → Situation → places.Place → Effect → Type 0
-- numbers
Does op.Intk s new effect = (z : ℤ) × (slice_get s.setting.program.ints s.instr.x ≡ Some z)
    × Continues s (writes s.stay.top s.instr.a (Int z)) new effect
Does op.Add s new effect = (x y : ℤ) × Holds s s.instr.b (Int x) × Holds s s.instr.c (Int y)
    × Continues s (writes s.stay.top s.instr.a (wrapped (x +ℤ y))) new effect
Does op.Sub s new effect = (x y : ℤ) × Holds s s.instr.b (Int x) × Holds s s.instr.c (Int y)
    × Continues s (writes s.stay.top s.instr.a (wrapped (x -ℤ y))) new effect
Does op.Mul s new effect = (x y : ℤ) × Holds s s.instr.b (Int x) × Holds s s.instr.c (Int y)
    × Continues s (writes s.stay.top s.instr.a (wrapped (x *ℤ y))) new effect
Does op.Div s new effect = (x y : ℤ) × Holds s s.instr.b (Int x) × Holds s s.instr.c (Int y)
    × Continues s (writes_or_goes s (quotient x y)) new effect
Does op.Rem s new effect = (x y : ℤ) × Holds s s.instr.b (Int x) × Holds s s.instr.c (Int y)
    × Continues s (writes_or_goes s (remainder x y)) new effect
Does op.Lt s new effect = (x y : ℤ) × Holds s s.instr.b (Int x) × Holds s s.instr.c (Int y)
    × Continues s (writes s.stay.top s.instr.a (truth (int_lt x y))) new effect
Does op.Eq s new effect = (x y : ℤ) × Holds s s.instr.b (Int x) × Holds s s.instr.c (Int y)
    × Continues s (writes s.stay.top s.instr.a (truth (int_eq x y))) new effect
-- control
Does op.Move s new effect = (v : Value) × Holds s s.instr.b v
    × Continues s (writes s.stay.top s.instr.a v) new effect
Does op.Jmp s new effect = Continues s (goes s.stay.top s.instr.x) new effect
Does op.Jz s new effect = (z : ℤ) × Holds s s.instr.a (Int z)
    × Continues s (if is_zero z then goes s.stay.top s.instr.x else next s.stay.top) new effect
Does op.Loop s new effect = Continues s (record s.stay.top
    { pc = s.stay.top.pc + 1; loops = with_entry s.stay.top.loops s.instr.a s.instr.x }) new effect
Does op.Endl s new effect =
    let left = s.stay.top.loops s.instr.a - 1 in
    Continues s (record s.stay.top {
      pc = if nat_lt 0 left then s.instr.x else s.stay.top.pc + 1;
      loops = with_entry s.stay.top.loops s.instr.a left;
    }) new effect
Does op.Call s new effect = (callee : Function) × (arguments : List Value)
    × Passes s s.here callee arguments
    × (new ≡ with_stay s.place s.key (Some
    (record s.stay {
      top = entry_frame s.instr.x arguments;
      callers = s.stay.top ∷ s.stay.callers;
    }))) × (effect ≡ Works)
Does op.Ret s new effect = (result : Option Value) × GivesBack s s.function.result result
    × Returns s s.stay.callers result new effect
-- text
Does op.Textk s new effect = (t : List ℕ) × (slice_get s.setting.program.texts s.instr.x ≡ Some t)
    × Continues s (writes s.stay.top s.instr.a (Text t)) new effect
Does op.Tlen s new effect = (t : List ℕ) × Holds s s.instr.b (Text t)
    × Continues s (writes s.stay.top s.instr.a (Int (pos (length t)))) new effect
Does op.Tcat s new effect = (t u : List ℕ) × Holds s s.instr.b (Text t) × Holds s s.instr.c (Text u)
    × Continues s (writes_or_goes s (joined_text t u)) new effect
-- objects
Does op.New s new effect = (kinds : List Kind) × (fields : List Value) × (reference : ℕ)
    × (slice_get s.setting.program.classes s.instr.x ≡ Some kinds)
    × HoldsFrom s s.instr.b fields × AreOfKinds (IsOfKind s.place.cells) fields kinds
    × (s.place.cells reference ≡ None)
    × ContinuesAt s (with_cell s.place reference (Fields s.instr.x fields))
    (writes s.stay.top s.instr.a (Object reference)) new effect
Does op.Get s new effect = (reference class : ℕ) × (fields : List Value) × (v : Value)
    × Holds s s.instr.b (Object reference)
    × (s.place.cells reference ≡ Some (Fields class fields))
    × (slice_get fields s.instr.c ≡ Some v) × Continues s (writes s.stay.top s.instr.a v) new effect
Does op.Put s new effect = (reference class : ℕ) × (fields : List Value) × (v : Value)
    × (kinds : List Kind) × (kind : Kind)
    × Holds s s.instr.a (Object reference)
    × (s.place.cells reference ≡ Some (Fields class fields)) × Holds s s.instr.b v
    × (slice_get s.setting.program.classes class ≡ Some kinds)
    × (slice_get kinds s.instr.c ≡ Some kind) × IsOfKind s.place.cells v kind
    × (s.instr.c < length fields)
    × ContinuesAt s (with_cell s.place reference (Fields class (slice_set fields s.instr.c v)))
    (next s.stay.top) new effect
Does op.Null s new effect = Continues s (writes s.stay.top s.instr.a Null) new effect
Does op.Ifobj s new effect = ((reference : ℕ) × Holds s s.instr.b (Object reference)
    × Continues s (writes s.stay.top s.instr.a (Object reference)) new effect)
    ⊎ (Holds s s.instr.b Null × Continues s (goes s.stay.top s.instr.x) new effect)
-- rails
Does op.Rail s new effect = (z : ℤ) × Holds s s.instr.b (Int z)
    × MakesRail s (rail_length z) new effect
Does op.Rget s new effect = (reference : ℕ) × (bytes : List ℕ) × (z : ℤ)
    × Holds s s.instr.b (Rail reference) × (s.place.cells reference ≡ Some (Bytes bytes))
    × Holds s s.instr.c (Int z) × Continues s
    (writes_or_goes s (byte_value (byte_at bytes z))) new effect
Does op.Rset s new effect = (reference : ℕ) × (bytes : List ℕ) × (z w : ℤ)
    × Holds s s.instr.a (Rail reference) × (s.place.cells reference ≡ Some (Bytes bytes))
    × Holds s s.instr.b (Int z) × Holds s s.instr.c (Int w)
    × SetsByte s reference bytes z w (byte_at bytes z) new effect
Does op.Rlen s new effect = (reference : ℕ) × (bytes : List ℕ) × Holds s s.instr.b (Rail reference)
    × (s.place.cells reference ≡ Some (Bytes bytes))
    × Continues s (writes s.stay.top s.instr.a (Int (pos (length bytes)))) new effect
-- places
Does op.Here s new effect = Continues s (writes s.stay.top s.instr.a (Place s.here)) new effect
Does op.Placek s new effect = Continues s (writes s.stay.top s.instr.a (Place s.instr.x)) new effect
Does op.Placen s new effect = (z : ℤ) × Holds s s.instr.b (Int z)
    × Continues s (writes_or_goes s (place_number s.setting.places z)) new effect
Does op.Placei s new effect = (p : ℕ) × Holds s s.instr.b (Place p)
    × Continues s (writes s.stay.top s.instr.a (Int (pos p))) new effect
Does op.Nextp s new effect = (p : ℕ) × Holds s s.instr.b (Place p)
    × Continues s (writes s.stay.top s.instr.a (Place ((p + 1) % s.setting.places))) new effect
Does op.Count s new effect = Continues s
    (writes s.stay.top s.instr.a (Int (pos s.setting.places))) new effect
Does op.Home s new effect = (home id class : ℕ) × Holds s s.instr.b (Ref home id class)
    × Continues s (writes s.stay.top s.instr.a (Place home)) new effect
Does op.Gnew s new effect = (reference class : ℕ) × (fields : List Value)
    × Holds s s.instr.b (Object reference)
    × (s.place.cells reference ≡ Some (Fields class fields))
    × ContinuesAt s (record s.place {
      exports = s.place.exports
          ++ record { class = class; object = reference } ∷ [];
    })
    (writes s.stay.top s.instr.a (Ref s.here (length s.place.exports) class)) new effect
Does op.Gopen s new effect = (id class reference : ℕ) × Holds s s.instr.b (Ref s.here id class)
    × (slice_get s.place.exports id ≡ Some (record { class = class; object = reference }))
    × Continues s (writes s.stay.top s.instr.a (Object reference)) new effect
Does op.Ifhere s new effect = (v : Value) × (p : ℕ) × Holds s s.instr.a v × (place_of v ≡ Some p)
    × Continues s (next_or_goes s (p == s.here)) new effect
Does op.Ifsame s new effect = (v w : Value) × (p q : ℕ) × Holds s s.instr.a v × Holds s s.instr.b w
    × (place_of v ≡ Some p) × (place_of w ≡ Some q)
    × Continues s (next_or_goes s (p == q)) new effect
-- activities
Does op.Async s new effect = (callee : Function) × (arguments : List Value) × (key : ℕ)
    × Passes s s.here callee arguments × (callee.result ≡ None)
    × (s.place.stays key ≡ None)
    × (new ≡ with_stay (with_stay s.place s.key (Some (record s.stay { top = next s.stay.top })))
    key
    (Some (new_stay s.instr.x arguments (innermost s.here s.stay) None)))
    × (effect ≡ Begins key s.instr.x (innermost s.here s.stay))
Does op.At s new effect = (callee : Function) × (arguments : List Value) × (to : ℕ)
    × (graph : Snapshot) × Holds s s.instr.c (Place to)
    × Passes s to callee arguments × Captures s.place.cells arguments graph
    × (new ≡ with_stay s.place s.key (Some (record s.stay { away = true })))
    × (effect ≡ Shifts (Shift s.here to s.key (innermost s.here s.stay) s.instr.x graph)
    (innermost s.here s.stay))
Does op.Ata s new effect = (callee : Function) × (arguments : List Value) × (to : ℕ)
    × (graph : Snapshot) × Holds s s.instr.c (Place to)
    × Passes s to callee arguments × (callee.result ≡ None)
    × Captures s.place.cells arguments graph
    × (new ≡ with_stay s.place s.key (Some (record s.stay { top = next s.stay.top })))
    × (effect ≡ Spawns (Spawn s.here to (innermost s.here s.stay) s.instr.x graph) s.instr.x
    (innermost s.here s.stay))
Does op.Finb s new effect = (new ≡ with_stay (record s.place { opened = s.place.opened + 1 }) s.key
    (Some (record s.stay { top = next s.stay.top; finishes = s.place.opened ∷ s.stay.finishes })))
    × (effect ≡ Opens s.place.opened (innermost s.here s.stay))
Does op.Atomb s new effect = GoesOnInside s true new effect
Does op.Atome s new effect = GoesOnInside s false new effect
Does op.Fine s new effect = (number : ℕ) × (finishes : List ℕ)
    × (s.stay.finishes ≡ number ∷ finishes) × LeavesFinish s number finishes new effect
-- output
Does op.Print s new effect = (v : Value) × (line : Line) × Holds s s.instr.a v
    × (line_of v ≡ Some line)
    × ContinuesAt s (with_line s.place line) (next s.stay.top) new effect

-- The move of the activity with a key at a place: from old to new, with an effect. None moves while another is inside an
-- atomic region there.
pub record Moves (setting : Setting) (here : ℕ) (old : places.Place) (key : ℕ) (new : places.Place)
    (effect : Effect) : Type 0 where
  pub stay : Stay
  pub function : Function
  pub instr : Instr
  pub is_there : old.stays key ≡ Some stay
  pub is_ready : stay.away ≡ false
  pub is_free : IsFree old.stays key
  pub function_is : function_at setting.program stay.top.function ≡ Some function
  pub instr_is : slice_get function.code stay.top.pc ≡ Some instr
  pub in_range : IsInRange setting.program function instr
  pub does : Does instr.op (record {
    setting = setting;
    here = here;
    place = old;
    key = key;
    stay = stay;
    function = function;
    instr = instr;
  }) new effect
