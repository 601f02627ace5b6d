-- When a place of the program stands for a place of the machine.
use Rattle.std.specs.Prelude.{◌≡◌, ◌≢◌, ℕ, ◌<◌, ◌≤◌, ◌⊎◌, Bool, true, false, List, [], ◌∷◌, ◌++◌, ◌==◌, ◌^◌, length, map, Option, if◌then◌else◌, Some}
use Rattle.std.specs.Prelude.{None, slice_get, slice_index}
use Rattle.std.specs.Prelude.{string_bytes}
use Rattle.slab.specs.Slab.{Slab, get}
use Rattle.x10_kinds.specs.declared.limit.Limit.{Limit}
use Rattle.x10_kinds.specs.declared.limit.Limit.TheVariants as limits
use Rattle.x10_kinds.specs.declared.kind.Kind.{Kind}
use Rattle.x10_kinds.specs.declared.stop.Stop.{Stop}
use Rattle.x10_kinds.specs.declared.stop.Stop.TheVariants as stop
use Rattle.x10_code.specs.declared.op.Op.{Op}
use Rattle.x10_code.specs.declared.op.Op.TheVariants as op
use Rattle.x10_code.specs.declared.instr.Instr.{Instr}
use Rattle.x10_model.specs.Modules.{Module, Function}
use Rattle.x10_model.specs.Moves.{Moves}
use Rattle.x10_model.specs.Ranges.{function_at, instr_at}
use Rattle.x10_model.specs.Assignments.{State}
use Rattle.x10_model.specs.Places as machine
use Rattle.x10_model.specs.declared.finish.Finish.{Finish}
use Rattle.x10_model.specs.Places.{Setting, Origin, Effect, Waits, Begins, Closes, Stay, Number, Words}
use Rattle.x10_model.specs.Totals.{Cut, nothing, Did, totals_after}
use Rattle.x10_model.specs.Values.{Value}
use Rattle.x10_verify.specs.Certified.{Certified}
use Rattle.x10_verify.specs.Least.{HasLeast}
use Rattle.x10_heap.specs.declared.export.Export.{Export}
use Rattle.x10_heap.specs.Heaps.{HeapState, ObjectState}
use Rattle.x10_heap.specs.Words.{Context, export_as, IsWordOf, HoldsHeap}
use Rattle.x10_finish.specs.Books.{Kept}
use Rattle.x10_finish.specs.Counts.{IsLargest}
use Rattle.x10_finish.specs.Ledgers.{Ledger, totals_of}
use Rattle.x10_finish.specs.Nesting.{nth}
use Rattle.x10_finish.specs.Watching.{closes, IsTallied}
use Rattle.x10_place.specs.declared.call_frame.CallFrame.{CallFrame}
use Rattle.x10_place.specs.declared.line.Line.{Line}
use Rattle.x10_place.specs.declared.line.Line.TheVariants as line
use Rattle.x10_place.specs.declared.place.Stepped.{Stepped}
use Rattle.x10_place.specs.declared.place.Stepped.TheVariants as stepped
use Rattle.x10_place.specs.declared.route.Route.{Route}
use Rattle.x10_place.specs.declared.route.Route.TheVariants as route
use Rattle.x10_place.specs.Frames.{word_at}
use Rattle.x10_place.specs.Homes.{AreHomes}
use Rattle.x10_place.specs.Messages.{PutsOut}
use Rattle.x10_place.specs.Routes.{route_of}
use Rattle.x10_place.specs.Sending.{IsSending, slots_sent, words_sent, Overloads}
use Rattle.x10_place.specs.Stays.{StayState, StoreState, Location, IsPlaced, IsDoneHere, HasBook, OverfillsBy, finish_at, totals_in, books_of}
use Rattle.x10_place.specs.Stays.{books_in, kept_in, innermost_at}
use Rattle.x10_place.specs.Texts.{MakesTexts}

-- What callers see of a place: the module with the bounds of its functions, its number and how many there are, the stays
-- by key, the heap, the lines of output, how many finishes it opened, what it has counted of each finish, what it keeps
-- of reports for each finish of its own that is open, and whether it has stopped.
pub record PlaceState : Type 0 where
  pub program : Module
  pub bounds : List ℕ
  pub id : ℕ
  pub places : ℕ
  pub stays : Slab StayState
  pub heap : HeapState
  pub lines : List Line
  pub opened : ℕ
  pub ledger : Ledger
  pub books : List (ℕ × Kept)
  pub stopped : Bool

-- what it keeps for all its stays
abbrev pub store_of : PlaceState → StoreState
store_of p = record {
  heap = p.heap;
  lines = p.lines;
  opened = p.opened;
  here = p.id;
  places = p.places;
  ledger = p.ledger;
  books = p.books;
}

-- how much room there is for stays isn't part of what callers see
abbrev pub plain : Slab StayState → Slab StayState
plain slab = record slab { capacity = 0 }

-- a place as its fields are seen
abbrev pub place_of : Certified → Slab StayState → StoreState → Bool → PlaceState
place_of verified stays store stopped = record {
  program = verified.program;
  bounds = verified.bounds;
  id = store.here;
  places = store.places;
  stays = plain stays;
  heap = store.heap;
  lines = store.lines;
  opened = store.opened;
  ledger = store.ledger;
  books = store.books;
  stopped = stopped;
}

-- the place with other stays, and what it then keeps for them
abbrev pub with_stays : PlaceState → Slab StayState → StoreState → PlaceState
with_stays p stays s = record p {
  stays = plain stays;
  heap = s.heap;
  lines = s.lines;
  opened = s.opened;
  ledger = s.ledger;
  books = s.books;
}

-- which home, number and class name an object at another place
abbrev pub Far : Type 0
Far = ℕ → ℕ → ℕ → Bool

-- what the meaning of words rests on, at a place with a heap, where it is known what other places export
abbrev pub context : Setting → ℕ → HeapState → Far → Context
context setting here heap far = record {
  classes = setting.program.classes;
  here = here;
  places = setting.places;
  heap = heap;
  far = far;
}

-- what does not change in a run
abbrev pub setting_of : PlaceState → Setting
setting_of p = record { program = p.program; places = p.places }

abbrev pub location_of : PlaceState → Location
location_of p = record { program = p.program; here = p.id; places = p.places }

abbrev pub context_of : Far → PlaceState → Context
context_of far p = context (setting_of p) p.id p.heap far

-- whether the stay with a key, if there is one, is inside an atomic region
abbrev pub is_inside : Option StayState → Bool
is_inside None = false
is_inside (Some a) = a.inside

abbrev pub inside_at : Slab StayState → ℕ → Bool
inside_at slab key = is_inside (get slab key)

-- no stay but that with the key is inside one
abbrev pub AreOutside : Slab StayState → ℕ → Type 0
AreOutside slab key = (other : ℕ) → inside_at slab other ≡ true → other ≡ key

-- the stay that is inside one, which none or one is
abbrev pub IsInsider : Slab StayState → Option ℕ → Type 0
IsInsider slab None = (key : ℕ) → inside_at slab key ≡ false
IsInsider slab (Some key) = (inside_at slab key ≡ true) × AreOutside slab key

-- a line as the machine has it
abbrev pub line_as : Line → machine.Line
line_as (line.Int z) = Number z
line_as (line.Text t) = Words (string_bytes t)

-- the least consistent assignment of each function
abbrev pub Assigned : Module → Type 0
Assigned program = (f : ℕ) (function : Function) → function_at program f ≡ Some function
    → HasLeast program function

-- each register of which the kind is known holds a value, and its word stands for that value
abbrev pub HoldRegisters : Context → State → (ℕ → Option Value) → List ℕ → Type 0
HoldRegisters x s registers words = (r : ℕ) (kind : Kind) → s.kinds r ≡ Some kind
    → (v : Value) × (registers r ≡ Some v) × IsWordOf x kind (slice_index words r) v

-- a call frame of the program stands for one of the machine: at the same instruction of the same function, with words for
-- the values of each register of which the assignment knows the kind there, with homes as it knows them, and the same turns
pub record StandsForFrame (program : Module) (assigned : Assigned program) (x : Context)
    (f : CallFrame) (c : machine.CallFrame) : Type 0 where
  pub function_is : c.function ≡ f.function
  pub pc_is : c.pc ≡ f.pc
  pub function : Function
  pub is_function : function_at program f.function ≡ Some function
  pub state : State
  pub is_state : (assigned f.function function is_function).0 f.pc ≡ Some state
  pub words : HoldRegisters x state c.registers f.registers.items
  pub homes : AreHomes x.here state.homes c.registers
  pub slots : length f.loops ≡ 8
  pub loops : (slot : ℕ) → slot < 8 → c.loops slot ≡ slice_index f.loops slot

-- Call frames stand for the machine's callers, of which the last one is the first. Each stands at its CALL on both sides: so
-- a return rests on the rule of that CALL and on its own.
abbrev pub StandForCallers : (program : Module) → Assigned program → Context → List CallFrame
    → List machine.CallFrame → Type 0
StandForCallers program assigned x fs [] = fs ≡ []
StandForCallers program assigned x fs (c ∷ cs) = (before : List CallFrame) × (f : CallFrame)
    × (fs ≡ before ++ f ∷ []) × StandsForFrame program assigned x f c
    × StandForCallers program assigned x before cs

-- the finish that it inherited is of a place of the run, and so is the stay that its result goes back to, with a key that a
-- frame can tell
pub record IsOfRun (places : ℕ) (a : StayState) : Type 0 where
  pub inherited : (a.inherited.home < places) × (a.inherited.number < 2 ^ 32)
  pub back : (o : Origin) → a.back ≡ Some o → (o.place < places) × (o.key < 2 ^ 32)

-- a stay of the program stands where it can go on, and stands for a stay of the machine
pub record StandsForStay (program : Module) (assigned : Assigned program) (x : Context)
    (a : StayState) (s : Stay) : Type 0 where
  pub placed : IsPlaced program a
  pub top : StandsForFrame program assigned x a.top s.top
  pub callers : StandForCallers program assigned x a.callers s.callers
  pub finishes : s.finishes ≡ a.finishes
  pub inherited : s.inherited ≡ a.inherited
  pub away : s.away ≡ a.away
  pub inside : s.inside ≡ a.inside
  pub back : s.back ≡ a.back
  pub run : IsOfRun x.places a

-- ---- words with their kinds

-- each export names an object of its class
abbrev pub AreNamed : HeapState → Type 0
AreNamed heap = (id : ℕ) (e : Export) → slice_get heap.exports id ≡ Some e
    → (o : ObjectState) × (slice_get heap.objects e.object ≡ Some o) × (o.class ≡ e.class)

-- a place that there is, one of a number that is permitted
pub record IsWithinPlaces (program : Module) (here places : ℕ) : Type 0 where
  pub within : here < places
  pub enough : program.least_places ≤ places
  pub few : places ≤ 64

-- ---- places

-- the machine's exports are those of the heap, and each names an object of its class
pub record HoldsExports (heap : HeapState) (exports : List machine.Export) : Type 0 where
  pub exports_are : exports ≡ map export_as heap.exports
  pub named : AreNamed heap

-- the least number of the finishes that stays of a place open: at place 0 the root has number 0
abbrev pub first_number : ℕ → ℕ
first_number id = if id == 0 then 1 else 0

-- a stay has the finish with a number open
abbrev pub IsOpenIn : (ℕ → Option Stay) → ℕ → Type 0
IsOpenIn stays n = (k i : ℕ) × (s : Stay) × (stays k ≡ Some s) × (nth s.finishes i ≡ Some n)

-- Each finish that a stay has open has a number that its place gave, and a book. No two are the same, and a number that was
-- not given yet has no book. At place 0 there is the root's book. There are no other books: a finish that was closed has none.
pub record AreBooked (id : ℕ) (stays : ℕ → Option Stay) (opened : ℕ)
    (books : ℕ → Option Cut) : Type 0 where
  pub booked : (k i n : ℕ) (s : Stay) → stays k ≡ Some s → nth s.finishes i ≡ Some n
      → HasBook books n
  pub numbered : (k i n : ℕ) (s : Stay) → stays k ≡ Some s → nth s.finishes i ≡ Some n
      → (first_number id ≤ n) × (n < opened)
  pub apart : (k l i j n : ℕ) (s t : Stay) → stays k ≡ Some s → stays l ≡ Some t
      → nth s.finishes i ≡ Some n → nth t.finishes j ≡ Some n → (k ≡ l) × (i ≡ j)
  pub unopened : (n : ℕ) → opened ≤ n → books n ≡ None
  pub first : first_number id ≤ opened
  pub root : id ≡ 0 → HasBook books 0
  pub only : (n : ℕ) → HasBook books n → ((id ≡ 0) × (n ≡ 0)) ⊎ IsOpenIn stays n

-- A place of the program stands for a place of the machine, where it is known what other places export: the same stays under
-- the same keys, the same heap, exports and output, and as many finishes opened. It has counted how many of its stays
-- inherited each finish, and keeps a book of each finish that is open here: this is what a place can know of counts by
-- itself, and the machine's place has none.
pub record StandsFor (far : Far) (p : PlaceState) (m : machine.Place) : Type 0 where
  pub assigned : Assigned p.program
  pub none : (key : ℕ) → get p.stays key ≡ None → m.stays key ≡ None
  pub keys : (key : ℕ) → 2 ^ 32 ≤ key → get p.stays key ≡ None
  pub some : (key : ℕ) (a : StayState) → get p.stays key ≡ Some a
      → (s : Stay) × (m.stays key ≡ Some s)
      × StandsForStay p.program assigned (context_of far p) a s
  pub site : IsWithinPlaces p.program p.id p.places
  pub heap : HoldsHeap (context_of far p) m.cells
  pub exports : HoldsExports p.heap m.exports
  pub opened : m.opened ≡ p.opened
  pub lines : m.lines ≡ map line_as p.lines
  pub tallied : IsTallied m.stays (totals_of p.ledger)
  pub booked : AreBooked p.id m.stays p.opened (books_of p.books)

-- some place of the machine is stood for, whatever other places export
abbrev pub IsStanding : PlaceState → Type 0
IsStanding p = (m : machine.Place) × StandsFor (λ home id class. true) p m

-- what a step does not change
pub record Keeps (p q : PlaceState) : Type 0 where
  pub program : q.program ≡ p.program
  pub bounds : q.bounds ≡ p.bounds
  pub id : q.id ≡ p.id
  pub places : q.places ≡ p.places

-- What a move changes of what is counted and kept, of each finish but the one that it closes. It closes one that may end.
pub record IsCountedBy (s : StoreState) (effect : Effect) (t : StoreState) : Type 0 where
  pub here : t.here ≡ s.here
  pub places : t.places ≡ s.places
  pub totals : (f : Finish) → closes s.here effect f ≡ false
      → totals_in t f ≡ totals_after f (totals_in s f) (Did effect)
  pub kept : (n : ℕ) → closes s.here effect (finish_at s.here n) ≡ false
      → kept_in (books_in t n) ≡ kept_in (books_in s n)
  pub done : (n : ℕ) → effect ≡ Closes n → IsDoneHere s n
      × (totals_in t (finish_at s.here n) ≡ nothing)

-- a step finds nothing to do exactly where the move waits at the end of a finish, else it tells what the move puts out
abbrev pub Answers : Far → PlaceState → Stepped → Effect → Type 0
Answers far p stepped.Idle effect = (number : ℕ) × (effect ≡ Waits number)
Answers far p (stepped.Moved out) effect = ((number : ℕ) → effect ≡ Waits number → ⊥)
    × PutsOut p.program (context_of far p) (store_of p) effect out

-- A step of the activity with the key adds the texts that its instruction makes, and no others; those that were there stay.
pub record AddsTexts (p : PlaceState) (key : ℕ) (q : PlaceState) : Type 0 where
  pub stay : StayState
  pub is_there : get p.stays key ≡ Some stay
  pub instr : Instr
  pub instr_is : instr_at p.program stay.top.function stay.top.pc ≡ Some instr
  pub texts : List (List ℕ)
  pub makes : MakesTexts instr.op p.program p.heap stay.top.registers.items instr texts
  pub texts_are : q.heap.texts ≡ p.heap.texts ++ texts

-- From a place of the machine that the old state stands for, the move of the activity with the key leads to one that
-- the new state stands for. An activity that it begins has the key that was the next one.
pub record Leads (far : Far) (p : PlaceState) (m : machine.Place) (key : ℕ) (answer : Stepped)
    (q : PlaceState) : Type 0 where
  pub effect : Effect
  pub new : machine.Place
  pub moves : Moves (setting_of p) p.id m key new effect
  pub stands : StandsFor far q new
  pub counted : IsCountedBy (store_of p) effect (store_of q)
  pub answers : Answers far p answer effect
  pub vacant : (other function : ℕ) (under : Finish) → effect ≡ Begins other function under
      → other ≡ p.stays.vacant_key
  pub texts : AddsTexts p key q

-- each place of the machine that the state stands for makes such a move
abbrev pub LeadsAll : PlaceState → ℕ → Stepped → PlaceState → Type 0
LeadsAll p key answer q = (far : Far) (m : machine.Place) → StandsFor far p m
    → Leads far p m key answer q

-- an activity would begin that there can't be: its key, or how many live under its finish, would be too large
abbrev pub OverfillsBegin : PlaceState → StayState → Limit → Type 0
OverfillsBegin p a limit = ((limit ≡ limits.Keys) × (2 ^ 32 ≤ p.stays.vacant_key))
    ⊎ ((limit ≡ limits.Activities) × (p.stays.vacant_key < 2 ^ 32)
    × IsLargest (totals_of p.ledger (innermost_at p.id a)).live)

-- as many as can be counted were sent under its finish to the place that an instruction names
abbrev pub OverfillsSend : PlaceState → StayState → Instr → Limit → Type 0
OverfillsSend p a i limit = (limit ≡ limits.Activities)
    × IsLargest ((totals_of p.ledger (innermost_at p.id a)).sent
    (word_at a.top.registers.items i.c))

abbrev pub Overfills : Route → PlaceState → StayState → Instr → Limit → Type 0
Overfills route.Async p a i limit = OverfillsBegin p a limit
Overfills route.At p a i limit = OverfillsSend p a i limit
Overfills route.Ata p a i limit = OverfillsSend p a i limit
Overfills r p a i limit = OverfillsBy r a (store_of p) i limit

-- the activity with the key is ready, no other is inside an atomic region, and its instruction would make one more of what
-- there can be no more of
pub record IsOverfull (p : PlaceState) (key : ℕ) (limit : Limit) : Type 0 where
  pub stay : StayState
  pub is_there : get p.stays key ≡ Some stay
  pub is_ready : stay.away ≡ false
  pub is_free : AreOutside p.stays key
  pub instr : Instr
  pub instr_is : instr_at p.program stay.top.function stay.top.pc ≡ Some instr
  pub overfills : Overfills (route_of instr.op) p stay instr limit

-- The activity with the key is ready, no other is inside an atomic region, and what its instruction sends would have more
-- objects (7), texts (8) or rails (9) than a frame can have.
pub record IsOverloaded (p : PlaceState) (key : ℕ) (limit : Limit) : Type 0 where
  pub stay : StayState
  pub is_there : get p.stays key ≡ Some stay
  pub is_ready : stay.away ≡ false
  pub is_free : AreOutside p.stays key
  pub instr : Instr
  pub instr_is : instr_at p.program stay.top.function stay.top.pc ≡ Some instr
  pub sends : IsSending (route_of instr.op) stay
  pub overloads : Overloads p.program.classes p.heap
      (slots_sent (route_of instr.op) p.program stay instr)
      (words_sent (route_of instr.op) (slots_sent (route_of instr.op) p.program stay instr) stay
      instr) limit

-- why a step of the activity with the key is not made: memory was refused, or it would pass a limit
abbrev pub IsHindered : PlaceState → ℕ → Stop → Type 0
IsHindered p key why = (why ≡ stop.Memory)
    ⊎ ((limit : Limit) × (why ≡ stop.Limit limit)
    × (IsOverfull p key limit ⊎ IsOverloaded p key limit))

-- the operation of an instruction of a function
abbrev pub IsOperation : Module → ℕ → ℕ → Op → Type 0
IsOperation program function pc op = (i : Instr) × (instr_at program function pc ≡ Some i)
    × (i.op ≡ op)

-- A step of the activity with the key would find nothing to do: there is none, it is away, another is inside an atomic
-- region, or it stands at the end of a finish that may not end yet.
pub data IsIdleAt (p : PlaceState) (key : ℕ) : Type 0 where
  nobody : get p.stays key ≡ None → IsIdleAt p key
  away : (a : StayState) → get p.stays key ≡ Some a → a.away ≡ true → IsIdleAt p key
  kept_out : (other : ℕ) → inside_at p.stays other ≡ true → other ≢ key → IsIdleAt p key
  waits : (a : StayState) (number : ℕ) (outer : List ℕ) → get p.stays key ≡ Some a
      → AreOutside p.stays key → IsOperation p.program a.top.function a.top.pc op.Fine
      → a.finishes ≡ number ∷ outer → (IsDoneHere (store_of p) number → ⊥) → IsIdleAt p key

-- the activity with the key can move, and none with a lower key can
pub record IsFirstAble (p : PlaceState) (key : ℕ) : Type 0 where
  pub able : IsIdleAt p key → ⊥
  pub first : (before : ℕ) → before < key → IsIdleAt p before

-- the activity with the key stands at an instruction of a function
abbrev pub IsAt : Slab StayState → ℕ → ℕ → ℕ → Type 0
IsAt slab key function pc = (a : StayState) × (get slab key ≡ Some a) × (a.top.function ≡ function)
    × (a.top.pc ≡ pc)
