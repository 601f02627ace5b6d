-- Stays of activities at a place: what they are, and what a step does to one and to what the place keeps.
use Rattle.std.specs.Prelude.{◌≡◌, ℕ, ◌+◌, ◌<◌, ◌⊎◌, Bool, false, List, [], ◌∷◌, ◌++◌, length, map, Option, Some, None, slice_get, slice_set, string_bytes, Box}
use Rattle.std.specs.BTreeMap.{is_at}
use Rattle.std.specs.Map.{lookup}
use Rattle.std.specs.Ordering.{nat_cmp}
use Rattle.x10_kinds.specs.declared.limit.Limit.{Limit}
use Rattle.x10_kinds.specs.declared.limit.Limit.TheVariants as limits
use Rattle.x10_kinds.specs.declared.kind.Kind.TheVariants as kind
use Rattle.x10_kinds.specs.declared.stop.Stop.{Stop}
use Rattle.x10_kinds.specs.declared.stop.Stop.TheVariants as stop
use Rattle.x10_code.specs.declared.op.Op.TheVariants as op
use Rattle.x10_code.specs.declared.instr.Instr.{Instr}
use Rattle.x10_model.specs.Modules.{Module, Function}
use Rattle.x10_model.specs.declared.slot.Slot.{Slot}
use Rattle.x10_model.specs.Assignments.{State, IsKind}
use Rattle.x10_model.specs.Maps.{with_entry}
use Rattle.x10_model.specs.declared.finish.Finish.{Finish}
use Rattle.x10_model.specs.Places.{Origin, innermost_of}
use Rattle.x10_model.specs.Totals.{Totals, Cut, nothing, zeros, if_same, IsDoneAt}
use Rattle.x10_model.specs.Ranges.{function_at, instr_at, result_of}
use Rattle.x10_image.specs.Parts.{code_at}
use Rattle.x10_bounds.specs.OpenFinishes.{finishes_around}
use Rattle.x10_bounds.specs.AtomicRegions.{is_inside}
use Rattle.x10_finish.specs.Books.{Kept, kept_of}
use Rattle.x10_finish.specs.Ledgers.{Ledger, totals_of}
use Rattle.x10_heap.specs.Heaps.{HeapState, IsFull}
use Rattle.x10_verify.specs.Least.{HasLeast}
use Rattle.x10_verify.specs.Printing.{PrintsText}
use Rattle.x10_place.specs.declared.call_frame.CallFrame.{CallFrame}
use Rattle.x10_place.specs.declared.stay.Origin as stay
use Rattle.x10_place.specs.declared.outcome.Deed.TheVariants as deed
use Rattle.x10_place.specs.declared.outcome.Departure.TheVariants as departure
use Rattle.x10_place.specs.declared.outcome.Outcome.{Outcome}
use Rattle.x10_place.specs.declared.outcome.Outcome.TheVariants as outcome
use Rattle.x10_place.specs.declared.stay.Locality.{Locality}
use Rattle.x10_place.specs.declared.line.Line.{Line}
use Rattle.x10_place.specs.declared.line.Line.TheVariants as line
use Rattle.x10_place.specs.declared.route.Route.{Route}
use Rattle.x10_place.specs.declared.route.Route.TheVariants as route
use Rattle.x10_place.specs.Frames.{Workspace, space_of, word_at, int_at, IsInside, IsFetchedFor, Acts, Reads}
use Rattle.x10_place.specs.Making.{Makes, ReadsMake, Overfills}
use Rattle.x10_place.specs.Making.{IsRefused, ExportsObject, NamesObject, IsExportRefused}
use Rattle.x10_place.specs.Frames.{ActsAt, ReadsAt, IsEntered}

-- what callers see of a stay: the call frame of the function that it executes, and those of the functions that called it,
-- the last one last; the numbers of the finishes that it opened and hasn't closed, the last one first, and the one that it
-- inherited; whether it waits for an at, whether it is inside an atomic region, and where its result goes
pub record StayState : Type 0 where
  pub top : CallFrame
  pub callers : List CallFrame
  pub finishes : List ℕ
  pub inherited : Finish
  pub away : Bool
  pub inside : Bool
  pub back : Option Origin

-- the call frames that boxes hold
abbrev pub frames_of : {Z : Type 0} → List (Box CallFrame Z) → List CallFrame
frames_of bs = map (λ b. b.value) bs

-- What a place keeps for all its stays: the heap, the lines of output, how many finishes it opened; which place it is, of
-- how many; what it has counted of each finish; and of each finish that it opened and that is open, by its number, what
-- other places have reported.
pub record StoreState : Type 0 where
  pub heap : HeapState
  pub lines : List Line
  pub opened : ℕ
  pub here : ℕ
  pub places : ℕ
  pub ledger : Ledger
  pub books : List (ℕ × Kept)

-- what it has counted of each finish
abbrev pub totals_in : StoreState → Finish → Totals
totals_in s = totals_of s.ledger

-- the cut that a book keeps, by the number of its finish
abbrev pub cut_of : Option Kept → Option Cut
cut_of None = None
cut_of (Some b) = Some (kept_of b)

abbrev pub book_at : List (ℕ × Kept) → ℕ → Option Kept
book_at books n = lookup (is_at (nat_cmp n)) books

abbrev pub books_of : List (ℕ × Kept) → ℕ → Option Cut
books_of books n = cut_of (book_at books n)

abbrev pub books_in : StoreState → ℕ → Option Cut
books_in s = books_of s.books

-- the finish with a number that a place opened
abbrev pub finish_at : ℕ → ℕ → Finish
finish_at here number = record { home = here; number = number }

-- each book is that of a finish of this place, under its number
pub record IsBookOf (here places n : ℕ) (b : Kept) : Type 0 where
  pub finish : b.finish ≡ finish_at here n
  pub places_are : b.places ≡ places

abbrev pub AreBooks : ℕ → ℕ → List (ℕ × Kept) → Type 0
AreBooks here places books = (n : ℕ) (b : Kept) → book_at books n ≡ Some b
    → IsBookOf here places n b

-- what a home keeps of a finish: nothing was reported where it has no book
abbrev pub kept_in : Option Cut → Cut
kept_in None = λ p. zeros
kept_in (Some cut) = cut

-- a book is kept of the finish with a number
abbrev pub HasBook : (ℕ → Option Cut) → ℕ → Type 0
HasBook books n = (cut : Cut) × (books n ≡ Some cut)

-- the totals of one finish change
abbrev pub changed_at : (Finish → Totals) → Finish → (Totals → Totals) → Finish → Totals
changed_at totals f change g = if_same g f (change (totals g)) (totals g)

-- the home lets the finish with a number end
abbrev pub IsDoneHere : StoreState → ℕ → Type 0
IsDoneHere s n = IsDoneAt s.places s.here (totals_in s (finish_at s.here n))
    (kept_in (books_in s n))

-- a store with other finishes opened, other totals and other books, and all else as it was
pub record Recounts (s t : StoreState) (opened : ℕ) (totals : Finish → Totals)
    (books : ℕ → Option Cut) : Type 0 where
  pub heap : t.heap ≡ s.heap
  pub lines : t.lines ≡ s.lines
  pub here : t.here ≡ s.here
  pub places_are : t.places ≡ s.places
  pub opened_is : t.opened ≡ opened
  pub totals_are : (f : Finish) → totals_in t f ≡ totals f
  pub books_are : (n : ℕ) → books_in t n ≡ books n

-- where a stay is: a place of a run of a module, by its number, one of so many
pub record Location : Type 0 where
  pub program : Module
  pub here : ℕ
  pub places : ℕ

abbrev pub location : Module → Locality → Location
location program locality = record {
  program = program;
  here = locality.here;
  places = locality.places;
}

abbrev pub origin_as : Option stay.Origin → Option Origin
origin_as None = None
origin_as (Some o) = Some (record { place = o.place; key = o.key })

-- ---- where stays stand

-- a call frame stands at a call of a function
pub record IsCalling (program : Module) (f : CallFrame) (callee : ℕ) : Type 0 where
  pub inside : IsInside program f
  pub call : Instr
  pub call_is : instr_at program f.function f.pc ≡ Some call
  pub op_is : call.op ≡ op.Call
  pub callee_is : call.x ≡ callee

-- the function of the first call frame, or the one at the top
abbrev pub next_function : List CallFrame → ℕ → ℕ
next_function [] top = top
next_function (f ∷ fs) top = f.function

-- each call frame stands at a call of the function of the next one
abbrev pub AreCalling : Module → List CallFrame → ℕ → Type 0
AreCalling program [] top = Unit {0}
AreCalling program (f ∷ fs) top = IsCalling program f (next_function fs top)
    × AreCalling program fs top

-- how many finishes of its function a call frame stands in
abbrev pub open_at : Module → CallFrame → ℕ
open_at program f = finishes_around (code_at program f.function) f.pc

abbrev pub open_in : Module → List CallFrame → ℕ
open_in program [] = 0
open_in program (f ∷ fs) = open_at program f + open_in program fs

-- whether a call frame stands in an atomic region of its function
abbrev pub in_region : Module → CallFrame → Bool
in_region program f = is_inside (code_at program f.function) f.pc

-- the stay stands where it can go on, with as many finishes open as its call frames stand in, and is inside an atomic region
-- exactly where its top call frame stands in one
pub record IsPlaced (program : Module) (a : StayState) : Type 0 where
  pub top : IsInside program a.top
  pub callers : AreCalling program a.callers a.top.function
  pub finishes : length a.finishes ≡ open_in program a.callers + open_at program a.top
  pub region : a.inside ≡ in_region program a.top

-- ---- steps

-- the top call frame and the heap change so, and nothing else does
pub record ChangesTop (change : Workspace → Workspace → Type 0) (a : StayState) (s : StoreState)
    (b : StayState) (t : StoreState) : Type 0 where
  pub changes : change (space_of a.top s.heap) (space_of b.top t.heap)
  pub function_is : b.top.function ≡ a.top.function
  pub rest : b ≡ record a { top = b.top }
  pub store : t ≡ record s { heap = t.heap }

-- the call frame goes on to the next instruction
pub record GoesNext (f g : CallFrame) : Type 0 where
  pub function_is : g.function ≡ f.function
  pub pc_is : g.pc ≡ f.pc + 1
  pub words_are : g.registers.items ≡ f.registers.items
  pub loops_are : g.loops ≡ f.loops

-- the call frame goes on to the next instruction, with a word in a register
pub record GoesNextWith (f : CallFrame) (register word : ℕ) (g : CallFrame) : Type 0 where
  pub function_is : g.function ≡ f.function
  pub pc_is : g.pc ≡ f.pc + 1
  pub words_are : g.registers.items ≡ slice_set f.registers.items register word
  pub loops_are : g.loops ≡ f.loops

-- a function is called
pub record Calls (program : Module) (a : StayState) (i : Instr) (b : StayState) : Type 0 where
  pub entered : IsEntered program a.top.registers.items i b.top
  pub rest : b ≡ record a { top = b.top; callers = a.callers ++ a.top ∷ [] }

-- the caller goes on after its call, with the result, if there is one, in the call's register a
abbrev pub GoesOn : Option Slot → CallFrame → Instr → CallFrame → Instr → CallFrame → Type 0
GoesOn None caller call top i f = GoesNext caller f
GoesOn (Some slot) caller call top i f =
    GoesNextWith caller call.a (word_at top.registers.items i.a) f

-- the call frame, which stands at its call of the function that ends, goes on
pub record GoesBack (program : Module) (top : CallFrame) (i : Instr)
    (caller f : CallFrame) : Type 0 where
  pub call : Instr
  pub fetched : IsFetchedFor program caller call
  pub op_is : call.op ≡ op.Call
  pub callee_is : call.x ≡ top.function
  pub goes : GoesOn (result_of (function_at program top.function)) caller call top i f

-- a called function ends
pub record Resumes (program : Module) (a : StayState) (i : Instr) (b : StayState) : Type 0 where
  pub caller : CallFrame
  pub callers : a.callers ≡ b.callers ++ caller ∷ []
  pub back : GoesBack program a.top i caller b.top
  pub rest : b ≡ record a { top = b.top; callers = b.callers }

-- a function ends: its caller goes on, or there is none, and the place ends the stay
abbrev pub Returns : Module → StayState → StoreState → Instr → Outcome → StayState → StoreState
    → Type 0
Returns program a s i outcome.Goes b t = Resumes program a i b × (t ≡ s)
Returns program a s i (outcome.ForPlace d j) b t = (d ≡ deed.Leave) × (j ≡ i) × (a.callers ≡ [])
    × (b ≡ a) × (t ≡ s)
Returns program a s i _ b t = ⊥

-- the least consistent assignment knows a number where the PRINT stands, if it has a state there
abbrev pub PrintsNumber : Module → ℕ → ℕ → ℕ → Type 0
PrintsNumber program f pc r = (function : Function) (is : function_at program f ≡ Some function)
    (assigned : HasLeast program function) (s : State)
    → assigned.0 pc ≡ Some s → IsKind s r kind.Int

-- what a PRINT says of its register: a number, or a text
abbrev pub IsPrinted : Module → HeapState → CallFrame → ℕ → Line → Type 0
IsPrinted program heap f r (line.Int z) = PrintsNumber program f.function f.pc r
    × (z ≡ int_at f.registers.items r)
IsPrinted program heap f r (line.Text text) = PrintsText program f.function f.pc
    × (slice_get heap.texts (word_at f.registers.items r) ≡ Some (string_bytes text))

-- a line is printed
pub record Prints (program : Module) (a : StayState) (s : StoreState) (i : Instr) (b : StayState)
    (t : StoreState) : Type 0 where
  pub printed : Line
  pub is_printed : IsPrinted program s.heap a.top i.a printed
  pub top : GoesNext a.top b.top
  pub rest : b ≡ record a { top = b.top }
  pub store : t ≡ record s { lines = s.lines ++ printed ∷ [] }

-- ---- atomic regions

-- the stay goes on to the next instruction, from then on inside an atomic region or not
pub record GoesOnInside (inside : Bool) (a b : StayState) : Type 0 where
  pub top : GoesNext a.top b.top
  pub rest : b ≡ record a { top = b.top; inside = inside }

-- ---- finishes

-- a finish is opened: it takes the next number, and nothing was reported of it yet
pub record OpensFinish (a : StayState) (s : StoreState) (b : StayState)
    (t : StoreState) : Type 0 where
  pub top : GoesNext a.top b.top
  pub rest : b ≡ record a { top = b.top; finishes = s.opened ∷ a.finishes }
  pub store : Recounts s t (s.opened + 1) (totals_in s)
      (with_entry (books_in s) s.opened (Some (λ p. zeros)))

-- the innermost finish may end, and is closed: what was counted of it goes, and its book
pub record ClosesFinish (a : StayState) (s : StoreState) (b : StayState)
    (t : StoreState) : Type 0 where
  pub number : ℕ
  pub innermost : a.finishes ≡ number ∷ b.finishes
  pub done : IsDoneHere s number
  pub top : GoesNext a.top b.top
  pub rest : b ≡ record a { top = b.top; finishes = b.finishes }
  pub store : Recounts s t s.opened (changed_at (totals_in s) (finish_at s.here number)
      (λ u. nothing)) (with_entry (books_in s) number None)

-- it may not end yet, and nothing changes
pub record WaitsAtFinish (a : StayState) (s : StoreState) (b : StayState)
    (t : StoreState) : Type 0 where
  pub number : ℕ
  pub outer : List ℕ
  pub innermost : a.finishes ≡ number ∷ outer
  pub waits : IsDoneHere s number → ⊥
  pub stay : b ≡ a
  pub store : t ≡ s

abbrev pub LeavesFinish : StayState → StoreState → Outcome → StayState → StoreState → Type 0
LeavesFinish a s outcome.Goes b t = ClosesFinish a s b t
LeavesFinish a s outcome.Waits b t = WaitsAtFinish a s b t
LeavesFinish a s _ b t = ⊥

-- ---- all operations

-- What an operation does to a stay and to what the place keeps, and what becomes of the stay. Where the step is for the
-- place to make, nothing has happened yet.
abbrev pub Steps : Route → Location → StayState → StoreState → Instr → Outcome → StayState
    → StoreState → Type 0
Steps (route.Local l) at a s i o b t = (o ≡ outcome.Goes)
    × ChangesTop (λ v w. Acts l at.program v i w) a s b t
Steps (route.Make m) at a s i o b t = (o ≡ outcome.Goes)
    × ChangesTop (λ v w. Makes m at.program v i w) a s b t
Steps (route.Site k) at a s i o b t = (o ≡ outcome.Goes)
    × ChangesTop (λ v w. ActsAt k at.here at.places v i w) a s b t
Steps route.Export at a s i o b t = (o ≡ outcome.Goes)
    × ChangesTop (λ v w. ExportsObject at.here v i w) a s b t
Steps route.Call at a s i o b t = (o ≡ outcome.Goes) × Calls at.program a i b × (t ≡ s)
Steps route.Return at a s i o b t = Returns at.program a s i o b t
Steps route.Print at a s i o b t = (o ≡ outcome.Goes) × Prints at.program a s i b t
Steps (route.Region inside) at a s i o b t = (o ≡ outcome.Goes) × GoesOnInside inside a b × (t ≡ s)
Steps route.OpenFinish at a s i o b t = (o ≡ outcome.Goes) × OpensFinish a s b t
Steps route.CloseFinish at a s i o b t = LeavesFinish a s o b t
Steps route.Async at a s i o b t = (o ≡ outcome.ForPlace deed.Begin i) × (b ≡ a) × (t ≡ s)
Steps route.At at a s i o b t = (o ≡ outcome.ForPlace (deed.Depart departure.At) i) × (b ≡ a)
    × (t ≡ s)
Steps route.Ata at a s i o b t = (o ≡ outcome.ForPlace (deed.Depart departure.Ata) i) × (b ≡ a)
    × (t ≡ s)

-- the innermost finish is open at this place
abbrev pub HasFinish : StayState → StoreState → Type 0
HasFinish a s = (number : ℕ) × (outer : List ℕ) × (a.finishes ≡ number ∷ outer)
    × HasBook (books_in s) number

-- what an operation reads in the heap, of places or of finishes is there
abbrev pub ReadsStore : Route → Location → StayState → StoreState → Instr → Type 0
ReadsStore (route.Local l) at a s i = Reads l s.heap a.top.registers.items i
ReadsStore (route.Make m) at a s i = ReadsMake m s.heap a.top.registers.items i
ReadsStore (route.Site k) at a s i = ReadsAt k at.places a.top.registers.items i
ReadsStore route.Export at a s i = NamesObject s.heap a.top.registers.items i.b
ReadsStore route.Print at a s i = PrintsText at.program a.top.function a.top.pc
    → word_at a.top.registers.items i.a < length s.heap.texts
ReadsStore route.CloseFinish at a s i = HasFinish a s
ReadsStore _ at a s i = Unit {0}

-- an operation of a stay would make one more of what there can be no more of
abbrev pub OverfillsBy : Route → StayState → StoreState → Instr → Limit → Type 0
OverfillsBy (route.Make m) a s i limit = Overfills m s.heap a.top.registers.items i limit
OverfillsBy route.Export a s i limit = (limit ≡ limits.References) × IsFull (length s.heap.exports)
OverfillsBy route.OpenFinish a s i limit = (limit ≡ limits.Finishes) × IsFull s.opened
OverfillsBy _ a s i limit = ⊥

-- why an operation of a stay is refused: since memory is refused, or since there can be no more of what it makes
abbrev pub Refuses : Route → StayState → StoreState → Instr → Stop → Type 0
Refuses (route.Make m) a s i why = IsRefused m s.heap a.top.registers.items i why
Refuses route.Export a s i why = IsExportRefused s.heap why
Refuses route.OpenFinish a s i why = (why ≡ stop.Memory)
    ⊎ ((why ≡ stop.Limit limits.Finishes) × IsFull s.opened)
Refuses route.Call a s i why = why ≡ stop.Memory
Refuses route.Print a s i why = why ≡ stop.Memory
Refuses _ a s i why = ⊥

-- ---- activities that begin

-- the innermost finish of a stay
abbrev pub innermost_at : ℕ → StayState → Finish
innermost_at here a = innermost_of here a.inherited a.finishes

-- a stay at the first instruction of a function, with the arguments in its first registers, under a finish
pub record IsBegun (program : Module) (words : List ℕ) (i : Instr) (under : Finish)
    (c : StayState) : Type 0 where
  pub entered : IsEntered program words i c.top
  pub callers : c.callers ≡ []
  pub finishes : c.finishes ≡ []
  pub inherited : c.inherited ≡ under
  pub away : c.away ≡ false
  pub inside : c.inside ≡ false
  pub back : c.back ≡ None
