-- What a place does with bytes that come from a place.
use Rattle.std.specs.Prelude.{◌≡◌, ◌≢◌, ◌⊎◌, ℕ, ◌≤◌, ◌<◌, ◌^◌, Bool, true, false, List, ◌++◌, Option, Some, None}
use Rattle.x10_kinds.specs.declared.limit.Limit.{Limit}
use Rattle.x10_kinds.specs.declared.limit.Limit.TheVariants as limits
use Rattle.slab.specs.Slab.{get}
use Rattle.x10_code.specs.declared.op.Op.TheVariants as op
use Rattle.x10_code.specs.declared.instr.Instr.{Instr}
use Rattle.x10_model.specs.declared.slot.Slot.{Slot}
use Rattle.x10_model.specs.Modules.{Function}
use Rattle.x10_model.specs.Ranges.{function_at, instr_at}
use Rattle.x10_model.specs.Places as machine
use Rattle.x10_model.specs.declared.finish.Finish.{Finish}
use Rattle.x10_model.specs.Places.{Message}
use Rattle.x10_model.specs.Deliveries.{Receives}
use Rattle.x10_model.specs.Totals.{Cut, Report, Took, totals_after, merged}
use Rattle.x10_model.specs.Wrong as wrong
use Rattle.x10_model.specs.Frames as frames
use Rattle.x10_model.specs.Frames.{Frame, IsSpelled, to_of}
use Rattle.x10_model.specs.Marshalling.{snapshot_of, message_of}
use Rattle.x10_model.specs.ReadingFrames.{frame_at}
use Rattle.x10_frame.specs.Heads.{graph_of}
use Rattle.x10_frame.specs.Faults.{named, IsFault}
use Rattle.x10_finish.specs.declared.count.Change.TheVariants as change
use Rattle.x10_finish.specs.Counts.{IsFull}
use Rattle.x10_finish.specs.Ledgers.{totals_of}
use Rattle.x10_copy.specs.declared.refusal.Refusal.{Refusal}
use Rattle.x10_copy.specs.declared.refusal.Refusal.TheVariants as refusal
use Rattle.x10_copy.specs.Arrived.{FitsArrival, IsFirstFault, PassesLimit}
use Rattle.x10_copy.specs.References.{AreNamedElsewhere}
use Rattle.x10_place.specs.Frames.{word_at}
use Rattle.x10_place.specs.Stays.{StayState, StoreState, totals_in, books_of, books_in, HasBook}
use Rattle.x10_place.specs.Sending.{slots_of}
use Rattle.x10_place.specs.StandsFor.{PlaceState, Far, StandsFor, setting_of, context_of, store_of}

-- ---- what is taken in

-- what a message that is taken in changes of what is counted and kept
pub record IsCountedIn (s : StoreState) (message : Message) (t : StoreState) : Type 0 where
  pub here : t.here ≡ s.here
  pub places : t.places ≡ s.places
  pub totals : (f : Finish) → totals_in t f ≡ totals_after f (totals_in s f) (Took message)
  pub kept : (n : ℕ) → books_in t n ≡ books_in s n

-- what a message begins has the key that was the next one
abbrev pub IsVacantFor : PlaceState → Message → ℕ → Type 0
IsVacantFor p (machine.Back from to waiting graph) key = Unit {0}
IsVacantFor p message key = key ≡ p.stays.vacant_key

-- a place of the machine that the old state stands for takes the message in, and the new state stands for it then
pub record Admits (far : Far) (p : PlaceState) (m : machine.Place) (message : Message)
    (q : PlaceState) : Type 0 where
  pub key : ℕ
  pub new : machine.Place
  pub receives : Receives (setting_of p) p.id m message key new
  pub stands : StandsFor far q new
  pub counted : IsCountedIn (store_of p) message (store_of q)
  pub vacant : IsVacantFor p message key

-- each place of the machine that the state stands for does, where its global references to objects elsewhere name some
abbrev pub TakesMessage : PlaceState → Message → PlaceState → Type 0
TakesMessage p message q = (far : Far) (m : machine.Place) → StandsFor far p m
    → AreNamedElsewhere (context_of far p) (wrong.graph_of message)
    → Admits far p m message q

abbrev pub merged_in : Report → Option Cut → Option Cut
merged_in r None = None
merged_in r (Some cut) = Some (merged cut r)

-- a report is taken in: the book of its finish keeps the larger of each number, if the finish is open, and nothing else
-- changes
pub record TakesReport (p : PlaceState) (to : ℕ) (r : Report) (q : PlaceState) : Type 0 where
  pub here : to ≡ p.id
  pub opened : r.number < p.opened
  pub rest : q ≡ record p { books = q.books }
  pub this : books_of q.books r.number ≡ merged_in r (books_of p.books r.number)
  pub others : (n : ℕ) → n ≢ r.number → books_of q.books n ≡ books_of p.books n

-- the report of a frame
abbrev pub report_of : (from number : ℕ) → List ℕ → List ℕ → Report
report_of from number sent received = record {
  place = from;
  number = number;
  sent = sent;
  received = received;
}

abbrev pub TakesFrame : PlaceState → Frame → PlaceState → Type 0
TakesFrame p (frames.Report from to number sent received) q =
    TakesReport p to (report_of from number sent received) q
TakesFrame p f q = (message : Message) × (message_of f ≡ Some message) × TakesMessage p message q

-- the finish under which a frame begins something is one of this place that is not open
abbrev pub IsShut : PlaceState → Frame → Type 0
IsShut p (frames.Spawn from to home number function graph) = (home ≡ p.id)
    × (HasBook (books_of p.books) number → ⊥)
IsShut p (frames.Shift from to waiting home number function graph) = (home ≡ p.id)
    × (HasBook (books_of p.books) number → ⊥)
IsShut p f = ⊥

-- The bytes are those of a frame of either version, and the place takes it in: one whose finish is open, if it is one of this place. The texts
-- of the frame are added to the heap, and no others.
pub record IsTaken (p : PlaceState) (bytes : List ℕ) (q : PlaceState) : Type 0 where
  pub frame : Frame
  pub spelled : IsSpelled p.places frame bytes
  pub is_open : IsShut p frame → ⊥
  pub takes : (f : Frame) → IsSpelled p.places f bytes → TakesFrame p f q
  pub texts : q.heap.texts ≡ p.heap.texts ++ (graph_of frame).texts

-- ---- what is refused

-- the activity with the key waits for the function that it sent to the place from, whose result is of the slots
pub record IsAwaited (p : PlaceState) (key from : ℕ) (slots : List Slot) : Type 0 where
  pub stay : StayState
  pub is_there : get p.stays key ≡ Some stay
  pub is_away : stay.away ≡ true
  pub call : Instr
  pub call_is : instr_at p.program stay.top.function stay.top.pc ≡ Some call
  pub is_at : call.op ≡ op.At
  pub from_is : word_at stay.top.registers.items call.c ≡ from
  pub callee : Function
  pub callee_is : function_at p.program call.x ≡ Some callee
  pub slots_are : slots ≡ slots_of callee.result

-- where a frame's values are to fit: the slots, and the home of the references of which a home is asked
pub record Seat : Type 0 where
  pub home : ℕ
  pub slots : List Slot

-- the function that a frame names may begin with its values; a new activity's has no result
abbrev pub IsSeat : PlaceState → Frame → Seat → Type 0
IsSeat p (frames.Spawn from to home number function graph) seat = (callee : Function)
    × (function_at p.program function ≡ Some callee) × (callee.result ≡ None)
    × (seat ≡ record { home = p.id; slots = callee.parameters })
IsSeat p (frames.Shift from to waiting home number function graph) seat = (callee : Function)
    × (function_at p.program function ≡ Some callee)
    × (seat ≡ record { home = p.id; slots = callee.parameters })
IsSeat p (frames.Back from to waiting graph) seat = (slots : List Slot)
    × IsAwaited p waiting from slots × (seat ≡ record { home = from; slots = slots })
IsSeat p (frames.Report from to number sent received) seat = ⊥

-- there is none: no such function, or nobody who waits
abbrev pub LacksSeat : PlaceState → Frame → Refusal → Type 0
LacksSeat p (frames.Back from to waiting graph) why = (why ≡ refusal.Segment)
    × ((seat : Seat) → IsSeat p (frames.Back from to waiting graph) seat → ⊥)
LacksSeat p (frames.Report from to number sent received) why = ⊥
LacksSeat p f why = (why ≡ refusal.Function) × ((seat : Seat) → IsSeat p f seat → ⊥)

-- there can be no more of what a frame begins: of activities under its finish, or of keys
abbrev pub OverfillsLaunch : PlaceState → (from : ℕ) → Finish → Limit → Type 0
OverfillsLaunch p from under limit = ((limit ≡ limits.Keys) × (2 ^ 32 ≤ p.stays.vacant_key))
    ⊎ ((limit ≡ limits.Activities) × IsFull (change.Receives from) (totals_of p.ledger under))

-- or of what it brings: of objects (1), texts (2) or rails (3)
abbrev pub OverfillsArrival : PlaceState → Frame → Limit → Type 0
OverfillsArrival p (frames.Spawn from to home number function graph) limit =
    PassesLimit p.heap graph limit
    ⊎ OverfillsLaunch p from (record { home = home; number = number }) limit
OverfillsArrival p (frames.Shift from to waiting home number function graph) limit =
    PassesLimit p.heap graph limit
    ⊎ OverfillsLaunch p from (record { home = home; number = number }) limit
OverfillsArrival p (frames.Back from to waiting graph) limit = PassesLimit p.heap graph limit
OverfillsArrival p (frames.Report from to number sent received) limit = ⊥

-- the values of a frame for this place fit
pub record IsSeated (p : PlaceState) (f : Frame) : Type 0 where
  pub here : to_of f ≡ p.id
  pub seat : Seat
  pub seat_is : IsSeat p f seat
  pub fits : FitsArrival p.program p.id seat.home p.heap seat.slots (snapshot_of (graph_of f))

-- they don't, and which fault is the first
pub record IsMisplaced (p : PlaceState) (f : Frame) (why : Refusal) : Type 0 where
  pub here : to_of f ≡ p.id
  pub seat : Seat
  pub seat_is : IsSeat p f seat
  pub misfit : IsFirstFault p.program p.id seat.home p.heap seat.slots (graph_of f) why

-- a report of a finish that this place never opened
abbrev pub IsUnopened : PlaceState → Frame → Type 0
IsUnopened p (frames.Report from to number sent received) = (to ≡ p.id) × (p.opened ≤ number)
IsUnopened p f = ⊥

-- Why a frame is refused: the first fault, in this order. Of memory nothing is said.
abbrev pub IsRefusedFrame : PlaceState → Frame → Refusal → Type 0
IsRefusedFrame p f refusal.NotHere = to_of f ≢ p.id
IsRefusedFrame p f refusal.Function = (to_of f ≡ p.id) × LacksSeat p f refusal.Function
IsRefusedFrame p f refusal.Segment = (to_of f ≡ p.id) × LacksSeat p f refusal.Segment
IsRefusedFrame p f refusal.Kind = IsMisplaced p f refusal.Kind
IsRefusedFrame p f refusal.Home = IsMisplaced p f refusal.Home
IsRefusedFrame p f refusal.Ref = IsMisplaced p f refusal.Ref
IsRefusedFrame p f refusal.Finish = (IsSeated p f × IsShut p f) ⊎ IsUnopened p f
IsRefusedFrame p f (refusal.Limit limit) = IsSeated p f × (IsShut p f → ⊥)
    × OverfillsArrival p f limit
IsRefusedFrame p f refusal.Memory = Unit {0}
IsRefusedFrame p f refusal.Stopped = ⊥
IsRefusedFrame p f (refusal.Frame fault) = ⊥

-- Why bytes are refused: they are no frame of a run of so many places, or their frame is refused.
abbrev pub IsRefusedBytes : PlaceState → List ℕ → Refusal → Type 0
IsRefusedBytes p bytes (refusal.Frame fault) = IsFault (named fault) (frame_at p.places bytes)
IsRefusedBytes p bytes why = (f : Frame) → IsSpelled p.places f bytes → IsRefusedFrame p f why

-- The bytes are those of a frame, unless it is told that they are none. Of memory nothing is said.
abbrev pub IsOfFrame : ℕ → List ℕ → Refusal → Type 0
IsOfFrame places bytes (refusal.Frame fault) = Unit {0}
IsOfFrame places bytes refusal.Memory = Unit {0}
IsOfFrame places bytes why = (f : Frame) × IsSpelled places f bytes

-- the place has stopped where memory was refused, or at a limit
abbrev pub stops : Refusal → Bool
stops refusal.Memory = true
stops (refusal.Limit limit) = true
stops refusal.Stopped = true
stops _ = false
