-- What comes in at a place: what it does to the stays, and to what the place keeps.
use Rattle.std.specs.Prelude.{◌≡◌, ℕ, ◌<◌, ◌≤◌, ◌^◌, ◌⊎◌, Bool, true, false, List, [], ◌∷◌, ◌++◌, Some, None, length}
use Rattle.slab.specs.Slab.{Slab, get, Updates}
use Rattle.x10_code.specs.declared.op.Op.TheVariants as op
use Rattle.x10_code.specs.declared.instr.Instr.{Instr}
use Rattle.x10_model.specs.declared.slot.Slot.{Slot}
use Rattle.x10_model.specs.Modules.{Module, Function}
use Rattle.x10_model.specs.Ranges.{function_at, instr_at}
use Rattle.x10_model.specs.declared.finish.Finish.{Finish}
use Rattle.x10_model.specs.Totals.{Report, receives_from}
use Rattle.x10_model.specs.Frames.{Graph, Frame}
use Rattle.x10_model.specs.Marshalling.{snapshot_of}
use Rattle.x10_model.specs.ReadingFrames.{frame_at}
use Rattle.x10_frame.specs.Heads.{graph_of}
use Rattle.x10_verify.specs.Certified.{Certified}
use Rattle.x10_frame.specs.Faults.{named, IsFault}
use Rattle.x10_image.specs.Parts.{Signature, signature_of}
use Rattle.x10_finish.specs.declared.count.Change.TheVariants as change
use Rattle.x10_finish.specs.Counts.{IsFull}
use Rattle.x10_kinds.specs.declared.limit.Limit.{Limit}
use Rattle.x10_kinds.specs.declared.limit.Limit.TheVariants as limits
use Rattle.x10_kinds.specs.declared.stop.Stop.{Stop}
use Rattle.x10_kinds.specs.declared.stop.Stop.TheVariants as stop
use Rattle.x10_copy.specs.declared.refusal.Refusal.{Refusal}
use Rattle.x10_copy.specs.declared.refusal.Refusal.TheVariants as refusal
use Rattle.x10_copy.specs.Arrived.{FitsArrival, IsFirstFault, PassesLimit, IsBrought, IsArrived, IsRefusal}
use Rattle.x10_copy.specs.Taken.{IsTakenIn}
use Rattle.x10_place.specs.declared.call_frame.CallFrame.{CallFrame}
use Rattle.x10_place.specs.declared.launching.Launch.{Launch}
use Rattle.x10_place.specs.Frames.{word_at, IsFetchedFor, IsEnteredWith}
use Rattle.x10_place.specs.Stays.{StayState, StoreState, GoesNext, GoesNextWith, Recounts, HasBook, totals_in, books_in, changed_at, origin_as}
use Rattle.x10_place.specs.Receiving.{merged_in, TakesFrame, IsShut}
use Rattle.x10_place.specs.Sending.{slots_of}
use Rattle.x10_place.specs.StandsFor.{place_of}

-- ---- bytes

-- no frame was read: the first fault of the bytes, or memory was refused
abbrev pub IsUnread : ℕ → List ℕ → Refusal → Type 0
IsUnread places bytes (refusal.Frame fault) = IsFault (named fault) (frame_at places bytes)
IsUnread places bytes refusal.Memory = Unit {0}
IsUnread places bytes _ = ⊥

-- ---- a report

-- the book of the report's finish keeps the larger of each number, if there is one, and nothing else changes
pub record Merges (s : StoreState) (r : Report) (t : StoreState) : Type 0 where
  pub rest : t ≡ record s { books = t.books }
  pub this : books_in t r.number ≡ merged_in r (books_in s r.number)
  pub others : (n : ℕ) → (n ≡ r.number → ⊥) → books_in t n ≡ books_in s n

-- why it isn't taken in: a finish with the number was never opened here, or memory was refused
abbrev pub IsReportRefused : StoreState → ℕ → Refusal → Type 0
IsReportRefused s number refusal.Finish = s.opened ≤ number
IsReportRefused s number refusal.Memory = Unit {0}
IsReportRefused s number _ = ⊥

-- ---- an activity that begins

-- a finish of this place is open, or it is one of another place
abbrev pub IsOpenHere : StoreState → Finish → Type 0
IsOpenHere s f = f.home ≡ s.here → HasBook (books_in s) f.number

-- the finish is one of this place that is not open
abbrev pub IsShutHere : StoreState → Finish → Type 0
IsShutHere s f = (f.home ≡ s.here) × (HasBook (books_in s) f.number → ⊥)

-- an activity that came from a place is counted as received, and as live
abbrev pub Comes : StoreState → ℕ → Finish → StoreState → Type 0
Comes s from under t = Recounts s t s.opened
    (changed_at (totals_in s) under (λ u. receives_from u from)) (books_in s)

-- why it isn't
abbrev pub IsKeptOut : StoreState → ℕ → Finish → Stop → Type 0
IsKeptOut s from under why = (why ≡ stop.Memory)
    ⊎ ((why ≡ stop.Limit limits.Activities) × IsFull (change.Receives from) (totals_in s under))

-- a frame brings its graph into the heap, and its activity is counted
pub record Settles (s : StoreState) (g : Graph) (l : Launch) (roots : List ℕ)
    (t : StoreState) : Type 0 where
  pub brought : IsBrought s.heap g roots t.heap
  pub counted : Comes (record s { heap = t.heap }) l.from l.under t

-- why nothing came in
abbrev pub IsUnsettled : StoreState → Graph → Launch → Refusal → Type 0
IsUnsettled s g l refusal.Memory = Unit {0}
IsUnsettled s g l (refusal.Limit limit) = PassesLimit s.heap g limit
    ⊎ ((limit ≡ limits.Activities) × IsFull (change.Receives l.from)
    (totals_in s l.under))
IsUnsettled s g l _ = ⊥

-- the function may begin: a new activity's has no result
abbrev pub MayBegin : Module → Launch → Function → Type 0
MayBegin program l callee = (function_at program l.function ≡ Some callee)
    × (origin_as l.back ≡ None → callee.result ≡ None)

-- the signature of a function that may begin
pub record IsEntrance (program : Module) (l : Launch) (s : Signature) : Type 0 where
  pub callee : Function
  pub begins : MayBegin program l callee
  pub signature_is : s ≡ signature_of callee
  pub few : length s.parameters ≤ 16
  pub room : length s.parameters ≤ s.registers

-- the stay that begins with these words
pub record IsLaunched (l : Launch) (callee : Function) (words : List ℕ)
    (c : StayState) : Type 0 where
  pub count : ℕ
  pub registers : callee.registers ≤ count
  pub entered : IsEnteredWith l.function count words c.top
  pub callers : c.callers ≡ []
  pub finishes : c.finishes ≡ []
  pub inherited : c.inherited ≡ l.under
  pub away : c.away ≡ false
  pub inside : c.inside ≡ false
  pub back : c.back ≡ origin_as l.back

-- an activity begins with what a frame brings, under the key that was the next one
pub record Launches (program : Module) (old : Slab StayState) (s : StoreState) (f : Frame)
    (l : Launch) (new : Slab StayState) (t : StoreState) : Type 0 where
  pub callee : Function
  pub begins : MayBegin program l callee
  pub fits : FitsArrival program s.here s.here s.heap callee.parameters (snapshot_of (graph_of f))
  pub is_open : IsOpenHere s l.under
  pub roots : List ℕ
  pub taken : IsTakenIn program s.here s.heap callee.parameters f roots t.heap
  pub settles : Settles s (graph_of f) l roots t
  pub key : ℕ
  pub vacant : key ≡ old.vacant_key
  pub free : get old key ≡ None
  pub few : key < 2 ^ 32
  pub child : StayState
  pub launched : IsLaunched l callee roots child
  pub added : Updates old new key (Some child)

-- its values fit
pub record FitsLaunch (program : Module) (s : StoreState) (f : Frame) (l : Launch) : Type 0 where
  pub callee : Function
  pub begins : MayBegin program l callee
  pub fits : FitsArrival program s.here s.here s.heap callee.parameters (snapshot_of (graph_of f))

-- they don't
pub record MisfitsLaunch (program : Module) (s : StoreState) (f : Frame) (l : Launch)
    (why : Refusal) : Type 0 where
  pub callee : Function
  pub begins : MayBegin program l callee
  pub misfit : IsFirstFault program s.here s.here s.heap callee.parameters (graph_of f) why

-- there can be no more keys, or activities under its finish
abbrev pub IsCrowded : Slab StayState → StoreState → Launch → Limit → Type 0
IsCrowded old s l limit = ((limit ≡ limits.Keys) × (2 ^ 32 ≤ old.vacant_key))
    ⊎ ((limit ≡ limits.Activities) × IsFull (change.Receives l.from)
    (totals_in s l.under))

-- why it doesn't begin: the first fault
abbrev pub IsLaunchRefused : Module → Slab StayState → StoreState → Frame → Launch → Refusal
    → Type 0
IsLaunchRefused program old s f l refusal.Function = (callee : Function) → MayBegin program l callee
    → ⊥
IsLaunchRefused program old s f l refusal.Kind = MisfitsLaunch program s f l refusal.Kind
IsLaunchRefused program old s f l refusal.Home = MisfitsLaunch program s f l refusal.Home
IsLaunchRefused program old s f l refusal.Ref = MisfitsLaunch program s f l refusal.Ref
IsLaunchRefused program old s f l refusal.Finish = FitsLaunch program s f l
    × IsShutHere s l.under
IsLaunchRefused program old s f l (refusal.Limit limit) = FitsLaunch program s f l
    × IsOpenHere s l.under
    × (PassesLimit s.heap (graph_of f) limit ⊎ IsCrowded old s l limit)
IsLaunchRefused program old s f l refusal.Memory = Unit {0}
IsLaunchRefused program old s f l _ = ⊥

-- ---- a result that comes back

-- the stay stands at an AT, and waits for the place that its register c holds
pub record IsAwaiting (program : Module) (a : StayState) (from : ℕ) (call : Instr) : Type 0 where
  pub is_away : a.away ≡ true
  pub call_is : instr_at program a.top.function a.top.pc ≡ Some call
  pub is_at : call.op ≡ op.At
  pub from_is : word_at a.top.registers.items call.c ≡ from

-- the same, with all that is known of the AT
pub record IsWaitingFor (program : Module) (a : StayState) (from : ℕ) (call : Instr) : Type 0 where
  pub is_away : a.away ≡ true
  pub fetched : IsFetchedFor program a.top call
  pub is_at : call.op ≡ op.At
  pub from_is : word_at a.top.registers.items call.c ≡ from

-- the call frame goes on to the next instruction, with the first word, if there is one, in a register
abbrev pub GoesNextBy : List ℕ → CallFrame → ℕ → CallFrame → Type 0
GoesNextBy [] f register g = GoesNext f g
GoesNextBy (word ∷ words) f register g = GoesNextWith f register word g

-- the stay goes on after its AT with a result
pub record GoesOnBy (words : List ℕ) (a : StayState) (register : ℕ) (b : StayState) : Type 0 where
  pub goes : GoesNextBy words a.top register b.top
  pub rest : b ≡ record a { top = b.top; away = false }

-- the result that a frame brings is put where the stay with a key waits for it, and the stay goes on
pub record ComesBack (program : Module) (old : Slab StayState) (s : StoreState) (f : Frame)
    (from key : ℕ) (new : Slab StayState)
    (t : StoreState) : Type 0 where
  pub stay : StayState
  pub is_there : get old key ≡ Some stay
  pub call : Instr
  pub waits : IsWaitingFor program stay from call
  pub callee : Function
  pub callee_is : function_at program call.x ≡ Some callee
  pub roots : List ℕ
  pub arrived : IsArrived program s.here from s.heap (slots_of callee.result)
      (graph_of f) roots t.heap
  pub taken : IsTakenIn program s.here s.heap (slots_of callee.result) f roots t.heap
  pub next : StayState
  pub goes : GoesOnBy roots stay call.a next
  pub changed : Updates old new key (Some next)
  pub store : t ≡ record s { heap = t.heap }

-- a stay with a key waits for a result of these slots
pub record IsExpected (program : Module) (old : Slab StayState) (from key : ℕ)
    (slots : List Slot) : Type 0 where
  pub stay : StayState
  pub is_there : get old key ≡ Some stay
  pub call : Instr
  pub awaits : IsAwaiting program stay from call
  pub callee : Function
  pub callee_is : function_at program call.x ≡ Some callee
  pub slots_are : slots ≡ slots_of callee.result

-- why it doesn't: nobody waits, or the result is refused
abbrev pub IsBackRefused : Module → Slab StayState → StoreState → Frame → (from key : ℕ) → Refusal
    → Type 0
IsBackRefused program old s f from key refusal.Segment = (slots : List Slot)
    → IsExpected program old from key slots → ⊥
IsBackRefused program old s f from key why = (slots : List Slot)
    × IsExpected program old from key slots
    × IsRefusal program s.here from s.heap slots (graph_of f) why

-- ---- a frame

-- the place takes a frame in, whether or not it has stopped
pub record IsTakenFrame (verified : Certified) (old : Slab StayState) (s : StoreState) (f : Frame)
    (new : Slab StayState) (t : StoreState) : Type 0 where
  pub takes : (stopped : Bool) → TakesFrame (place_of verified old s stopped) f
      (place_of verified new t stopped)
  pub is_open : (stopped : Bool) → IsShut (place_of verified old s stopped) f → ⊥
  pub texts : t.heap.texts ≡ s.heap.texts ++ (graph_of f).texts
  pub here : t.here ≡ s.here
  pub places : t.places ≡ s.places
