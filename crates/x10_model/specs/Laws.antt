-- Laws of the definitions.
use Rattle.std.specs.Prelude.{◌≡◌, ◌↔◌, ℕ, ◌⊎◌, false, IsTrue, List, [], ◌∷◌, ◌++◌, Option, Some, None, slice_get}
use Rattle.x10_code.specs.declared.op.Op.{Op}
use Rattle.x10_code.specs.declared.op.Op.TheVariants as op
use Rattle.x10_code.specs.declared.instr.Instr.{Instr}
use Rattle.x10_model.specs.Modules.{Function}
use Rattle.x10_model.specs.Ranges.{function_at}
use Rattle.x10_model.specs.Places as places
use Rattle.x10_model.specs.declared.finish.Finish.{Finish}
use Rattle.x10_model.specs.Places.{Setting, Origin, Stay, IsFree, Effect, Ends, Message}
use Rattle.x10_model.specs.Moves.{Situation, Passes, GivesBack, as_list, Moves}
use Rattle.x10_model.specs.Wrong.{IsWrong, IsMisfit, graph_of}
use Rattle.x10_model.specs.Deliveries.{Receives}
use Rattle.x10_model.specs.Values.{Value, Cells}
use Rattle.x10_model.specs.Copies.{Snapshot, Captures, IsWhole, Arrives}
use Rattle.x10_model.specs.Frames.{Frame, to_of}
use Rattle.x10_model.specs.Marshalling.{message_of}
use Rattle.x10_model.specs.Logs.{Turn, events_of}
use Rattle.x10_model.specs.Worlds.{World, IsWithin, Governs, Rule, Happens, GoesWrong}
use Rattle.x10_model.specs.declared.event.Event.{Event}
use Rattle.x10_model.specs.Totals.{Totals, Happening, Did, Took, totals_after, totals_from, is_last, is_reported, Cut, IsBalanced, is_balanced}

-- what stands within a finish that stands within another stands within that one too
abbrev pub EnclosingIsTransitive : Type 0
EnclosingIsTransitive = (enclosing : Finish → Option Finish) (outer middle inner : Finish)
    → IsWithin enclosing outer middle → IsWithin enclosing middle inner
    → IsWithin enclosing outer inner

-- so a finish governs each activity that a finish within it governs
abbrev pub GoverningIsTransitive : Type 0
GoverningIsTransitive = (w : World) (outer inner : Finish) (a : ℕ)
    → IsWithin w.net.enclosing outer inner → Governs w inner a → Governs w outer a

-- a move is not wrong
abbrev pub MovesAreNotWrong : Type 0
MovesAreNotWrong = (setting : Setting) (here key : ℕ) (old new : places.Place) (effect : Effect)
    → Moves setting here old key new effect
    → IsWrong setting here old key → ⊥

-- a message that is taken in fits
abbrev pub DeliveriesAreNotWrong : Type 0
DeliveriesAreNotWrong = (setting : Setting) (here key : ℕ) (old new : places.Place)
    (message : Message) → Receives setting here old message key new
    → IsMisfit setting here old message → ⊥

-- the values that an operation sends away: the arguments of an at, and the result of a stay that was sent by one
abbrev pub IsSent : Situation → Op → List Value → Type 0
IsSent s op.At vs = (to : ℕ) × (callee : Function) × Passes s to callee vs
IsSent s op.Ata vs = (to : ℕ) × (callee : Function) × Passes s to callee vs
IsSent s op.Ret vs = (origin : Origin) × (result : Option Value) × (s.stay.callers ≡ [])
    × (s.stay.back ≡ Some origin)
    × GivesBack s s.function.result result × (vs ≡ as_list result)
IsSent s _ vs = ⊥

-- there is room for an instruction at its place: a key and a reference are free, and what it sends away can be captured
pub record HasRoom (s : Situation) : Type 0 where
  pub key : (key : ℕ) × (s.place.stays key ≡ None)
  pub reference : (reference : ℕ) × (s.place.cells reference ≡ None)
  pub captures : (values : List Value) → IsSent s s.instr.op values
      → (graph : Snapshot) × Captures s.place.cells values graph

-- the same of the instruction at which a stay stands, if there is one
abbrev pub HasRoomAt : (setting : Setting) (here key : ℕ) → places.Place → Stay → Type 0
HasRoomAt setting here key place stay = (function : Function) (instr : Instr)
    → function_at setting.program stay.top.function ≡ Some function
    → slice_get function.code stay.top.pc ≡ Some instr
    → HasRoom (record {
      setting = setting;
      here = here;
      place = place;
      key = key;
      stay = stay;
      function = function;
      instr = instr;
    })

-- a ready activity moves or goes wrong where no other is inside an atomic region, so that none is stuck
abbrev pub ReadyIsAbleOrWrong : Type 0
ReadyIsAbleOrWrong = (setting : Setting) (here key : ℕ) (old : places.Place) (stay : Stay)
    → HasRoomAt setting here key old stay
    → old.stays key ≡ Some stay → stay.away ≡ false → IsFree old.stays key
    → ((new : places.Place) × (effect : Effect) × Moves setting here old key new effect)
    ⊎ IsWrong setting here old key

-- there is room for a message at a place: a key is free, and a graph that is whole can be laid into new cells
pub record HasRoomFor (place : places.Place) (graph : Snapshot) : Type 0 where
  pub key : (key : ℕ) × (place.stays key ≡ None)
  pub arrives : IsWhole graph → (values : List Value) × (cells : Cells)
      × Arrives place.cells graph values cells

-- a message that reaches its place is taken in or is a misfit
abbrev pub ArrivedIsTakenOrMisfit : Type 0
ArrivedIsTakenOrMisfit = (setting : Setting) (here : ℕ) (old : places.Place) (message : Message)
    → HasRoomFor old (graph_of message)
    → ((key : ℕ) × (new : places.Place) × Receives setting here old message key new)
    ⊎ IsMisfit setting here old message

-- what happens last changes the totals last
abbrev pub TotalsGoOn : Type 0
TotalsGoOn = (f : Finish) (t : Totals) (hs : List Happening) (h : Happening)
    → totals_from f t (hs ++ h ∷ []) ≡ totals_after f (totals_from f t hs) h

-- a report is due at the end of a stay alone, and there where the finish's last stay ends away from its home
abbrev pub ReportsAreDue : Type 0
ReportsAreDue = (here : ℕ) (f : Finish) (t : Totals) (back : Option Message) (message : Message)
    → (is_reported here f t (Did (Ends f back)) ≡ is_last f.home here t)
    × (is_reported here f t (Took message) ≡ false)

-- the events of two logs, one after the other, are those of the first and then those of the second
abbrev pub LogsGoOn : Type 0
LogsGoOn = (first second : List Turn) → events_of (first ++ second)
    ≡ events_of first ++ events_of second

-- a message is for the receiver of the frame that carries it
abbrev pub FramesCarryTo : Type 0
FramesCarryTo = (f : Frame) (message : Message) → message_of f ≡ Some message
    → places.receiver message ≡ to_of f

-- comparing each pair of places tells whether a cut balances
abbrev pub BalanceIsTested : Type 0
BalanceIsTested = (places : ℕ) (cut : Cut) → IsTrue (is_balanced places cut) ↔ IsBalanced places cut

-- what happens at an event is not wrong
abbrev pub EventsAreNotWrong : Type 0
EventsAreNotWrong = (rule : Rule) (setting : Setting) (w v : World) (event : Event)
    → Happens rule setting w event v → GoesWrong setting w event → ⊥
