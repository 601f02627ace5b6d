-- Steps of a place that put something out: an activity is sent to a place, or goes on there; a stay ends.
use Rattle.std.specs.Prelude.{◌≡◌, ℕ, List, ◌^◌, ◌<◌, [], Option, Some, None, true, false}
use Rattle.slab.specs.Slab.{Slab, get, Updates}
use Rattle.x10_code.specs.declared.op.Op.{Op}
use Rattle.x10_code.specs.declared.op.Op.TheVariants as op
use Rattle.x10_code.specs.declared.instr.Instr.{Instr}
use Rattle.x10_model.specs.declared.slot.Slot.{Slot}
use Rattle.x10_model.specs.Modules.{Module}
use Rattle.x10_model.specs.declared.finish.Finish.{Finish}
use Rattle.x10_model.specs.Places.{Origin}
use Rattle.x10_model.specs.Totals.{ends_one, sends_to, is_last}
use Rattle.x10_frame.specs.declared.head.Head.{Head}
use Rattle.x10_frame.specs.declared.head.What.TheVariants as what
use Rattle.x10_frame.specs.Heads.{head}
use Rattle.x10_copy.specs.Captured.{kinds_of, IsCopied}
use Rattle.x10_place.specs.declared.outcome.Departure.{Departure}
use Rattle.x10_place.specs.declared.outcome.Departure.TheVariants as departure
use Rattle.x10_place.specs.declared.sent.Outgoing.{Outgoing}
use Rattle.x10_place.specs.declared.sent.Sent.{Sent}
use Rattle.x10_place.specs.Frames.{word_at, IsFetchedFor}
use Rattle.x10_place.specs.Routes.{op_going}
use Rattle.x10_place.specs.Stays.{StayState, StoreState, GoesNext, innermost_at, totals_in, books_in, changed_at, Recounts}
use Rattle.x10_place.specs.Messages.{IsReportSent}
use Rattle.x10_place.specs.Sending.{slots_of_call, slots_of_end, words_from}

-- the bytes are those of a frame with a head that takes along copies of words of these slots
abbrev pub TakesAlong : Module → StoreState → List Slot → List ℕ → Head → List ℕ → Type 0
TakesAlong program s slots words h bytes =
    IsCopied program.classes s.places s.heap (kinds_of slots) words h bytes

-- ---- an activity is sent, or goes on elsewhere

-- an AT or ATA
abbrev pub IsGoing : Op → Type 0
IsGoing op.At = Unit {0}
IsGoing op.Ata = Unit {0}
IsGoing _ = ⊥

-- what stands at the front of the frame that an AT or ATA sends
abbrev pub head_sent : Departure → (here to key : ℕ) → Finish → (function : ℕ) → Head
head_sent departure.At here to key under function = head here to (what.Shift key under function)
head_sent departure.Ata here to key under function = head here to (what.Spawn under function)

-- the stay waits at its AT, or goes on after its ATA
abbrev pub DepartsBy : Departure → StayState → StayState → Type 0
DepartsBy departure.At a b = b ≡ record a { away = true }
DepartsBy departure.Ata a b = GoesNext a.top b.top × (b ≡ record a { top = b.top })

-- an AT or ATA of the stay with a key sends its arguments
pub record DepartsAt (program : Module) (old : Slab StayState) (s : StoreState) (key : ℕ)
    (sent : Sent) (new : Slab StayState) (t : StoreState) : Type 0 where
  pub stay : StayState
  pub is_there : get old key ≡ Some stay
  pub instr : Instr
  pub fetched : IsFetchedFor program stay.top instr
  pub departure : Departure
  pub is_going : instr.op ≡ op_going departure
  pub next : StayState
  pub number : (innermost_at s.here stay).number < 2 ^ 32
  pub departs : DepartsBy departure stay next
  pub updates : Updates old new key (Some next)
  pub message : Outgoing
  pub sent_is : sent ≡ record { message = Some message; report = None }
  pub to_is : message.to ≡ word_at stay.top.registers.items instr.c
  pub frame : TakesAlong program s (slots_of_call program instr)
      (words_from stay.top instr.b (slots_of_call program instr))
      (head_sent departure s.here message.to key (innermost_at s.here stay) instr.x)
      message.bytes.items
  pub store : Recounts s t s.opened (changed_at (totals_in s) (innermost_at s.here stay)
      (λ u. sends_to u message.to)) (books_in s)

-- ---- a stay ends

-- the result goes back to the stay that waits for it, if one does
abbrev pub SendsResult : Module → StoreState → StayState → Instr → Option Origin → Option Outgoing
    → Type 0
SendsResult program s a i None None = Unit {0}
SendsResult program s a i (Some origin) (Some o) =
    (o.to ≡ origin.place)
    × TakesAlong program s (slots_of_end program a.top)
    (words_from a.top i.a (slots_of_end program a.top))
    (head s.here origin.place (what.Back origin.key)) o.bytes.items
SendsResult program s a i _ _ = ⊥

-- a report goes to the home of a finish where its last activity ends away from there
abbrev pub Reports : StoreState → Finish → Option Outgoing → Type 0
Reports s f None = is_last f.home s.here (totals_in s f) ≡ false
Reports s f (Some o) = (is_last f.home s.here (totals_in s f) ≡ true) × IsReportSent s f o

-- the RET of the last function of the stay with a key ends it: one fewer lives under the finish that it inherited
pub record LeavesAt (program : Module) (old : Slab StayState) (s : StoreState) (key : ℕ)
    (sent : Sent) (new : Slab StayState) (t : StoreState) : Type 0 where
  pub stay : StayState
  pub is_there : get old key ≡ Some stay
  pub instr : Instr
  pub fetched : IsFetchedFor program stay.top instr
  pub is_ret : instr.op ≡ op.Ret
  pub callers : stay.callers ≡ []
  pub updates : Updates old new key None
  pub result : SendsResult program s stay instr stay.back sent.message
  pub report : Reports s stay.inherited sent.report
  pub store : Recounts s t s.opened (changed_at (totals_in s) stay.inherited ends_one) (books_in s)
