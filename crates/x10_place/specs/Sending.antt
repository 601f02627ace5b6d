-- What instructions send: the words of registers in a row, of the kinds of a function's slots.
use Rattle.std.specs.Prelude.{◌≡◌, ℕ, ◌+◌, ◌⊎◌, List, [], ◌∷◌, length, Option, Some, None}
use Rattle.std.specs.List.{slice_range}
use Rattle.x10_kinds.specs.declared.limit.Limit.{Limit}
use Rattle.x10_kinds.specs.declared.limit.Limit.TheVariants as limits
use Rattle.x10_kinds.specs.declared.kind.Kind.{Kind}
use Rattle.x10_code.specs.declared.instr.Instr.{Instr}
use Rattle.x10_model.specs.declared.slot.Slot.{Slot}
use Rattle.x10_model.specs.Modules.{Module}
use Rattle.x10_model.specs.Ranges.{function_at, parameters_of, result_of}
use Rattle.x10_model.specs.Places.{Origin}
use Rattle.x10_model.specs.Values.{Value, Cells}
use Rattle.x10_heap.specs.Heaps.{HeapState}
use Rattle.x10_heap.specs.Words.{Context, AreWordsOf, HoldsHeap}
use Rattle.x10_copy.specs.Captured.{kinds_of, AreMany, MeetsObject, MeetsText, MeetsRail}
use Rattle.x10_place.specs.declared.route.Route.{Route}
use Rattle.x10_place.specs.declared.route.Route.TheVariants as route
use Rattle.x10_place.specs.declared.call_frame.CallFrame.{CallFrame}
use Rattle.x10_place.specs.Stays.{StayState, StoreState}

-- an AT or ATA sends arguments; a RET sends a result back where it ends a stay that came from elsewhere
abbrev pub IsSending : Route → StayState → Type 0
IsSending route.At a = Unit {0}
IsSending route.Ata a = Unit {0}
IsSending route.Return a = (a.callers ≡ []) × (o : Origin) × (a.back ≡ Some o)
IsSending _ a = ⊥

-- one slot, or none
abbrev pub slots_of : Option Slot → List Slot
slots_of None = []
slots_of (Some slot) = slot ∷ []

-- the parameters of the function that an instruction names, and the result of the one that ends
abbrev pub slots_of_call : Module → Instr → List Slot
slots_of_call program i = parameters_of (function_at program i.x)

abbrev pub slots_of_end : Module → CallFrame → List Slot
slots_of_end program f = slots_of (result_of (function_at program f.function))

-- a word for each slot, from a register on
abbrev pub words_from : CallFrame → (first : ℕ) → List Slot → List ℕ
words_from f first slots = slice_range f.registers.items first (first + length slots)

-- the slots of what is sent, and the words
abbrev pub slots_sent : Route → Module → StayState → Instr → List Slot
slots_sent route.At program a i = slots_of_call program i
slots_sent route.Ata program a i = slots_of_call program i
slots_sent route.Return program a i = slots_of_end program a.top
slots_sent _ program a i = []

abbrev pub words_sent : Route → List Slot → StayState → Instr → List ℕ
words_sent route.Return slots a i = words_from a.top i.a slots
words_sent _ slots a i = words_from a.top i.b slots

-- words of these slots stand for some values, beside a heap that stands for some cells
pub record StandForSome (program : Module) (s : StoreState) (slots : List Slot)
    (words : List ℕ) : Type 0 where
  pub context : Context
  pub cells : Cells
  pub values : List Value
  pub classes : context.classes ≡ program.classes
  pub places : context.places ≡ s.places
  pub heap : context.heap ≡ s.heap
  pub holds : HoldsHeap context cells
  pub words_are : AreWordsOf context (kinds_of slots) words values

-- what words of these slots lead to is more than a frame can take along: objects (7), texts (8) or rails (9)
abbrev pub Overloads : List (List Kind) → HeapState → List Slot → List ℕ → Limit → Type 0
Overloads classes heap slots words limit =
    ((limit ≡ limits.FrameObjects) × AreMany (MeetsObject classes heap (kinds_of slots) words))
    ⊎ ((limit ≡ limits.FrameTexts) × AreMany (MeetsText classes heap (kinds_of slots) words))
    ⊎ ((limit ≡ limits.FrameRails) × AreMany (MeetsRail classes heap (kinds_of slots) words))
