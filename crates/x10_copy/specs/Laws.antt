-- Laws of captures and arrivals.
use Rattle.std.specs.Prelude.{◌≡◌, ◌↔◌, ◌⊎◌, ℕ, IsTrue, List, length, map, Some, slice_get}
use Rattle.std.specs.List.{AllByRecursion}
use Rattle.x10_heap.specs.declared.export.Export.{Export}
use Rattle.x10_heap.specs.Heaps.{HeapState}
use Rattle.x10_heap.specs.Words.{Context, export_as, has_class, is_named, AreWordsOf, HoldsHeap}
use Rattle.x10_model.specs.declared.slot.Slot.{Slot}
use Rattle.x10_model.specs.Modules.{Module, FitsSlot, FitsImage}
use Rattle.x10_model.specs.Values.{Value, Cells}
use Rattle.x10_model.specs.Signatures.{FitSlots}
use Rattle.x10_model.specs.Copies.{Snapshot, IsOfKindIn}
use Rattle.x10_model.specs.Places as places
use Rattle.x10_model.specs.Places.{Setting}
use Rattle.x10_model.specs.Deliveries.{FitsPlace}
use Rattle.x10_model.specs.Marshalling.{snapshot_of}
use Rattle.x10_model.specs.Frames.{Graph}
use Rattle.x10_frame.specs.declared.head.Head.{Head}
use Rattle.x10_copy.specs.declared.refusal.Refusal.{Refusal}
use Rattle.x10_copy.specs.Names.{AreSound}
use Rattle.x10_copy.specs.Graphs.{IsSoundHeap}
use Rattle.x10_copy.specs.Captured.{kinds_of, IsSnapshot}
use Rattle.x10_copy.specs.Arrived.{HaveHomes, FitsArrival, IsForRoom, IsFirstFault, IsRefusal}

-- where cells stand for the heap and values for the words, the words are sound, and so is the heap
abbrev pub StandingIsSound : Type 0
StandingIsSound =
    (m : Module) (x : Context) (cells : Cells) (slots : List Slot) (words : List ℕ)
    (values : List Value) → FitsImage m → x.classes ≡ m.classes
    → AllByRecursion (FitsSlot (length m.classes)) slots → HoldsHeap x cells
    → AreWordsOf x (kinds_of slots) words values
    → AreSound x.places x.heap (kinds_of slots) words × IsSoundHeap m.classes x.places x.heap

-- what a place takes for a global reference to an object of another place is one there
abbrev pub KnowsExports : Context → (there : ℕ) → HeapState → Type 0
KnowsExports x there heap = (id class : ℕ) → IsTrue (is_named x there id class)
    → IsTrue (has_class (slice_get heap.exports id) class)

-- the graph of what was captured has all that is asked for where it arrives
abbrev pub CapturesFit : Type 0
CapturesFit =
    (m : Module) (x : Context) (cells : Cells) (slots : List Slot) (values : List Value)
    (head : Head) (bytes : List ℕ)
    (captured : IsSnapshot x cells (kinds_of slots) values head bytes) (here home : ℕ)
    (heap : HeapState)
    → x.classes ≡ m.classes → HaveHomes home values slots → KnowsExports x here heap
    → FitsArrival m here home heap slots (snapshot_of captured.graph)

-- a graph that has all that is asked for is refused only where room is lacking
abbrev pub FittingIsTaken : Type 0
FittingIsTaken =
    (m : Module) (here home : ℕ) (heap : HeapState) (slots : List Slot) (g : Graph) (why : Refusal)
    → FitsArrival m here home heap slots (snapshot_of g) → IsRefusal m here home heap slots g why
    → IsForRoom heap g why

-- what is asked of a graph is what the machine asks where a place takes it in: of the place, and of the roots
abbrev pub ArrivalsFit : Type 0
ArrivalsFit =
    (setting : Setting) (place : places.Place) (here home : ℕ) (heap : HeapState)
    (slots : List Slot) (s : Snapshot)
    → place.exports ≡ map export_as heap.exports
    → FitsArrival setting.program here home heap slots s
    ↔ (FitsPlace setting here place s × FitSlots (IsOfKindIn s) home s.roots slots)

-- a graph with a fault doesn't fit the place, or the roots don't fit what is asked of them
abbrev pub FaultsAreMisfits : Type 0
FaultsAreMisfits =
    (setting : Setting) (place : places.Place) (here home : ℕ) (heap : HeapState)
    (slots : List Slot) (g : Graph) (why : Refusal)
    → place.exports ≡ map export_as heap.exports
    → IsFirstFault setting.program here home heap slots g why
    → (FitsPlace setting here place (snapshot_of g) → ⊥)
    ⊎ (FitSlots (IsOfKindIn (snapshot_of g)) home (snapshot_of g).roots slots → ⊥)

-- what fits a place fits it as long as what it exports stays
abbrev pub FittingStays : Type 0
FittingStays =
    (m : Module) (here home : ℕ) (old new : HeapState) (slots : List Slot) (s : Snapshot)
    → ((id : ℕ) (export : Export) → slice_get old.exports id ≡ Some export
    → slice_get new.exports id ≡ Some export)
    → FitsArrival m here home old slots s → FitsArrival m here home new slots s
