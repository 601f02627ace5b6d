-- What arrives, by the machine's definitions.
use Rattle.std.specs.Prelude.{◌≡◌, ℕ, ◌≤◌, ◌^◌, List}
use Rattle.x10_kinds.specs.declared.kind.Kind.{Kind}
use Rattle.x10_heap.specs.Heaps.{HeapState}
use Rattle.x10_heap.specs.Words.{Context, IsWordOf, AreWordsOf, HoldsHeap}
use Rattle.x10_model.specs.declared.slot.Slot.{Slot}
use Rattle.x10_model.specs.Modules.{Module}
use Rattle.x10_model.specs.Values.{Value, Cells}
use Rattle.x10_model.specs.Copies.{Snapshot, Arrives}
use Rattle.x10_model.specs.Marshalling.{snapshot_of}
use Rattle.x10_model.specs.declared.version.FrameVersion.TheVariants.{Wide}
use Rattle.x10_model.specs.Frames.{Frame, FitsFrame}
use Rattle.x10_frame.specs.Heads.{graph_of}
use Rattle.x10_copy.specs.Captured.{kinds_of}
use Rattle.x10_copy.specs.References.{AreNamedElsewhere}

-- the same place with another heap
abbrev pub with_heap : Context → HeapState → Context
with_heap x heap = record x { heap = heap }

-- The machine's heap takes the snapshot in: the new heap stands for its cells, the roots for the values that arrive,
-- and each word for what it stood for before.
pub record TakesIn (x : Context) (old : Cells) (s : Snapshot) (kinds : List Kind) (roots : List ℕ)
    (new : HeapState) : Type 0 where
  pub values : List Value
  pub cells : Cells
  pub arrives : Arrives old s values cells
  pub holds : HoldsHeap (with_heap x new) cells
  pub words : AreWordsOf (with_heap x new) kinds roots values
  pub kept : (kind : Kind) (word : ℕ) (v : Value) → IsWordOf x kind word v
      → IsWordOf (with_heap x new) kind word v

-- Whatever the heap stood for, and whatever is known of references to other places, as long as those of the frame are
-- among them.
abbrev pub IsTakenIn : Module → (here : ℕ) → HeapState → List Slot → Frame → (roots : List ℕ)
    → HeapState → Type 0
IsTakenIn m here heap slots f roots new =
    (x : Context) (cells : Cells) → x.classes ≡ m.classes → x.here ≡ here → x.heap ≡ heap
    → x.places ≤ 2 ^ 16 → FitsFrame Wide x.places f
    → AreNamedElsewhere x (snapshot_of (graph_of f)) → HoldsHeap x cells
    → TakesIn x cells (snapshot_of (graph_of f)) (kinds_of slots) roots new
