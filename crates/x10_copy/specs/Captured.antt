-- What a capture answers.
use Rattle.std.specs.Prelude.{◌≡◌, ℕ, ◌+◌, ◌<◌, ◌⊎◌, List, map, length, Some, slice_get}
use Rattle.x10_model.specs.declared.limits.TheConstants.{MOST_WIDE}
use Rattle.x10_kinds.specs.declared.limit.Limit.TheVariants as limits
use Rattle.x10_kinds.specs.declared.kind.Kind.{Kind}
use Rattle.x10_kinds.specs.declared.kind.Kind.TheVariants as kind
use Rattle.x10_kinds.specs.declared.stop.Stop.{Stop}
use Rattle.x10_kinds.specs.declared.stop.Stop.TheVariants as stop
use Rattle.x10_heap.specs.Heaps.{HeapState, ObjectState}
use Rattle.x10_heap.specs.Words.{Context, AreWordsOf, HoldsHeap}
use Rattle.x10_model.specs.declared.slot.Slot.{Slot}
use Rattle.x10_model.specs.Maps.{IsIn, AreDistinct}
use Rattle.x10_model.specs.Values.{Value, Cells}
use Rattle.x10_model.specs.declared.version.FrameVersion.TheVariants.{Wide}
use Rattle.x10_model.specs.Frames.{Graph, FitsGraph, spelling}
use Rattle.x10_model.specs.Copies.{Node, Snapshot, IsOfKindIn, Captures}
use Rattle.x10_model.specs.Signatures.{AreOfKinds}
use Rattle.x10_model.specs.Marshalling.{snapshot_of}
use Rattle.x10_frame.specs.declared.head.Head.{Head}
use Rattle.x10_frame.specs.Heads.{with_graph, most_roots}
use Rattle.x10_copy.specs.Names.{Names}
use Rattle.x10_copy.specs.Graphs.{graph_of, AreOnce, AreThere}
use Rattle.x10_copy.specs.References.{AreNamed}

abbrev pub kinds_of : List Slot → List Kind
kinds_of slots = map (λ s. s.kind) slots

-- the roots of a snapshot are of these kinds, and each of its nodes has the fields of its class
pub record FitTheirKinds (classes : List (List Kind)) (kinds : List Kind)
    (s : Snapshot) : Type 0 where
  pub roots : AreOfKinds (IsOfKindIn s) s.roots kinds
  pub nodes : (k : ℕ) (node : Node) → slice_get s.nodes k ≡ Some node
      → (fields : List Kind) × (slice_get classes node.class ≡ Some fields)
      × AreOfKinds (IsOfKindIn s) node.fields fields

-- The bytes spell a frame with the head, whose graph takes each part that the words reach along once, and no other.
pub record IsCaptured (classes : List (List Kind)) (places : ℕ) (heap : HeapState)
    (kinds : List Kind) (words : List ℕ) (head : Head) (bytes : List ℕ) : Type
    0 where
  pub names : Names
  pub once : AreOnce names
  pub there : AreThere heap names
  pub fits : FitsGraph Wide places (most_roots head) (graph_of classes heap names kinds words)
  pub spelled : bytes ≡ spelling Wide (with_graph head (graph_of classes heap names kinds words))
  pub of_kinds : FitTheirKinds classes kinds (snapshot_of (graph_of classes heap names kinds words))

-- The same by the machine's definitions, where cells stand for the heap and values for the words: the frame's graph is a
-- snapshot of the values, with sharing and cycles kept, and each global reference in it names an object.
pub record IsSnapshot (x : Context) (cells : Cells) (kinds : List Kind) (values : List Value)
    (head : Head) (bytes : List ℕ) : Type 0 where
  pub graph : Graph
  pub fits : FitsGraph Wide x.places (most_roots head) graph
  pub spelled : bytes ≡ spelling Wide (with_graph head graph)
  pub of_kinds : FitTheirKinds x.classes kinds (snapshot_of graph)
  pub captures : Captures cells values (snapshot_of graph)
  pub named : AreNamed x (snapshot_of graph)

-- whatever the heap and the words stand for
abbrev pub IsCopied : (classes : List (List Kind)) (places : ℕ) (heap : HeapState)
    (kinds : List Kind) (words : List ℕ) → Head → List ℕ → Type 0
IsCopied classes places heap kinds words head bytes =
    (x : Context) (cells : Cells) (values : List Value) → x.classes ≡ classes → x.places ≡ places
    → x.heap ≡ heap → HoldsHeap x cells
    → AreWordsOf x kinds words values → IsSnapshot x cells kinds values head bytes

-- ---- limits

-- the kinds of words that may lead to an object
abbrev pub LeadsToObject : Kind → Type 0
LeadsToObject (kind.Obj c) = Unit {0}
LeadsToObject (kind.Opt c) = Unit {0}
LeadsToObject _ = ⊥

-- a word that is met: a root, or a field of an object that a word which was met leads to
pub data IsMet (classes : List (List Kind)) (heap : HeapState) (kinds : List Kind)
    (words : List ℕ) : Kind → ℕ → Type 0 where
  root : (i w : ℕ) (k : Kind) → slice_get kinds i ≡ Some k → slice_get words i ≡ Some w
      → IsMet classes heap kinds words k w
  field : (number j w : ℕ) (holder k : Kind) (object : ObjectState) (fields : List Kind)
      → LeadsToObject holder → IsMet classes heap kinds words holder (number + 1)
      → slice_get heap.objects number ≡ Some object → slice_get classes object.class ≡ Some fields
      → slice_get fields j ≡ Some k
      → slice_get object.fields j ≡ Some w → IsMet classes heap kinds words k w

-- a part of the heap that a word which is met leads to
abbrev pub MeetsText : List (List Kind) → HeapState → List Kind → List ℕ → ℕ → Type 0
MeetsText classes heap kinds words p = IsMet classes heap kinds words kind.Text p

abbrev pub MeetsRail : List (List Kind) → HeapState → List Kind → List ℕ → ℕ → Type 0
MeetsRail classes heap kinds words p = IsMet classes heap kinds words kind.Rail p

abbrev pub MeetsObject : List (List Kind) → HeapState → List Kind → List ℕ → ℕ → Type 0
MeetsObject classes heap kinds words p = (holder : Kind) × LeadsToObject holder
    × IsMet classes heap kinds words holder (p + 1)

-- there are more names of a kind than a frame may have parts of it, or memory was refused
abbrev pub IsOver : Names → Stop → Type 0
IsOver n why =
    (why ≡ stop.Memory)
    ⊎ ((why ≡ stop.Limit limits.FrameObjects) × (MOST_WIDE < length n.objects))
    ⊎ ((why ≡ stop.Limit limits.FrameTexts) × (MOST_WIDE < length n.texts))
    ⊎ ((why ≡ stop.Limit limits.FrameRails) × (MOST_WIDE < length n.rails))

-- more parts than a frame may have of them
pub record AreMany (Meets : ℕ → Type 0) : Type 0 where
  pub parts : List ℕ
  pub distinct : AreDistinct parts
  pub many : MOST_WIDE < length parts
  pub met : (p : ℕ) → IsIn p parts → Meets p

-- Why there is no frame: memory was refused, or the words meet more nodes, texts or rails than a frame may have.
abbrev pub Refuses : List (List Kind) → HeapState → List Kind → List ℕ → Stop → Type 0
Refuses classes heap kinds words why =
    (why ≡ stop.Memory)
    ⊎ ((why ≡ stop.Limit limits.FrameObjects) × AreMany (MeetsObject classes heap kinds words))
    ⊎ ((why ≡ stop.Limit limits.FrameTexts) × AreMany (MeetsText classes heap kinds words))
    ⊎ ((why ≡ stop.Limit limits.FrameRails) × AreMany (MeetsRail classes heap kinds words))
