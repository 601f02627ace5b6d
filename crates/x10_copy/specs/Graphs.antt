-- The graph of a frame that takes parts of a heap along.
use Rattle.std.specs.Prelude.{ℕ, ◌^◌, ◌≤◌, ◌<◌, List, [], map, length, slice_index, slice_index_or}
use Rattle.x10_kinds.specs.declared.kind.Kind.{Kind}
use Rattle.x10_heap.specs.Heaps.{HeapState, ObjectState}
use Rattle.x10_model.specs.Maps.{AreDistinct}
use Rattle.x10_model.specs.Frames.{Node, Graph}
use Rattle.x10_copy.specs.Names.{Names, items_of, noted_all, AreWords, AreSound, IsPart}

abbrev pub kinds_at : List (List Kind) → ℕ → List Kind
kinds_at classes c = slice_index_or classes c []

abbrev pub no_object : ObjectState
no_object = record { class = 0; fields = [] }

abbrev pub object_at : HeapState → ℕ → ObjectState
object_at heap p = slice_index_or heap.objects p no_object

abbrev pub text_at : HeapState → ℕ → List ℕ
text_at heap p = slice_index_or heap.texts p []

abbrev pub rail_at : HeapState → ℕ → List ℕ
rail_at heap p = slice_index_or heap.rails p []

-- the names once the words of an object with this number were met
abbrev pub noted_object : List (List Kind) → HeapState → Names → ℕ → Names
noted_object classes heap n p = noted_all n (kinds_at classes (object_at heap p).class)
    (object_at heap p).fields

-- the words of the object with this number are those of its class
pub record IsWordy (classes : List (List Kind)) (heap : HeapState) (p : ℕ) : Type 0 where
  pub there : p < length heap.objects
  pub class : (object_at heap p).class < length classes
  pub words : AreWords (kinds_at classes (object_at heap p).class) (object_at heap p).fields

-- the words of each object that has a name are those of its class, which has at most 16 fields
abbrev pub AreWordy : List (List Kind) → HeapState → Names → Type 0
AreWordy classes heap n = (k : ℕ) → k < length n.objects
    → IsWordy classes heap (slice_index n.objects k) ×
    (length (kinds_at classes (object_at heap (slice_index n.objects k)).class) ≤ 16)

-- an object as a node, with what its words are by the kinds of its class
abbrev pub node_of : List (List Kind) → Names → ObjectState → Node
node_of classes n o = record {
  class = o.class;
  fields = items_of n (kinds_at classes o.class) o.fields;
}

-- the nodes of the objects with these numbers
abbrev pub nodes_of : List (List Kind) → HeapState → Names → List ℕ → List Node
nodes_of classes heap n ps = map (λ p. node_of classes n (object_at heap p)) ps

-- text i is the heap's text names.texts[i], and so are rails and nodes; the roots are what these words are
abbrev pub graph_of : List (List Kind) → HeapState → Names → List Kind → List ℕ → Graph
graph_of classes heap n kinds words = record {
  roots = items_of n kinds words;
  texts = map (text_at heap) n.texts;
  rails = map (rail_at heap) n.rails;
  nodes = nodes_of classes heap n n.objects;
}

-- no part of the heap has two names
pub record AreOnce (n : Names) : Type 0 where
  pub texts : AreDistinct n.texts
  pub rails : AreDistinct n.rails
  pub objects : AreDistinct n.objects

-- the object with this number has sound words for the kinds of its class, at most 16
pub record IsSoundAt (classes : List (List Kind)) (places : ℕ) (heap : HeapState)
    (p : ℕ) : Type 0 where
  pub class : (object_at heap p).class < length classes
  pub small : (object_at heap p).class < 2 ^ 16
  pub count : length (kinds_at classes (object_at heap p).class) ≤ 16
  pub words : AreSound places heap (kinds_at classes (object_at heap p).class)
      (object_at heap p).fields

abbrev pub IsSoundHeap : List (List Kind) → ℕ → HeapState → Type 0
IsSoundHeap classes places heap = (p : ℕ) → p < length heap.objects
    → IsSoundAt classes places heap p

-- what holds of each text, of each rail and of each object that has a name
pub record EachPart (T R O : ℕ → Type 0) (n : Names) : Type 0 where
  pub texts : (i : ℕ) → i < length n.texts → T (slice_index n.texts i)
  pub rails : (i : ℕ) → i < length n.rails → R (slice_index n.rails i)
  pub objects : (i : ℕ) → i < length n.objects → O (slice_index n.objects i)

-- each part that has a name is there
abbrev pub AreThere : HeapState → Names → Type 0
AreThere heap n = EachPart (IsPart (length heap.texts)) (IsPart (length heap.rails))
    (IsPart (length heap.objects)) n
