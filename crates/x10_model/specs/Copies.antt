-- Deep copies: a snapshot holds what some values reach, with sharing and cycles kept.
use Rattle.std.specs.Prelude.{◌≡◌, ◌⊎◌, ℕ, ◌<◌, List, map, length, Some, None, slice_get, slice_index}
use Rattle.x10_model.specs.Maps.{IsIn, AreDistinct}
use Rattle.x10_kinds.specs.declared.kind.Kind.{Kind}
use Rattle.x10_model.specs.Values.{Value, Int, Place, Text, Rail, Object, Null, Ref, Fields, Bytes, Cells, IsOfKindBy}

-- an object of a snapshot
pub record Node : Type 0 where
  pub class : ℕ
  pub fields : List Value

-- values with all that they reach; a reference in it is the number of one of its own nodes or rails
pub record Snapshot : Type 0 where
  pub roots : List Value
  pub rails : List (List ℕ)
  pub nodes : List Node

-- node k is there, and of the class
abbrev pub IsNodeOf : Snapshot → ℕ → ℕ → Type 0
IsNodeOf s k class = (node : Node) × (slice_get s.nodes k ≡ Some node) × (node.class ≡ class)

-- a value of the snapshot is of the kind
abbrev pub IsOfKindIn : Snapshot → Value → Kind → Type 0
IsOfKindIn s v kind = IsOfKindBy (λ i. i < length s.rails) (IsNodeOf s) v kind

-- where the nodes and rails of a snapshot lie in a heap
pub record Names : Type 0 where
  pub objects : List ℕ
  pub rails : List ℕ

-- a value of the snapshot, as the heap has it
abbrev pub named : Names → Value → Value
named n (Int z) = Int z
named n (Place p) = Place p
named n (Text t) = Text t
named n (Rail i) = Rail (slice_index n.rails i)
named n (Object k) = Object (slice_index n.objects k)
named n Null = Null
named n (Ref home id class) = Ref home id class

-- the roots and what follows from them by fields
pub data IsReached (s : Snapshot) : Value → Type 0 where
  root : (v : Value) → IsIn v s.roots → IsReached s v
  field : (v : Value) (k : ℕ) (node : Node) → IsReached s (Object k)
      → slice_get s.nodes k ≡ Some node → IsIn v node.fields → IsReached s v

-- a reference in the value is one of the snapshot's
abbrev pub IsInside : Snapshot → Value → Type 0
IsInside s (Rail i) = i < length s.rails
IsInside s (Object k) = k < length s.nodes
IsInside s _ = Unit {0}

-- the snapshot by itself: each reference leads to one of its parts, and each part is reached
pub record IsWhole (s : Snapshot) : Type 0 where
  pub roots : (v : Value) → IsIn v s.roots → IsInside s v
  pub fields : (k : ℕ) (node : Node) (v : Value) → slice_get s.nodes k ≡ Some node
      → IsIn v node.fields → IsInside s v
  pub nodes_reached : (k : ℕ) → k < length s.nodes → IsReached s (Object k)
  pub rails_reached : (i : ℕ) → i < length s.rails → IsReached s (Rail i)

-- the names are one for each part, and no two parts share one
pub record AreNamesOf (s : Snapshot) (n : Names) : Type 0 where
  pub objects : length n.objects ≡ length s.nodes
  pub rails : length n.rails ≡ length s.rails
  pub objects_distinct : AreDistinct n.objects
  pub rails_distinct : AreDistinct n.rails

-- the values in the heap and the snapshot are copies of one another: node k is the object names.objects[k] with the
-- same class and the same fields, rail i the rail names.rails[i] with the same bytes, and nothing else is reached
pub record IsCopy (cells : Cells) (values : List Value) (s : Snapshot) (n : Names) : Type 0 where
  pub whole : IsWhole s
  pub names : AreNamesOf s n
  pub roots : values ≡ map (named n) s.roots
  pub nodes : (k : ℕ) (node : Node) → slice_get s.nodes k ≡ Some node
      → cells (slice_index n.objects k) ≡ Some (Fields node.class (map (named n) node.fields))
  pub bytes : (i : ℕ) (bytes : List ℕ) → slice_get s.rails i ≡ Some bytes
      → cells (slice_index n.rails i) ≡ Some (Bytes bytes)

-- the snapshot of some values
abbrev pub Captures : Cells → List Value → Snapshot → Type 0
Captures cells values s = (n : Names) × IsCopy cells values s n

-- a reference that is one of the names
abbrev pub IsName : Names → ℕ → Type 0
IsName n reference = IsIn reference n.objects ⊎ IsIn reference n.rails

-- a heap takes in a snapshot: its parts are new cells, and every other cell is as before
pub record Arrives (old : Cells) (s : Snapshot) (values : List Value) (new : Cells) : Type 0 where
  pub names : Names
  pub copy : IsCopy new values s names
  pub unused : (reference : ℕ) → IsName names reference → old reference ≡ None
  pub others : (reference : ℕ) → (IsName names reference → ⊥) → new reference ≡ old reference
