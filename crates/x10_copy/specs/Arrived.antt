-- What arrives in a heap, and why a frame is refused.
use Rattle.std.specs.Prelude.{◌≡◌, ◌↔◌, ℕ, ◌+◌, ◌≤◌, ◌^◌, ◌⊎◌, Bool, IsTrue, Option, Some, None, List, ◌++◌, map, length}
use Rattle.std.specs.Int.{w64, cast_unsigned}
use Rattle.x10_kinds.specs.declared.limit.Limit.{Limit}
use Rattle.x10_kinds.specs.declared.limit.Limit.TheVariants as limits
use Rattle.x10_kinds.specs.declared.stop.Stop.{Stop}
use Rattle.x10_kinds.specs.declared.stop.Stop.TheVariants as stop
use Rattle.x10_heap.specs.Heaps.{HeapState, ObjectState}
use Rattle.x10_heap.specs.References.{reference_word}
use Rattle.x10_heap.specs.Words.{export_as}
use Rattle.x10_model.specs.declared.slot.Slot.{Slot}
use Rattle.x10_model.specs.Maps.{Pairwise}
use Rattle.x10_model.specs.Modules.{Module}
use Rattle.x10_model.specs.Values.{Value}
use Rattle.x10_model.specs.Signatures.{HasHome, AreOfKinds}
use Rattle.x10_model.specs.Copies.{Snapshot, IsOfKindIn}
use Rattle.x10_model.specs.Deliveries.{FitsClasses, NamesExports}
use Rattle.x10_model.specs.Marshalling.{snapshot_of}
use Rattle.x10_model.specs.Frames.{Item, IntItem, PlaceItem, TextItem, RailItem, ObjectItem, NullItem, RefItem, Node, Graph}
use Rattle.x10_copy.specs.declared.refusal.Refusal.{Refusal}
use Rattle.x10_copy.specs.declared.refusal.Refusal.TheVariants as refusal
use Rattle.x10_copy.specs.Captured.{kinds_of}

-- ---- what is added

-- The word of an item, where so many texts, rails and objects are there already: the parts of the frame come behind them.
abbrev pub word_at : (texts rails objects : ℕ) → Item → ℕ
word_at texts rails objects (IntItem z) = cast_unsigned w64 z
word_at texts rails objects (PlaceItem p) = p
word_at texts rails objects (TextItem i) = texts + i
word_at texts rails objects (RailItem i) = rails + i
word_at texts rails objects (ObjectItem k) = objects + k + 1
word_at texts rails objects NullItem = 0
word_at texts rails objects (RefItem home id class) = reference_word home id

-- the same behind the parts of a heap
abbrev pub word_in : HeapState → Item → ℕ
word_in h item = word_at (length h.texts) (length h.rails) (length h.objects) item

-- a node as an object: its fields are words, by how many texts, rails and objects are there
abbrev pub object_from : (texts rails objects : ℕ) → Node → ObjectState
object_from texts rails objects node = record {
  class = node.class;
  fields = map (word_at texts rails objects) node.fields;
}

abbrev pub with_texts : HeapState → List (List ℕ) → HeapState
with_texts h texts = record h { texts = h.texts ++ texts }

abbrev pub with_rails : HeapState → List (List ℕ) → HeapState
with_rails h rails = record h { rails = h.rails ++ rails }

abbrev pub with_objects : HeapState → List ObjectState → HeapState
with_objects h objects = record h { objects = h.objects ++ objects }

-- why so many more were not added: memory was refused, or there would be more than 2^32 - 1
abbrev pub Stops : (limit : Limit) (count more : ℕ) → Stop → Type 0
Stops limit count more why = (why ≡ stop.Memory)
    ⊎ ((why ≡ stop.Limit limit) × (2 ^ 32 ≤ count + more))

-- the heap with a copy of the graph beside all that it has
abbrev pub arrived : HeapState → Graph → HeapState
arrived h g = record h {
  objects = h.objects ++ map (object_from (length h.texts) (length h.rails) (length h.objects))
      g.nodes;
  rails = h.rails ++ g.rails;
  texts = h.texts ++ g.texts;
}

-- the heap with more in it
pub record IsLonger (h new : HeapState) : Type 0 where
  pub objects : List ObjectState
  pub rails : List (List ℕ)
  pub texts : List (List ℕ)
  pub objects_are : new.objects ≡ h.objects ++ objects
  pub rails_are : new.rails ≡ h.rails ++ rails
  pub texts_are : new.texts ≡ h.texts ++ texts
  pub exports_are : new.exports ≡ h.exports

-- ---- what is asked of a frame

-- the roots are of the slots' kinds, and each node has the fields of its class
pub record FitKinds (m : Module) (slots : List Slot) (s : Snapshot) : Type 0 where
  pub roots : AreOfKinds (IsOfKindIn s) s.roots (kinds_of slots)
  pub classes : FitsClasses m s

-- each root of which the slot asks for a home has that one
abbrev pub HaveHomes : ℕ → List Value → List Slot → Type 0
HaveHomes at values slots = Pairwise (λ v slot. IsTrue slot.home_here → HasHome at v) values slots

-- a graph that may arrive at a place: global references with their home there name exports of their class
pub record FitsArrival (m : Module) (here home : ℕ) (h : HeapState) (slots : List Slot)
    (s : Snapshot) : Type 0 where
  pub kinds : FitKinds m slots s
  pub homes : HaveHomes home s.roots slots
  pub exports : NamesExports here (map export_as h.exports) s

-- what is found of a graph's values: nothing where they aren't of their kinds, else whether global references with their
-- home here name exports of their class
abbrev pub IsFound : Module → (here : ℕ) → HeapState → List Slot → Graph → Option Bool → Type 0
IsFound m here h slots g None = FitKinds m slots (snapshot_of g) → ⊥
IsFound m here h slots g (Some exported) = FitKinds m slots (snapshot_of g)
    × (IsTrue exported ↔ NamesExports here (map export_as h.exports) (snapshot_of g))

-- there would be more than 2^32 - 1 objects, texts or rails
abbrev pub PassesLimit : HeapState → Graph → Limit → Type 0
PassesLimit h g limit =
    ((limit ≡ limits.Objects) × (2 ^ 32 ≤ length h.objects + length g.nodes))
    ⊎ ((limit ≡ limits.Texts) × (2 ^ 32 ≤ length h.texts + length g.texts))
    ⊎ ((limit ≡ limits.Rails) × (2 ^ 32 ≤ length h.rails + length g.rails))

-- the first fault of the values in this order
abbrev pub IsFirstFault : Module → (here home : ℕ) → HeapState → List Slot → Graph → Refusal
    → Type 0
IsFirstFault m here home h slots g refusal.Kind = FitKinds m slots (snapshot_of g) → ⊥
IsFirstFault m here home h slots g refusal.Home = FitKinds m slots (snapshot_of g)
    × (HaveHomes home (snapshot_of g).roots slots → ⊥)
IsFirstFault m here home h slots g refusal.Ref = FitKinds m slots (snapshot_of g)
    × HaveHomes home (snapshot_of g).roots slots ×
    (NamesExports here (map export_as h.exports) (snapshot_of g) → ⊥)
IsFirstFault m here home h slots g _ = ⊥

-- memory was refused, or a count would pass its limit
abbrev pub IsForRoom : HeapState → Graph → Refusal → Type 0
IsForRoom heap g refusal.Memory = Unit {0}
IsForRoom heap g (refusal.Limit limit) = PassesLimit heap g limit
IsForRoom heap g _ = ⊥

-- why nothing arrives: the first fault; or all fits, and memory was refused or a count would pass its limit
abbrev pub IsRefusal : Module → (here home : ℕ) → HeapState → List Slot → Graph → Refusal → Type 0
IsRefusal m here home h slots g refusal.Memory = FitsArrival m here home h slots (snapshot_of g)
IsRefusal m here home h slots g (refusal.Limit limit) =
    FitsArrival m here home h slots (snapshot_of g) × PassesLimit h g limit
IsRefusal m here home h slots g why = IsFirstFault m here home h slots g why

-- the heap has a copy of the graph beside all that it had, and the roots are these words
pub record IsBrought (h : HeapState) (g : Graph) (roots : List ℕ) (new : HeapState) : Type 0 where
  pub roots_are : roots ≡ map (word_in h) g.roots
  pub heap_is : new ≡ arrived h g

-- the same of a graph that may arrive
pub record IsArrived (m : Module) (here home : ℕ) (h : HeapState) (slots : List Slot) (g : Graph)
    (roots : List ℕ) (new : HeapState) : Type 0 where
  pub fits : FitsArrival m here home h slots (snapshot_of g)
  pub roots_are : roots ≡ map (word_in h) g.roots
  pub heap_is : new ≡ arrived h g

-- why not all was added: memory was refused, or a count would pass its limit
abbrev pub StopsAll : HeapState → Graph → Stop → Type 0
StopsAll h g stop.Memory = Unit {0}
StopsAll h g (stop.Limit limit) = PassesLimit h g limit
StopsAll h g stop.Stopped = ⊥

abbrev pub same_stop : Stop → Refusal
same_stop stop.Memory = refusal.Memory
same_stop (stop.Limit limit) = refusal.Limit limit
same_stop stop.Stopped = refusal.Stopped
