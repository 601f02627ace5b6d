-- What the words of a place stand for, and when cells stand for its heap. Object n of a heap is the reference 2n, rail
-- n is 2n + 1.
use Rattle.std.specs.Prelude.{◌≡◌, ℕ, ◌+◌, ◌*◌, ◌^◌, ◌<◌, ◌≤◌, ◌==◌, ◌⊎◌, Bool, false, IsTrue, List, [], ◌∷◌, length, Option, Some, None}
use Rattle.std.specs.Prelude.{slice_get, if◌then◌else◌}
use Rattle.std.specs.Int.{w64, cast_signed}
use Rattle.x10_kinds.specs.declared.kind.Kind.{Kind}
use Rattle.x10_kinds.specs.declared.kind.Kind.TheVariants as kind
use Rattle.x10_model.specs.Values.{Value, Int, Place, Text, Rail, Object, Null, Ref, Cell, Fields, Bytes, Cells}
use Rattle.x10_model.specs.Places as places
use Rattle.x10_heap.specs.declared.export.Export.{Export}
use Rattle.x10_heap.specs.Heaps.{HeapState, ObjectState}
use Rattle.x10_heap.specs.References.{home_of, id_of}

-- what the meaning of a word rests on: the kinds of each class's fields, the place and how many there are, its heap, and
-- which home, number and class name an object at another place
pub record Context : Type 0 where
  pub classes : List (List Kind)
  pub here : ℕ
  pub places : ℕ
  pub heap : HeapState
  pub far : ℕ → ℕ → ℕ → Bool

-- an export as the machine has it
abbrev pub export_as : Export → places.Export
export_as export = record { class = export.class; object = 2 * export.object }

abbrev pub has_class : Option Export → ℕ → Bool
has_class None class = false
has_class (Some export) class = export.class == class

-- a global reference names an object of the class
abbrev pub is_named : Context → (home id class : ℕ) → Bool
is_named x home id class = if home == x.here then has_class
    (slice_get x.heap.exports id) class else x.far home id class

-- the word is one more than the number of an object of the class
pub record IsObjectWord (heap : HeapState) (class word : ℕ) (v : Value) : Type 0 where
  pub number : ℕ
  pub object : ObjectState
  pub word_is : word ≡ number + 1
  pub is_there : slice_get heap.objects number ≡ Some object
  pub class_is : object.class ≡ class
  pub value_is : v ≡ Object (2 * number)

-- A word of a kind stands for a value: a number in two's complement, a place's number, the number of a text or a rail, one
-- more than that of an object, 0 for null, or a global reference as its home and its id there.
abbrev pub IsWordOf : Context → Kind → ℕ → Value → Type 0
IsWordOf x kind.Int w v = v ≡ Int (cast_signed w64 w)
IsWordOf x kind.Place w v = (w < x.places) × (v ≡ Place w)
IsWordOf x kind.Text w v = (text : List ℕ) × (slice_get x.heap.texts w ≡ Some text)
    × (v ≡ Text text)
IsWordOf x kind.Rail w v = (bytes : List ℕ) × (slice_get x.heap.rails w ≡ Some bytes)
    × (v ≡ Rail (2 * w + 1))
IsWordOf x (kind.Obj c) w v = IsObjectWord x.heap c w v
IsWordOf x (kind.Opt c) w v = ((w ≡ 0) × (v ≡ Null)) ⊎ IsObjectWord x.heap c w v
IsWordOf x (kind.GRef c) w v = (home_of w < x.places) × (id_of w < 2 ^ 32)
    × IsTrue (is_named x (home_of w) (id_of w) c) × (v ≡ Ref (home_of w) (id_of w) c)

-- one word and one value for each kind, and each word stands for its value
abbrev pub AreWordsOf : Context → List Kind → List ℕ → List Value → Type 0
AreWordsOf x [] [] [] = Unit {0}
AreWordsOf x (k ∷ ks) (w ∷ ws) (v ∷ vs) = IsWordOf x k w v × AreWordsOf x ks ws vs
AreWordsOf x _ _ _ = ⊥

-- the cell of an object: its class, and values that its words stand for by the kinds of the class
pub record IsObjectCell (x : Context) (object : ObjectState) (cell : Option Cell) : Type 0 where
  pub kinds : List Kind
  pub kinds_are : slice_get x.classes object.class ≡ Some kinds
  pub values : List Value
  pub words : AreWordsOf x kinds object.fields values
  pub cell_is : cell ≡ Some (Fields object.class values)

-- the same where there is one, and nothing where there is none
abbrev pub HoldsObject : Context → Option ObjectState → Option Cell → Type 0
HoldsObject x None cell = cell ≡ None
HoldsObject x (Some object) cell = IsObjectCell x object cell

abbrev pub rail_cell : Option (List ℕ) → Option Cell
rail_cell None = None
rail_cell (Some bytes) = Some (Bytes bytes)

-- the cells are those of the heap and no others, and each number of an object, a text or a rail has 32 bits
pub record HoldsHeap (x : Context) (cells : Cells) : Type 0 where
  pub objects : (n : ℕ) → HoldsObject x (slice_get x.heap.objects n) (cells (2 * n))
  pub rails : (n : ℕ) → cells (2 * n + 1) ≡ rail_cell (slice_get x.heap.rails n)
  pub few_objects : length x.heap.objects ≤ 2 ^ 32
  pub few_texts : length x.heap.texts ≤ 2 ^ 32
  pub few_rails : length x.heap.rails ≤ 2 ^ 32
