-- What the activities of a place share, as text.
use Rattle.std.specs.Prelude.{ℕ, List, ◌++◌, Option, Some, None, length, slice_get, slice_index, codes, decimal}
use Rattle.x10_kinds.specs.declared.kind.Kind.{Kind}
use Rattle.x10_heap.specs.declared.export.Export.{Export}
use Rattle.x10_heap.specs.Heaps.{HeapState, ObjectState}
use Rattle.x10_states.specs.Json.{array}
use Rattle.x10_states.specs.Values.{word_json}

abbrev pub kind_in : Option (List Kind) → ℕ → Option Kind
kind_in None i = None
kind_in (Some kinds) i = slice_get kinds i

-- the kind of a field of a class, where the classes have fields of these kinds
abbrev pub field_kind : List (List Kind) → (class field : ℕ) → Option Kind
field_kind classes class field = kind_in (slice_get classes class) field

-- an object: its class, and its fields by the kinds of the class
abbrev pub object_text : List (List Kind) → HeapState → ObjectState → List ℕ
object_text classes heap o = codes "[" ++ (decimal o.class ++ (codes "," ++ (array (length o.fields)
    (λ i. word_json heap (field_kind classes o.class i) (slice_index o.fields i)) ++ codes "]")))

-- numbers in decimal, as a list
unfoldable pub numbers_text : List ℕ → List ℕ
numbers_text numbers = array (length numbers) (λ i. decimal (slice_index numbers i))

-- an object that global references name: its class and its number
abbrev pub export_text : Export → List ℕ
export_text e = codes "[" ++ (decimal e.class ++ (codes "," ++ (decimal e.object ++ codes "]")))
