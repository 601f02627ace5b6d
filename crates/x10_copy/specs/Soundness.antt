-- The tests of a heap's words, as the program makes them.
use Rattle.std.specs.Prelude.{ℕ, zero, suc, ◌^◌, ◌==◌, ◌&&◌, ◌||◌, nat_lt, Bool, true, false, List, length, Option, Some, None, slice_get}
use Rattle.x10_kinds.specs.declared.kind.Kind.{Kind}
use Rattle.x10_kinds.specs.declared.kind.Kind.TheVariants as kind
use Rattle.x10_heap.specs.Heaps.{HeapState, ObjectState}
use Rattle.x10_heap.specs.References.{home_of, id_of}
use Rattle.x10_copy.specs.Fitting.{pairs_pass, each_passes}

abbrev pub of_class : Option ObjectState → ℕ → Bool
of_class None c = false
of_class (Some object) c = object.class == c

-- one more than the number of an object of the class
abbrev pub object_word : HeapState → ℕ → ℕ → Bool
object_word heap c zero = false
object_word heap c (suc number) = of_class (slice_get heap.objects number) c

abbrev pub word_sound : ℕ → HeapState → Kind → ℕ → Bool
word_sound places heap kind.Int w = true
word_sound places heap kind.Place w = nat_lt w places
word_sound places heap kind.Text w = nat_lt w (length heap.texts)
word_sound places heap kind.Rail w = nat_lt w (length heap.rails)
word_sound places heap (kind.Obj c) w = object_word heap c w
word_sound places heap (kind.Opt c) w = (w == 0) || object_word heap c w
word_sound places heap (kind.GRef c) w =
    nat_lt (home_of w) places && (nat_lt (id_of w) (2 ^ 32) && nat_lt c (2 ^ 16))

abbrev pub words_sound : ℕ → HeapState → List Kind → List ℕ → Bool
words_sound places heap kinds words = pairs_pass (word_sound places heap) kinds words

abbrev pub fields_sound : ℕ → HeapState → Option (List Kind) → List ℕ → Bool
fields_sound places heap None words = false
fields_sound places heap (Some kinds) words = words_sound places heap kinds words

abbrev pub object_sound : List (List Kind) → ℕ → HeapState → ObjectState → Bool
object_sound classes places heap object =
    fields_sound places heap (slice_get classes object.class) object.fields

abbrev pub heap_sound : List (List Kind) → ℕ → HeapState → Bool
heap_sound classes places heap = each_passes (object_sound classes places heap) heap.objects
