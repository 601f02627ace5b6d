-- Values in words: those of the machine, and the words of a place, which stand for them by their kinds.
use Rattle.std.specs.Prelude.{ℕ, zero, suc, ◌/◌, List, [], ◌∷◌, ◌++◌, Option, Some, None, slice_get, codes, decimal}
use Rattle.std.specs.Fmt.{signed_decimal}
use Rattle.std.specs.Int.{w64, cast_signed}
use Rattle.x10_kinds.specs.declared.kind.Kind.{Kind}
use Rattle.x10_kinds.specs.declared.kind.Kind.TheVariants as kind
use Rattle.x10_model.specs.Values.{Value, Int, Place, Text, Rail, Object, Null, Ref}
use Rattle.x10_asm.specs.Listing.{quoted}
use Rattle.x10_heap.specs.Heaps.{HeapState}
use Rattle.x10_heap.specs.References.{home_of, id_of}
use Rattle.x10_states.specs.Json.{json}

-- ---- each value in words

abbrev pub place_words : ℕ → List ℕ
place_words p = codes "place " ++ decimal p

abbrev pub rail_words : ℕ → List ℕ
rail_words n = codes "rail " ++ decimal n

abbrev pub object_words : ℕ → List ℕ
object_words n = codes "object " ++ decimal n

abbrev pub reference_words : (home id : ℕ) → List ℕ
reference_words home id = codes "reference "
    ++ (decimal id ++ (codes " of place " ++ decimal home))

-- what is said where a word names nothing
abbrev pub unknown : List ℕ
unknown = 63 ∷ []

-- A value of the machine: a number in decimal, a text as assembler text has it, and what else it is by its number. Objects
-- have the even references of their place, rails the odd ones.
abbrev pub value_text : Value → List ℕ
value_text (Int z) = signed_decimal z
value_text (Place p) = place_words p
value_text (Text t) = quoted t
value_text (Rail r) = rail_words (r / 2)
value_text (Object r) = object_words (r / 2)
value_text Null = codes "null"
value_text (Ref home id class) = reference_words home id

-- ---- the word of a place

abbrev pub text_words : Option (List ℕ) → List ℕ
text_words None = unknown
text_words (Some t) = quoted t

-- one more than the number of an object; for 0 there is another word
abbrev pub object_or : List ℕ → ℕ → List ℕ
object_or other zero = other
object_or other (suc n) = object_words n

-- a word of a kind
abbrev pub word_text : HeapState → Kind → ℕ → List ℕ
word_text heap kind.Int w = signed_decimal (cast_signed w64 w)
word_text heap kind.Place w = place_words w
word_text heap kind.Text w = text_words (slice_get heap.texts w)
word_text heap kind.Rail w = rail_words w
word_text heap (kind.Obj c) w = object_or unknown w
word_text heap (kind.Opt c) w = object_or (codes "null") w
word_text heap (kind.GRef c) w = reference_words (home_of w) (id_of w)

-- a word in quotes, of a kind; one of which no kind is known
abbrev pub word_json : HeapState → Option Kind → ℕ → List ℕ
word_json heap None w = codes "\"?\""
word_json heap (Some k) w = json (word_text heap k w)
