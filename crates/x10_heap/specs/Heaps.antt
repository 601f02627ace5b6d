-- What the activities of a place share, each by its number from 0, and what a call adds to it.
use Rattle.std.specs.Prelude.{◌≡◌, ℕ, ◌+◌, ◌^◌, ◌<◌, ◌≤◌, ◌⊎◌, List, [], ◌∷◌, ◌++◌, Option, Some, None, length, take, slice_get, slice_set}
use Rattle.x10_kinds.specs.declared.limit.Limit.{Limit}
use Rattle.x10_kinds.specs.declared.stop.Stop.{Stop}
use Rattle.x10_kinds.specs.declared.stop.Stop.TheVariants as stop
use Rattle.x10_model.specs.declared.limits.TheConstants.{MOST_BYTES}
use Rattle.x10_heap.specs.declared.export.Export.{Export}

-- an object: its class, and the words of its fields
pub record ObjectState : Type 0 where
  pub class : ℕ
  pub fields : List ℕ

-- objects, the bytes of rails and of texts, and the objects that global references name
pub record HeapState : Type 0 where
  pub objects : List ObjectState
  pub rails : List (List ℕ)
  pub texts : List (List ℕ)
  pub exports : List Export

abbrev pub empty : HeapState
empty = record { objects = []; rails = []; texts = []; exports = [] }

-- at most 2^32 - 1 of each
pub record IsWithinLimits {A B C D : Type 0} (objects : List A) (rails : List B) (texts : List C)
    (exports : List D) : Type 0 where
  pub objects_few : length objects < 2 ^ 32
  pub rails_few : length rails < 2 ^ 32
  pub texts_few : length texts < 2 ^ 32
  pub exports_few : length exports < 2 ^ 32

-- the first so many objects, rails and texts
abbrev pub shortened : HeapState → (objects rails texts : ℕ) → HeapState
shortened h objects rails texts = record h
    { objects = take objects h.objects; rails = take rails h.rails; texts = take texts h.texts }

-- ---- what is added

abbrev pub with_object : HeapState → ℕ → List ℕ → HeapState
with_object h class fields = record h {
  objects = h.objects
      ++ record { class = class; fields = fields } ∷ [];
}

abbrev pub with_rail : HeapState → List ℕ → HeapState
with_rail h bytes = record h { rails = h.rails ++ bytes ∷ [] }

abbrev pub with_text : HeapState → List ℕ → HeapState
with_text h text = record h { texts = h.texts ++ text ∷ [] }

abbrev pub with_export : HeapState → ℕ → ℕ → HeapState
with_export h class object = record h {
  exports = h.exports
      ++ record { class = class; object = object } ∷ [];
}

-- ---- what is changed

abbrev pub with_field : HeapState → ℕ → ObjectState → ℕ → ℕ → HeapState
with_field h object o field word = record h
    { objects = slice_set h.objects object (record o { fields = slice_set o.fields field word }) }

abbrev pub with_byte : HeapState → ℕ → List ℕ → ℕ → ℕ → HeapState
with_byte h rail bytes index byte = record h
    { rails = slice_set h.rails rail (slice_set bytes index byte) }

-- ---- what is there

-- an object with such a field
pub record HasField (h : HeapState) (object field : ℕ) : Type 0 where
  pub it : ObjectState
  pub is_there : slice_get h.objects object ≡ Some it
  pub has_it : field < length it.fields

-- ---- limits

-- no number may be given any more: a place has at most 2^32 - 1 of each
abbrev pub IsFull : ℕ → Type 0
IsFull count = 2 ^ 32 ≤ count + 1

-- why nothing was added: memory was refused, or the count is as large as it may be
abbrev pub Refuses : ℕ → Limit → Stop → Type 0
Refuses count limit why = (why ≡ stop.Memory) ⊎ ((why ≡ stop.Limit limit) × IsFull count)

-- ---- texts joined

-- the text of two is added under the next number; none, where it would be longer than a text may be
abbrev pub IsJoined : HeapState → List ℕ → List ℕ → Option ℕ → HeapState → Type 0
IsJoined h t u (Some number) new = (length t + length u ≤ MOST_BYTES) × (number ≡ length h.texts)
    × (new ≡ with_text h (t ++ u))
IsJoined h t u None new = (MOST_BYTES < length t + length u) × (new ≡ h)
