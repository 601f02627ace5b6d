-- Which texts an instruction makes in the heap of its place.
use Rattle.std.specs.Prelude.{◌≡◌, ℕ, ◌+◌, Bool, true, false, nat_le, List, [], ◌∷◌, ◌++◌, length, Some, slice_get}
use Rattle.x10_code.specs.declared.op.Op.{Op}
use Rattle.x10_code.specs.declared.op.Op.TheVariants as op
use Rattle.x10_code.specs.declared.instr.Instr.{Instr}
use Rattle.x10_model.specs.Modules.{Module}
use Rattle.x10_model.specs.declared.limits.TheConstants.{MOST_BYTES}
use Rattle.x10_heap.specs.Heaps.{HeapState}
use Rattle.x10_place.specs.Frames.{text_in}

-- the text alone, or none
abbrev pub only_if : Bool → List ℕ → List (List ℕ)
only_if true text = text ∷ []
only_if false text = []

-- TEXTK makes its text of the module, and TCAT its two texts joined, unless they are too long together. Nothing else makes one.
abbrev pub MakesTexts : Op → Module → HeapState → List ℕ → Instr → List (List ℕ) → Type 0
MakesTexts op.Textk program heap words i texts = (text : List ℕ)
    × (slice_get program.texts i.x ≡ Some text) × (texts ≡ text ∷ [])
MakesTexts op.Tcat program heap words i texts = (t u : List ℕ) × (text_in heap words i.b ≡ Some t)
    × (text_in heap words i.c ≡ Some u)
    × (texts ≡ only_if (nat_le (length t + length u) MOST_BYTES) (t ++ u))
MakesTexts _ program heap words i texts = texts ≡ []
