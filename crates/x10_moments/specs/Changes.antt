-- How a list of texts changed, as a value of JSON.
use Rattle.std.specs.Prelude.{ℕ, zero, suc, Bool, false, List, [], ◌++◌, Option, String, Some, None, codes, decimal, length, map, slice_get, if◌then◌else◌}
use Rattle.std.specs.Str.{bytes_eq}
use Rattle.std.specs.String.{string_bytes}

-- an element with its number
abbrev pub entry : ℕ → List ℕ → List ℕ
entry n text = codes ",[" ++ (decimal n ++ (codes "," ++ (text ++ codes "]")))

-- whether an element was there before, and was this text
abbrev pub was : Option (List ℕ) → List ℕ → Bool
was None text = false
was (Some before) text = bytes_eq before text

-- an element, if there is one, where it isn't what it was before
abbrev pub entry_if : Option (List ℕ) → ℕ → Option (List ℕ) → List ℕ
entry_if before n None = []
entry_if before n (Some text) = if was before text then [] else entry n text

-- so many texts, one after another
abbrev pub pieces : ℕ → (ℕ → List ℕ) → List ℕ
pieces zero piece = []
pieces (suc n) piece = pieces n piece ++ piece n

-- those of the first so many elements that are new or other than before
abbrev pub entries : (old new : List (List ℕ)) → ℕ → List ℕ
entries old new n = pieces n (λ i. entry_if (slice_get old i) i (slice_get new i))

-- how many elements there are now, and those that are new or other than before
abbrev pub change_text : (old new : List (List ℕ)) → List ℕ
change_text old new = codes "["
    ++ (decimal (length new) ++ (entries old new (length new) ++ codes "]"))

-- the bytes of each text
abbrev pub bytes_of : {Z : Type 0} → List (String Z) → List (List ℕ)
bytes_of texts = map string_bytes texts
