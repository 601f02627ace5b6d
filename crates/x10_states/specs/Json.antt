-- Texts and lists in JSON (RFC 8259), as they may stand in a page too.
use Rattle.std.specs.Prelude.{ℕ, zero, suc, ◌/◌, ◌%◌, ◌+◌, Bool, true, false, ◌==◌, nat_lt, if◌then◌else◌, List, [], ◌∷◌, ◌++◌, codes}
use Rattle.std.specs.Char.{encode_utf8}
use Rattle.std.specs.List.{flat_map}
use Rattle.std.specs.Str.{chars}

-- a digit of base 16, in lower case
abbrev pub hex_digit : ℕ → ℕ
hex_digit n = if nat_lt n 10 then 48 + n else 87 + n

-- A character between quotes: a quote and a backslash have a backslash before them, and a control character is told by its
-- number. So is `<`, so that no tag of a page ends or begins there.
abbrev pub escape : ℕ → List ℕ
escape c =
    if c == 34 then 92 ∷ 34 ∷ [] else (
    if c == 92 then 92 ∷ 92 ∷ [] else (
    if c == 60 then codes "\\u003c" else (
    if nat_lt c 32 then codes "\\u00" ++ (hex_digit (c / 16) ∷ hex_digit (c % 16) ∷ []) else
    encode_utf8 c)))

-- a text, in quotes
abbrev pub json : List ℕ → List ℕ
json text = 34 ∷ (flat_map escape (chars text) ++ 34 ∷ [])

abbrev pub bool_word : Bool → List ℕ
bool_word true = codes "true"
bool_word false = codes "false"

-- what stands before the element with a number
abbrev pub comma : ℕ → List ℕ
comma zero = []
comma (suc n) = 44 ∷ []

-- so many elements, with commas between them
abbrev pub elements : ℕ → (ℕ → List ℕ) → List ℕ
elements zero element = []
elements (suc n) element = elements n element ++ (comma n ++ element n)

-- the list of so many elements
abbrev pub array : ℕ → (ℕ → List ℕ) → List ℕ
array n element = 91 ∷ (elements n element ++ 93 ∷ [])

-- so many elements behind another one
abbrev pub others : ℕ → (ℕ → List ℕ) → List ℕ
others zero element = []
others (suc n) element = others n element ++ (44 ∷ element n)
