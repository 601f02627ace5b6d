-- How a character stands in XML 1.0.
use Rattle.std.specs.Prelude.{ℕ, Bool, true, false, ◌==◌, ◌||◌, ◌&&◌, nat_lt, if◌then◌else◌, List, [], ◌∷◌, codes}
use Rattle.std.specs.Char.{encode_utf8}

-- U+FFFD, the replacement character, in UTF-8
abbrev pub replacement : List ℕ
replacement = 239 ∷ 191 ∷ 189 ∷ []

-- the entity or the number that stands for a character; the replacement character for one that XML doesn't permit; else
-- the character in UTF-8
abbrev pub escape : ℕ → List ℕ
escape c =
    if c == 38 then codes "&amp;" else (
    if c == 60 then codes "&lt;" else (
    if c == 62 then codes "&gt;" else (
    if c == 34 then codes "&quot;" else (
    if c == 39 then codes "&apos;" else (
    if c == 9 then codes "&#9;" else (
    if c == 10 then codes "&#10;" else (
    if c == 13 then codes "&#13;" else (
    if nat_lt c 32 || (c == 65534 || c == 65535) then replacement else encode_utf8 c))))))))

-- a byte is no control, no quote, and neither `<` nor `>`: it can end no attribute's value, and begin or end no tag
abbrev pub is_content : ℕ → Bool
is_content b = if nat_lt b 32 || (b == 34 || (b == 39 || (b == 60 || b == 62))) then false else true

-- all bytes are so
abbrev pub are_content : List ℕ → Bool
are_content [] = true
are_content (b ∷ bs) = is_content b && are_content bs
