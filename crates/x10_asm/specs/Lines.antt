-- The lines of a text, the words of a line, and numbers.
use Rattle.std.specs.Prelude.{ℕ, zero, suc, ℤ, pos, negsuc, Bool, true, false, ◌&&◌, ◌==◌, nat_lt, nat_le, List, [], ◌∷◌, length, take, drop}
use Rattle.std.specs.Prelude.{Option, Some, None, if◌then◌else◌, ◌^◌, ◌-◌}
use Rattle.std.specs.Str.{all_ascii_digits, bytes_eq}
use Rattle.std.specs.Str.Parse.{digits_value}

-- a byte at the front of the first item, or as an item where there is none
abbrev pub grown : ℕ → List (List ℕ) → List (List ℕ)
grown c [] = (c ∷ []) ∷ []
grown c (first ∷ others) = (c ∷ first) ∷ others

-- the text begins with the byte
abbrev pub begins : ℕ → List ℕ → Bool
begins c [] = false
begins c (first ∷ others) = first == c

-- a line ends by a line feed, which the last may lack; one carriage return before it is dropped
unfoldable pub lines : List ℕ → List (List ℕ)
lines [] = []
lines (c ∷ cs) = if c == 10 then [] ∷ lines cs else
    (if c == 13 && begins 10 cs then lines cs else grown c (lines cs))

-- no word goes on with what follows: a space, or nothing
abbrev pub is_word_end : List ℕ → Bool
is_word_end [] = true
is_word_end (first ∷ others) = first == 32

-- words are parted by spaces
unfoldable pub words : List ℕ → List (List ℕ)
words [] = []
words (c ∷ cs) = if c == 32 then words cs else
    (if is_word_end cs then (c ∷ []) ∷ words cs else grown c (words cs))

-- what follows the spaces at the front
abbrev pub after_spaces : List ℕ → List ℕ
after_spaces [] = []
after_spaces (c ∷ cs) = if c == 32 then after_spaces cs else c ∷ cs

-- what follows the first space, with it
abbrev pub from_space : List ℕ → List ℕ
from_space [] = []
from_space (c ∷ cs) = if c == 32 then c ∷ cs else from_space cs

-- how many bytes stand before the first of a value
abbrev pub count_before : ℕ → List ℕ → ℕ
count_before c [] = 0
count_before c (first ∷ others) = if first == c then 0 else suc (count_before c others)

-- a line without the carriage return at its end
abbrev pub without_return : List ℕ → List ℕ
without_return [] = []
without_return (c ∷ []) = if c == 13 then [] else c ∷ []
without_return (c ∷ d ∷ ds) = c ∷ without_return (d ∷ ds)

-- what follows the first word of a line, without the spaces between
abbrev pub after_word : List ℕ → List ℕ
after_word line = after_spaces (from_space (after_spaces line))

-- the rest of a word that begins with a prefix
abbrev pub stripped : List ℕ → List ℕ → Option (List ℕ)
stripped prefix word = if bytes_eq (take (length prefix) word) prefix then Some
    (drop (length prefix) word) else None

-- ---- numbers

-- a number in decimal digits that is at most so great
abbrev pub number_of : ℕ → List ℕ → Option ℕ
number_of most word = if nat_lt 0 (length word) && all_ascii_digits word && nat_le
    (digits_value 10 word) most then Some (digits_value 10 word) else None

-- minus a number
abbrev pub negative : ℕ → ℤ
negative zero = pos 0
negative (suc n) = negsuc n

abbrev pub plus : Option ℕ → Option ℤ
plus None = None
plus (Some n) = Some (pos n)

abbrev pub minus : Option ℕ → Option ℤ
minus None = None
minus (Some n) = Some (negative n)

-- a number of 64 bits in two's complement, with an optional minus
abbrev pub int_of : List ℕ → Option ℤ
int_of word = if begins 45 word then minus (number_of (2 ^ 63) (drop 1 word)) else plus
    (number_of (2 ^ 63 - 1) word)
