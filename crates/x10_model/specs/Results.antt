-- What operations make of the numbers, texts, bytes and places that they found; none where a jump is taken instead.
use Rattle.std.specs.Prelude.{ℕ, ℤ, pos, negsuc, int_div, int_rem, ◌+◌, Bool, nat_lt, nat_le, List, length, ◌++◌, Option, Some, None, if◌then◌else◌, slice_get}
use Rattle.std.specs.Int.{w64, int_wrap}
use Rattle.std.specs.Ordering.{int_eq}
use Rattle.x10_model.specs.declared.limits.TheConstants.{MOST_BYTES}
use Rattle.x10_model.specs.Values.{Value, Int, Place, Text, Ref}
use Rattle.x10_model.specs.Places.{Line, Number, Words}

-- ---- numbers

abbrev pub is_zero : ℤ → Bool
is_zero z = int_eq z (pos 0)

-- sums, differences and products wrap in 64 bits
abbrev pub wrapped : ℤ → Value
wrapped z = Int (int_wrap w64 z)

-- a quotient toward zero, which wraps for the least number by -1; none by zero
abbrev pub quotient : ℤ → ℤ → Option Value
quotient x y = if is_zero y then None else Some (wrapped (int_div x y))

-- a remainder with the sign of the dividend
abbrev pub remainder : ℤ → ℤ → Option Value
remainder x y = if is_zero y then None else Some (Int (int_rem x y))

abbrev pub truth : Bool → Value
truth b = Int (if b then pos 1 else pos 0)

-- ---- text

abbrev pub joined_text : List ℕ → List ℕ → Option Value
joined_text t u = if nat_le (length t + length u) MOST_BYTES then Some (Text (t ++ u)) else None

-- ---- rails

-- a length from 0 to 65,535
abbrev pub rail_length : ℤ → Option ℕ
rail_length (pos n) = if nat_le n MOST_BYTES then Some n else None
rail_length (negsuc n) = None

-- the byte at an index, if there is one
abbrev pub byte_at : List ℕ → ℤ → Option ℕ
byte_at bytes (pos n) = slice_get bytes n
byte_at bytes (negsuc n) = None

abbrev pub byte_value : Option ℕ → Option Value
byte_value None = None
byte_value (Some byte) = Some (Int (pos byte))

-- the index of a number, which is not negative
abbrev pub index_of : ℤ → ℕ
index_of (pos n) = n
index_of (negsuc n) = 0

-- ---- places

-- the place with a number, if there is one
abbrev pub place_number : ℕ → ℤ → Option Value
place_number places (pos n) = if nat_lt n places then Some (Place n) else None
place_number places (negsuc n) = None

-- the place that a value stands for: itself, or its home
abbrev pub place_of : Value → Option ℕ
place_of (Place p) = Some p
place_of (Ref home id class) = Some home
place_of _ = None

-- ---- output

-- the line that a value is printed as
abbrev pub line_of : Value → Option Line
line_of (Int z) = Some (Number z)
line_of (Text t) = Some (Words t)
line_of _ = None
