-- Readers: each takes bytes from the front and gives a value and the bytes after it, or a fault.
use Rattle.std.specs.Prelude.{ℕ, ℤ, zero, suc, ◌<◌, Bool, List, [], ◌∷◌, length, take, drop, Option, Some, None, Result, Ok, Err, nat_lt, ◌==◌}
use Rattle.std.specs.Prelude.{if◌then◌else◌, slice_index}
use Rattle.std.specs.Int.{Width, byte_len, from_be_bytes, w64, cast_signed}

abbrev pub Reader : Type 0 → Type 0 → Type 0
Reader E A = List ℕ → Result (A × List ℕ) E

-- what stands in memory: numbers below 256
abbrev pub IsBytes : List ℕ → Type 0
IsBytes bytes = (k : ℕ) → slice_index bytes k < 256

abbrev pub and_then : {E A B : Type 0} → Result (A × List ℕ) E → (A → Reader E B)
    → Result (B × List ℕ) E
and_then (Ok p) next = next p.0 p.1
and_then (Err e) next = Err e

-- one reader, and then the one that its value calls for
unfoldable pub bind : {E A B : Type 0} → Reader E A → (A → Reader E B) → Reader E B
bind r next bytes = and_then (r bytes) next

infixl 10 ◌>>=◌
abbrev pub ◌>>=◌ : {E A B : Type 0} → Reader E A → (A → Reader E B) → Reader E B
r >>= next = bind r next

infixl 10 ◌>>◌
abbrev pub ◌>>◌ : {E A B : Type 0} → Reader E A → Reader E B → Reader E B
r >> next = bind r (λ _. next)

-- the value, with no byte read
unfoldable pub done : {E A : Type 0} → A → Reader E A
done x bytes = Ok (x, bytes)

-- the fault, unless the test holds
unfoldable pub check : {E : Type 0} → Bool → E → Reader E (Unit {0})
check holds fault bytes = if holds then Ok (tt, bytes) else Err fault

-- the value, unless it breaks a rule
unfoldable pub such_that : {E A : Type 0} → Reader E A → (A → Bool) → E → Reader E A
such_that r holds fault = do
  x ← r
  check (holds x) fault
  done x

-- nothing but this number
unfoldable pub expect : {E : Type 0} → Reader E ℕ → ℕ → E → Reader E (Unit {0})
expect r n fault = do
  x ← r
  check (x == n) fault

-- the fault, where there is no value
unfoldable pub given : {E A : Type 0} → Option A → E → Reader E A
given (Some x) fault bytes = Ok (x, bytes)
given None fault bytes = Err fault

-- the fault, unless n more bytes are there
unfoldable pub need : {E : Type 0} → ℕ → E → Reader E (Unit {0})
need n short bytes = if nat_lt (length bytes) n then Err short else Ok (tt, bytes)

-- n bytes
unfoldable pub part : {E : Type 0} → ℕ → E → Reader E (List ℕ)
part n short bytes = if nat_lt (length bytes) n then Err short else Ok (take n bytes, drop n bytes)

-- one byte
unfoldable pub byte : {E : Type 0} → E → Reader E ℕ
byte short [] = Err short
byte short (first ∷ rest) = Ok (first, rest)

-- a number of a width, the highest byte first
unfoldable pub number : {E : Type 0} → Width → E → Reader E ℕ
number w short = do
  bytes ← part (byte_len w) short
  done (from_be_bytes w bytes)

-- a number in two's complement
unfoldable pub int : {E : Type 0} → E → Reader E ℤ
int short = do
  n ← number w64 short
  done (cast_signed w64 n)

-- so many items, each read by what is known before it
unfoldable pub many : {E S A : Type 0} → (S → Reader E A) → (S → A → S) → ℕ → S → Reader E (List A)
many item after zero s = done []
many item after (suc n) s = do
  first ← item s
  others ← many item after n (after s first)
  done (first ∷ others)

-- so many items of one kind
abbrev pub times : {E A : Type 0} → ℕ → Reader E A → Reader E (List A)
times {E} n item = many (λ (_ : ℕ). item) (λ s _. s) n 0

-- so many items, each read by its number
abbrev pub numbered : {E A : Type 0} → ℕ → (ℕ → Reader E A) → Reader E (List A)
numbered n item = many item (λ s _. suc s) n 0

-- a rule for each item and what is known before it
abbrev pub FitsEach : {S A : Type 0} → (S → A → Type 0) → (S → A → S) → S → List A → Type 0
FitsEach Fits after s [] = Unit {0}
FitsEach Fits after s (x ∷ xs) = Fits s x × FitsEach Fits after (after s x) xs

-- what is known after all items
abbrev pub after_all : {S A : Type 0} → (S → A → S) → S → List A → S
after_all after s [] = s
after_all after s (x ∷ xs) = after_all after (after s x) xs

abbrev pub ended : {E A : Type 0} → E → Result (A × List ℕ) E → Result A E
ended trailing (Ok (x, [])) = Ok x
ended trailing (Ok (x, _ ∷ _)) = Err trailing
ended trailing (Err e) = Err e

-- all of the bytes
unfoldable pub all_of : {E A : Type 0} → Reader E A → E → List ℕ → Result A E
all_of r trailing bytes = ended trailing (r bytes)
