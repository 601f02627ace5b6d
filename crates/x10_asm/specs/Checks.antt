-- Checks in a row: the first fault of a row is the answer. Each row stands in the order of the causes' numbers, so it is the least.
use Rattle.std.specs.Prelude.{◌≡◌, ◌≢◌, ℕ, Bool, List, [], ◌∷◌, Option, Some, None, Result, Ok, Err, if◌then◌else◌}
use Rattle.x10_asm.specs.declared.fault.AsmCause.{AsmCause}
use Rattle.x10_asm.specs.declared.fault.AsmCause.TheVariants.{Number, Count, Memory}
use Rattle.x10_asm.specs.Lines.{number_of}

infixl 10 ◌>>=◌
abbrev pub ◌>>=◌ : {A B : Type 0} → Result A AsmCause → (A → Result B AsmCause) → Result B AsmCause
(Ok x) >>= next = next x
(Err cause) >>= next = Err cause

infixl 10 ◌>>◌
abbrev pub ◌>>◌ : {A B : Type 0} → Result A AsmCause → Result B AsmCause → Result B AsmCause
(Ok x) >> next = next
(Err cause) >> next = Err cause

-- the cause, unless the test holds
abbrev pub check : Bool → AsmCause → Result (Unit {0}) AsmCause
check holds cause = if holds then Ok tt else Err cause

-- the cause, where there is no value
abbrev pub given : {A : Type 0} → Option A → AsmCause → Result A AsmCause
given (Some x) cause = Ok x
given None cause = Err cause

-- there are no more words
abbrev pub no_more : List (List ℕ) → Result (Unit {0}) AsmCause
no_more [] = Ok tt
no_more (word ∷ others) = Err Count

-- a number, and the words after it
abbrev pub number_at : ℕ → List (List ℕ) → Result (ℕ × List (List ℕ)) AsmCause
number_at most [] = Err Count
number_at most (word ∷ others) = do
  n ← given (number_of most word) Number
  Ok (n, others)

-- one number and nothing else
abbrev pub one_number : ℕ → List (List ℕ) → Result ℕ AsmCause
one_number most ws = do
  p ← number_at most ws
  no_more p.1
  Ok p.0

-- what was answered, seen by view, is what reading gives
abbrev pub Answers : {X Y : Type 0} → (X → Y) → Result X AsmCause → Result Y AsmCause → Type 0
Answers view (Ok x) read = read ≡ Ok (view x)
Answers view (Err cause) read = read ≡ Err cause

-- the same, unless memory ran out
abbrev pub Gives : {X Y : Type 0} → (X → Y) → Result X AsmCause → Result Y AsmCause → Type 0
Gives view (Ok x) read = read ≡ Ok (view x)
Gives view (Err cause) read = cause ≢ Memory → read ≡ Err cause
