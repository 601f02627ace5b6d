-- How a task's numbers are read.
use Rattle.std.proofs.Common.{◌≡◌, ℕ, List, Option, Some, None, Result, Ok, Err, refl}
use Rattle.std.specs.Str.Parse.{ParsesUnsigned}
use Rattle.std.specs.declared.num.ParseIntError.{ParseIntError}
use Rattle.clap.specs.Matches.{ReadsOne}
use Rattle.x10_usage.specs.Tasks.{IsNumberIn}

number_of : (bits : ℕ) (gives : List ℕ → Result ℕ ParseIntError → Type 0) (text : List ℕ) (answer : Option ℕ)
    → ((bs : List ℕ) (r : Result ℕ ParseIntError) → gives bs r → ParsesUnsigned bits 10 bs r) → ReadsOne gives text answer
    → IsNumberIn bits (Some text) answer
number_of bits gives text None w h = (h.0, w text (Err h.0) h.1)
number_of bits gives text (Some n) w h = w text (Ok n) h

pub number_read : (bits : ℕ) (gives : List ℕ → Result ℕ ParseIntError → Type 0) (found : Option (List ℕ)) (answer : Option ℕ)
    → ((bs : List ℕ) (r : Result ℕ ParseIntError) → gives bs r → ParsesUnsigned bits 10 bs r)
    → (found ≡ None → answer ≡ None) → ((text : List ℕ) → found ≡ Some text → ReadsOne gives text answer) → IsNumberIn bits found answer
number_read bits gives None answer w none value = none refl
number_read bits gives (Some text) answer w none value = number_of bits gives text answer w (value text refl)
