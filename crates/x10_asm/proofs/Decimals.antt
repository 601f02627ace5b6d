-- Numbers of one digit and of two, pushed digit by digit.
use Rattle.std.proofs.Common.{◌≡◌, ℕ, ◌+◌, ◌/◌, ◌%◌, ◌≤◌, ◌<◌, List, [], ◌∷◌, ◌++◌, sym, ap, ◌∙◌, append_assoc, arith}
use Rattle.std.specs.Prelude.{decimal}
use Rattle.std.proofs.lemmas.Fmt.{decimal_digit, decimal_step}

two_are : (n : ℕ) → 10 ≤ n → n < 100 → decimal n ≡ (48 + n / 10) ∷ (48 + n % 10) ∷ []
two_are n ge lt = decimal_step n ge (omega arith) ∙ ap (λ (ds : List ℕ). ds ++ ((48 + n % 10) ∷ [])) (decimal_digit (n / 10) (omega arith))

pub two_digits : (before one : List ℕ) (n : ℕ) → 10 ≤ n → n < 100 → one ≡ before ++ (48 + n / 10) ∷ []
    → one ++ (48 + n % 10) ∷ [] ≡ before ++ decimal n
two_digits before one n ge lt e =
    ap (λ (bs : List ℕ). bs ++ (48 + n % 10) ∷ []) e ∙ append_assoc before ((48 + n / 10) ∷ []) ((48 + n % 10) ∷ [])
    ∙ ap (λ (ds : List ℕ). before ++ ds) (sym (two_are n ge lt))
