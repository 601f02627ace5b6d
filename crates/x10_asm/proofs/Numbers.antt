-- Numbers as words, read digit by digit.
use Rattle.std.proofs.Common.{◌≡◌, ℕ, ◌+◌, ◌*◌, ◌-◌, ◌≤◌, ◌<◌, true, ◌&&◌, List, [], ◌∷◌, length, take, get_or, Some, None, refl, sym, ap, subst, ◌∙◌, arith, inl, inr}
use Rattle.std.specs.Prelude.{nat_lt, nat_le}
use Rattle.std.specs.Int.{IsInRange}
use Rattle.std.specs.Str.{all_ascii_digits}
use Rattle.std.specs.Str.Parse.{digits_value, AllDigits}
use Rattle.std.proofs.lemmas.Int.Digits.{digits_value_more, digits_more}
use Rattle.std.proofs.lemmas.Str.{digit_value_digit}
use Rattle.std.proofs.lemmas.Str.Parse.{IsNumeralModel, numerals_by_value, tells_all_ascii_digits, digit_at, digits_value-take-le}
use Rattle.std.proofs.lemmas.List.{take_all}
use Rattle.std.proofs.lemmas.Bool.{lt-ltb, le-leb, lt-leb, cases_Bool, and_left, and_right, and_from}
use Rattle.x10_asm.specs.Lines.{number_of}

pub own : IsNumeralModel (λ ds. all_ascii_digits ds ≡ true) (digits_value 10)
own = numerals_by_value (λ ds. all_ascii_digits ds ≡ true) tells_all_ascii_digits

-- the digits before a place, and the number that they spell
pub record IsReadTo (word : List ℕ) (most at value : ℕ) : Type 0 where
  pub digits : AllDigits 10 (take at word)
  pub value_is : digits_value 10 (take at word) ≡ value
  pub below : value ≤ most

pub value_more : (word : List ℕ) (most at value : ℕ) → IsReadTo word most at value → at < length word → IsInRange 48 57 (get_or word at 0)
    → digits_value 10 (take (at + 1) word) ≡ 10 * value + (get_or word at 0 - 48)
value_more word most at value r lt d = digits_value_more 10 word at lt ∙ omega (arith, r.value_is, digit_value_digit (get_or word at 0) d)

pub one_more_read : (word : List ℕ) (most at value new : ℕ) → IsReadTo word most at value → at < length word → IsInRange 48 57 (get_or word at 0)
    → new ≡ 10 * value + (get_or word at 0 - 48) → new ≤ most → IsReadTo word most (at + 1) new
one_more_read word most at value new r lt d e le = record {
  digits = digits_more 10 word at lt r.digits (omega (arith, digit_value_digit (get_or word at 0) d));
  value_is = value_more word most at value r lt d ∙ sym e;
  below = le;
}

-- a byte that is no digit
pub no_digit : (word : List ℕ) (most at : ℕ) → at < length word → (IsInRange 48 57 (get_or word at 0) → ⊥) → number_of most word ≡ None
no_digit word most at lt wrong = elim (cases_Bool (all_ascii_digits word)) [
  | inl e ↦ absurd (wrong (digit_at word at (own.to word e) lt))
  | inr e ↦ rw (and_left (nat_lt 0 (length word) && all_ascii_digits word) (nat_le (digits_value 10 word) most)
      (and_right (nat_lt 0 (length word)) (all_ascii_digits word) e)) refl
]

-- a front that is too great already
pub too_great : (word : List ℕ) (most at : ℕ) → most < digits_value 10 (take at word) → number_of most word ≡ None
too_great word most at gt =
    let more : most < digits_value 10 word = omega (arith, digits_value-take-le 10 word at (omega arith)) in
    rw (and_right (nat_lt 0 (length word) && all_ascii_digits word) (nat_le (digits_value 10 word) most) (lt-leb (digits_value 10 word) most more))
    refl

pub no_digits : (word : List ℕ) (most : ℕ) → length word ≡ 0 → number_of most word ≡ None
no_digits [] most e = refl
no_digits (c ∷ cs) most e = absurd (omega arith)

pub all_read : (word : List ℕ) (most at value : ℕ) → IsReadTo word most at value → length word ≤ at → (length word ≡ 0 → ⊥)
    → number_of most word ≡ Some value
all_read word most at value r le some =
    let all = take_all at word le in
    let value_is : digits_value 10 word ≡ value = ap (digits_value 10) (sym all) ∙ r.value_is in
    let digits = own.from word (subst (AllDigits 10) all r.digits) in
    rw (and_from (nat_lt 0 (length word) && all_ascii_digits word) (nat_le (digits_value 10 word) most)
    (and_from (nat_lt 0 (length word)) (all_ascii_digits word) (lt-ltb 0 (length word) (omega arith)) digits)
    (le-leb (digits_value 10 word) most (omega (arith, value_is, r.below)))) (ap (λ (n : ℕ). Some n) value_is)
