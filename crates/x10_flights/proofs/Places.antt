-- Sets of places: what the bits of a number say.
use Rattle.std.proofs.Common.{◌≡◌, ◌≢◌, ℕ, ◌+◌, ◌-◌, ◌/◌, ◌%◌, ◌^◌, ◌<◌, ◌≤◌, ◌==◌, ◌||◌, true, false, sym, ◌∙◌, ap, arith, inl, inr, bit_and, bit_or, w64}
use Rattle.std.specs.Int.{bit_at, trailing_zeros}
use Rattle.std.proofs.lemmas.Bool.{eq-eqb, ne_eqb, eqb-true, eqb-false, cases_Bool, cases_lt, or_left, or_right, or_from}
use Rattle.std.proofs.lemmas.Nat.{shr-shr}
use Rattle.std.proofs.lemmas.Nat.Bits.{bit_at_and, bit_at_or, bit_at-lt, bit_at-zero, bit_at_above, bit_at-trailing_zeros}
use Rattle.x10_flights.specs.Flights.{IsLeast}
use Rattle.x10_flights.specs.PlaceSets.{has_place}

pub has_from : (n p : ℕ) → bit_at n p ≡ 1 → has_place n p ≡ true
unfolding has_place
has_from n p e = eq-eqb (bit_at n p) 1 e

pub not_from : (n p : ℕ) → bit_at n p ≡ 0 → has_place n p ≡ false
unfolding has_place
not_from n p e = ne_eqb (bit_at n p) 1 (λ h. omega arith)

pub has_same : (a b p : ℕ) → bit_at a p ≡ bit_at b p → has_place a p ≡ has_place b p
unfolding has_place
has_same a b p e = ap (λ d. d == 1) e

has_bit : (n p : ℕ) → has_place n p ≡ true → bit_at n p ≡ 1
unfolding has_place
has_bit n p e = eqb-true (bit_at n p) 1 e

not_bit : (n p : ℕ) → has_place n p ≡ false → bit_at n p ≡ 0
unfolding has_place
not_bit n p e = let h : bit_at n p ≢ 1 = eqb-false (bit_at n p) 1 e in omega (arith, bit_at-lt n p)

-- no place is in 0
pub has_none : (p : ℕ) → has_place 0 p ≡ false
has_none p = not_from 0 p (bit_at-zero p)

pub has_or : (a b p : ℕ) → has_place (bit_or a b) p ≡ (has_place a p || has_place b p)
has_or a b p = elim (cases_Bool (has_place a p)) [
  | inl t ↦ has_from _ p (omega (arith, bit_at_or a b p, has_bit a p t, bit_at-lt b p)) ∙ sym (or_left _ _ t)
  | inr u ↦ elim (cases_Bool (has_place b p)) [
    | inl t ↦ has_from _ p (omega (arith, bit_at_or a b p, has_bit b p t, bit_at-lt a p)) ∙ sym (or_right _ _ t)
    | inr v ↦ not_from _ p (omega (arith, bit_at_or a b p, not_bit a p u, not_bit b p v)) ∙ sym (or_from _ _ u v)
  ]
]

-- a bit from a number on is a bit of what is left there
pub bit_from : (n from m : ℕ) → from ≤ m → bit_at n m ≡ bit_at (n / 2 ^ from) (m - from)
bit_from n from m h =
    let e : m ≡ from + (m - from) = omega arith in
    ap (bit_at n) e ∙ ap (λ x. x % 2) (sym (shr-shr n from (m - from)))

pub none_left : (n from m : ℕ) → n / 2 ^ from ≡ 0 → from ≤ m → has_place n m ≡ false
none_left n from m z h = not_from n m (bit_from n from m h ∙ ap (λ x. bit_at x (m - from)) z ∙ bit_at-zero (m - from))

pub none_above : (n m : ℕ) → n < 2 ^ 64 → 64 ≤ m → has_place n m ≡ false
none_above n m f h = not_from n m (bit_at_above n 64 m f h)

pub none_above_both : (n m p : ℕ) → n < 2 ^ 64 → 64 ≤ p → has_place (bit_and n m) p ≡ false
none_above_both n m p f h = not_from _ p (omega (arith, bit_at_and n m p, bit_at_above n 64 p f h))

-- only places below 64 are in a set
pub has_below : (n p : ℕ) → n < 2 ^ 64 → has_place n p ≡ true → p < 64
has_below n p f t = elim (cases_lt p 64) [
  | inl l ↦ l
  | inr g ↦ absurd (omega (arith, has_bit n p t, bit_at_above n 64 p f g))
]

pub least_left : (n from rest : ℕ) → rest ≡ n / 2 ^ from → 0 < rest → rest < 2 ^ 64 → IsLeast (has_place n) from (from + trailing_zeros w64 rest)
least_left n from rest e some fits =
    let at = trailing_zeros w64 rest in
    let h = bit_at-trailing_zeros w64 rest some fits in
    let bit : (m : ℕ) → from ≤ m → bit_at n m ≡ bit_at rest (m - from) = λ m a. bit_from n from m a ∙ ap (λ x. bit_at x (m - from)) (sym e) in
    let back : from + at - from ≡ at = omega arith in
    record {
      not_before = omega arith;
      passes = has_from n (from + at) (bit (from + at) (omega arith) ∙ ap (bit_at rest) back ∙ h.1);
      least = λ m a t. elim (cases_lt m (from + at)) [
        | inl l ↦ absurd (omega (arith, has_bit n m t, bit m a, h.2 (m - from) (omega arith)))
        | inr g ↦ g
      ];
    }
