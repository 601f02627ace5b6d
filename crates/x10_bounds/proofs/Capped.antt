-- Sums and products where all numbers above a greatest one are the same.
use Rattle.std.proofs.Common.{◌≡◌, ◌⊎◌, ℕ, ◌+◌, ◌*◌, ◌≤◌, sym, ap, ◌∙◌, inl, inr, arith}
use Rattle.std.specs.Prelude.{min}
use Rattle.std.proofs.Math.Nat.{mul-le-mul_left, mul_comm, mul-zero}

either : (a m : ℕ) → (min a m ≡ a) ⊎ ((m ≤ a) × (min a m ≡ m))
either a m = grind arith

at_most : (a m : ℕ) → m ≤ a → min a m ≡ m
at_most a m le = grind arith

grows : (a b : ℕ) → 1 ≤ b → a ≤ a * b
grows a b le = omega (arith, mul-le-mul_left a le)

-- one factor is great, the other is not 0
great : (a b m : ℕ) → m ≤ a → 1 ≤ b → min (m * b) m ≡ min (a * b) m
great a b m le one =
    let g : m ≤ m * b = grows m b one in
    let h : a ≤ a * b = grows a b one in
    at_most (m * b) m g ∙ sym (at_most (a * b) m (omega arith))

nothing_or_more : (b : ℕ) → (b ≡ 0) ⊎ (1 ≤ b)
nothing_or_more b = grind arith

-- a factor may be cut first: where it is great so is the product, but for a factor 0, which gives 0 on both sides
pub left_factor : (a b m : ℕ) → min (min a m * b) m ≡ min (a * b) m
left_factor a b m = elim (either a m) [
  | inl e ↦ ap (λ n. min (n * b) m) e
  | inr h ↦ elim (nothing_or_more b) [
    | inl e ↦ rw e (ap (λ n. min n m) (mul-zero (min a m) ∙ sym (mul-zero a)))
    | inr one ↦ ap (λ n. min (n * b) m) h.1 ∙ great a b m h.0 one
  ]
]

pub right_factor : (a b m : ℕ) → min (a * min b m) m ≡ min (a * b) m
right_factor a b m = ap (λ n. min n m) (mul_comm a (min b m)) ∙ left_factor b a m ∙ ap (λ n. min n m) (mul_comm b a)

pub left_summand : (a b m : ℕ) → min (min a m + b) m ≡ min (a + b) m
left_summand a b m = grind arith

pub right_summand : (a b m : ℕ) → min (a + min b m) m ≡ min (a + b) m
right_summand a b m = grind arith
