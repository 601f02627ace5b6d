-- Sums over the numbers below a bound, and over a square.
use Rattle.std.proofs.Common.{◌≡◌, ◌≢◌, ℕ, zero, suc, ◌+◌, ◌*◌, ◌<◌, ◌≤◌, inl, inr, refl, sym, ap, arith}
use Rattle.x10_finish.specs.Pairs.{sum_below, sum_square}
use Rattle.x10_model.proofs.Balance.{last_or_below}

pub sum_same : (f g : ℕ → ℕ) (n : ℕ) → ((k : ℕ) → k < n → g k ≡ f k) → sum_below g n ≡ sum_below f n
sum_same f g zero h = refl
sum_same f g (suc n) h =
    let before = sum_same f g n (λ k lt. h k (omega arith)) in
    let here = h n (omega arith) in
    omega arith

-- f and g differ at i alone
pub sum_changed : (f g : ℕ → ℕ) (n i : ℕ) → i < n → ((k : ℕ) → k ≢ i → g k ≡ f k) → sum_below g n + f i ≡ sum_below f n + g i
sum_changed f g zero i lt h = absurd (omega arith)
sum_changed f g (suc n) i lt h = elim (last_or_below i n lt) [
  | inl e ↦ (let before = sum_same f g n (λ k less. h k (λ (s : k ≡ i). let x : k ≡ i = s in omega arith)) in
      let here : g n ≡ g i = ap g (sym e) in
      let there : f n ≡ f i = ap f (sym e) in
      omega arith)
  | inr less ↦ (let before = sum_changed f g n i less h in
      let here = h n (λ (s : n ≡ i). let x : n ≡ i = s in omega arith) in
      omega arith)
]

pub square_changed : (f g : ℕ → ℕ → ℕ) (n i j : ℕ) → i < n → j < n → ((a b : ℕ) → ((a ≡ i) × (b ≡ j) → ⊥) → g a b ≡ f a b)
    → sum_square g n + f i j ≡ sum_square f n + g i j
square_changed f g n i j li lj h =
    let rows = sum_changed (λ a. sum_below (f a) n) (λ a. sum_below (g a) n) n i li
    (λ a ne. sum_same (f a) (g a) n (λ b lt. h a b (λ both. ne both.0))) in
    let row = sum_changed (f i) (g i) n j lj (λ b ne. h i b (λ both. ne both.1)) in
    omega arith

pub sum_small : (f : ℕ → ℕ) (n m : ℕ) → ((k : ℕ) → f k ≤ m) → sum_below f n ≤ n * m
sum_small f zero m h = omega arith
sum_small f (suc n) m h =
    let before = sum_small f n m h in
    let here = h n in
    omega arith

pub square_small : (f : ℕ → ℕ → ℕ) (n : ℕ) → ((a b : ℕ) → f a b ≤ 1) → sum_square f n ≤ n * n
square_small f n h = sum_small (λ a. sum_below (f a) n) n n (λ a. let e = sum_small (f a) n 1 (h a) in omega arith)

pub sum_zero : (f : ℕ → ℕ) (n : ℕ) → ((k : ℕ) → k < n → f k ≡ 0) → sum_below f n ≡ 0
sum_zero f zero h = refl
sum_zero f (suc n) h =
    let before = sum_zero f n (λ k lt. h k (omega arith)) in
    let here = h n (omega arith) in
    omega arith

pub zero_sum : (f : ℕ → ℕ) (n k : ℕ) → sum_below f n ≡ 0 → k < n → f k ≡ 0
zero_sum f zero k e lt = absurd (omega arith)
zero_sum f (suc n) k e lt = elim (last_or_below k n lt) [
  | inl s ↦ (let here : f k ≡ f n = ap f s in omega arith)
  | inr less ↦ zero_sum f n k (omega arith) less
]

pub square_zero : (f : ℕ → ℕ → ℕ) (n : ℕ) → ((a b : ℕ) → a < n → b < n → f a b ≡ 0) → sum_square f n ≡ 0
square_zero f n h = sum_zero (λ a. sum_below (f a) n) n (λ a la. sum_zero (f a) n (λ b lb. h a b la lb))

pub zero_square : (f : ℕ → ℕ → ℕ) (n a b : ℕ) → sum_square f n ≡ 0 → a < n → b < n → f a b ≡ 0
zero_square f n a b e la lb = zero_sum (f a) n b (zero_sum (λ a. sum_below (f a) n) n a e la) lb
