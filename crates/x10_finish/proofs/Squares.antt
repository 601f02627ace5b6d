-- Pairs of places in a list, row by row.
use Rattle.std.proofs.Common.{◌≡◌, ℕ, ◌+◌, ◌*◌, ◌<◌, ◌≤◌, ◌==◌, ◌&&◌, nat_lt, max, Bool, true, false, if◌then◌else◌, List, length, ◌⊎◌, inl, inr, refl, sym, ◌∙◌, ap, subst, arith, lit≤, ◌^◌, slice_set, slice_index_or, get_or-set_same, get_or-set_other}
use Rattle.std.proofs.lemmas.Bool.{eqb-true, eq-eqb, lt-ltb, ltb-true, cases_eq, and_from, and_parts}
use Rattle.std.proofs.Math.Nat.{mul-le-mul_right}
use Rattle.x10_finish.specs.declared.pairs.Pair.{Pair}
use Rattle.x10_finish.specs.Pairs.{no_pair, pair_at, difference, unequal_in, raised_at}
use Rattle.x10_finish.proofs.Sums.{square_changed, square_small}

-- pairs of places below n have their places in the list, each its own
pub place_below : (n a b : ℕ) → a < n → b < n → a * n + b < n * n
place_below n a b la lb =
    let le : (a + 1) * n ≤ n * n = mul-le-mul_right n (omega arith) in
    omega arith

less_apart : (n a b c d : ℕ) → b < n → a < c → a * n + b ≡ c * n + d → ⊥
less_apart n a b c d lb lt e =
    let le : (a + 1) * n ≤ c * n = mul-le-mul_right n (omega arith) in
    omega arith

trichotomy : (a b : ℕ) → (a < b) ⊎ ((a ≡ b) ⊎ (b < a))
trichotomy a b = grind arith

pub one_place : (n a b c d : ℕ) → b < n → d < n → a * n + b ≡ c * n + d → (a ≡ c) × (b ≡ d)
one_place n a b c d lb ld e = elim (trichotomy a c) [
  | inl lt ↦ absurd (less_apart n a b c d lb lt e)
  | inr more ↦ elim more [
    | inl same ↦ (let s : a * n ≡ c * n = ap (λ (x : ℕ). x * n) same in (same, omega arith))
    | inr gt ↦ absurd (less_apart n c d a b ld gt (sym e))
  ]
]

under_if : {X : Type 0} (t : Bool) (x y d : X) → (t ≡ true → x ≡ y) → (if t then x else d) ≡ (if t then y else d)
under_if true x y d h = h refl
under_if false x y d h = refl

if_true : {X : Type 0} (t : Bool) (x y : X) → t ≡ true → (if t then x else y) ≡ x
if_true t x y e = rw e refl

is_place : (n a b : ℕ) → a < n → b < n → (nat_lt a n && nat_lt b n) ≡ true
is_place n a b la lb = and_from (nat_lt a n) (nat_lt b n) (lt-ltb a n la) (lt-ltb b n lb)

pub pair_at-is : (n : ℕ) (pairs : List Pair) (a b : ℕ) → a < n → b < n → pair_at n pairs a b ≡ slice_index_or pairs (a * n + b) no_pair
pair_at-is n pairs a b la lb = if_true (nat_lt a n && nat_lt b n) (slice_index_or pairs (a * n + b) no_pair) no_pair (is_place n a b la lb)

pub written_here : (n : ℕ) (pairs : List Pair) (i j : ℕ) (w : Pair) → i < n → j < n → length pairs ≡ n * n
    → pair_at n (slice_set pairs (i * n + j) w) i j ≡ w
written_here n pairs i j w li lj e =
    let below = place_below n i j li lj in
    let inside : i * n + j < length pairs = subst (λ m. i * n + j < m) (sym e) below in
    pair_at-is n (slice_set pairs (i * n + j) w) i j li lj ∙ get_or-set_same pairs (i * n + j) w no_pair inside

pub written_elsewhere : (n : ℕ) (pairs : List Pair) (i j : ℕ) (w : Pair) → i < n → j < n → (a b : ℕ) → ((a ≡ i) × (b ≡ j) → ⊥)
    → pair_at n (slice_set pairs (i * n + j) w) a b ≡ pair_at n pairs a b
written_elsewhere n pairs i j w li lj a b apart =
    under_if (nat_lt a n && nat_lt b n) (slice_index_or (slice_set pairs (i * n + j) w) (a * n + b) no_pair)
    (slice_index_or pairs (a * n + b) no_pair) no_pair
    (λ t. let lb : b < n = ltb-true b n (and_parts (nat_lt a n) (nat_lt b n) t).1 in
    get_or-set_other pairs (i * n + j) (a * n + b) w no_pair (λ s. apart (one_place n a b i j lb lj s)))

pub unequal_written : (home n : ℕ) (pairs : List Pair) (i j : ℕ) (w : Pair) → i < n → j < n → length pairs ≡ n * n
    → unequal_in home n (slice_set pairs (i * n + j) w) + difference home i j (pair_at n pairs i j) ≡ unequal_in home n pairs + difference home i j w
unequal_written home n pairs i j w li lj e =
    square_changed (λ a b. difference home a b (pair_at n pairs a b))
    (λ a b. difference home a b (pair_at n (slice_set pairs (i * n + j) w) a b)) n i j li lj
    (λ a b apart. ap (difference home a b) (written_elsewhere n pairs i j w li lj a b apart))
    ∙ ap (λ v. unequal_in home n pairs + difference home i j v) (written_here n pairs i j w li lj e)

small_if : (s t u : Bool) → (if s then 0 else (if t then 0 else (if u then 0 else 1))) ≤ 1
small_if true t u = lit≤ tt
small_if false true u = lit≤ tt
small_if false false true = lit≤ tt
small_if false false false = lit≤ tt

difference_small : (home a b : ℕ) (p : Pair) → difference home a b p ≤ 1
difference_small home a b p = small_if (a == home) (b == home) (p.sent == p.received)

pub unequal_small : (home n : ℕ) (pairs : List Pair) → n < 2 ^ 16 → unequal_in home n pairs ≤ 2 ^ 32
unequal_small home n pairs lt =
    let small = square_small (λ a b. difference home a b (pair_at n pairs a b)) n (λ a b. difference_small home a b (pair_at n pairs a b)) in
    let few : n * n ≤ 65536 * n = mul-le-mul_right n (omega arith) in
    omega arith

if_not : {X : Type 0} (t : Bool) (x y : X) → (t ≡ true → ⊥) → (if t then x else y) ≡ y
if_not true x y h = absurd (h refl)
if_not false x y h = refl

both_or_not : (a b i j : ℕ) → ((a ≡ i) × (b ≡ j)) ⊎ ((a ≡ i) × (b ≡ j) → ⊥)
both_or_not a b i j = elim (cases_eq a i) [
  | inl s ↦ elim (cases_eq b j) [ inl t ↦ inl (s, t) | inr other ↦ inr (λ both. other both.1) ]
  | inr other ↦ inr (λ both. other both.0)
]

pub raised_written : (n : ℕ) (pairs : List Pair) (i j : ℕ) (by w : Pair) → i < n → j < n → length pairs ≡ n * n
    → w ≡ record { sent = max (pair_at n pairs i j).sent by.sent; received = max (pair_at n pairs i j).received by.received }
    → (a b : ℕ) → pair_at n (slice_set pairs (i * n + j) w) a b ≡ raised_at i j by (pair_at n pairs) a b
raised_written n pairs i j by w li lj e is a b = elim (both_or_not a b i j) [
  | inl s ↦ subst (λ (x : ℕ). pair_at n (slice_set pairs (i * n + j) w) x b ≡ raised_at i j by (pair_at n pairs) x b) (sym s.0)
      (subst (λ (y : ℕ). pair_at n (slice_set pairs (i * n + j) w) i y ≡ raised_at i j by (pair_at n pairs) i y) (sym s.1)
      (written_here n pairs i j w li lj e ∙ is ∙ sym (if_true (i == i && j == j) _ (pair_at n pairs i j)
      (and_from (i == i) (j == j) (eq-eqb i i refl) (eq-eqb j j refl)))))
  | inr apart ↦ written_elsewhere n pairs i j w li lj a b apart
      ∙ sym (if_not (a == i && b == j) _ (pair_at n pairs a b) (λ t.
      apart (let both = and_parts (a == i) (b == j) t in (eqb-true a i both.0, eqb-true b j both.1))))
]

pub read_at : (n : ℕ) (pairs : List Pair) (i j : ℕ) (x : Pair) → i < n → j < n → x ≡ slice_index_or pairs (i * n + j) no_pair
    → x ≡ pair_at n pairs i j
read_at n pairs i j x li lj h = h ∙ sym (pair_at-is n pairs i j li lj)
