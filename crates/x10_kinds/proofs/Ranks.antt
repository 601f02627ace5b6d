-- A Homes that gives up an equation has a lower rank, and no rank is large.
use Rattle.std.proofs.Common.{◌≡◌, ◌≢◌, ◌⊎◌, ℕ, zero, suc, ◌-◌, ◌*◌, ◌<◌, ◌≤◌, true, List, slice_index, sym, subst, ◌∙◌, inl, inr, arith}
use Rattle.std.proofs.Math.Nat.{suc-mul}
use Rattle.std.proofs.lemmas.Bool.{eq-eqb, eqb-true, cases_eq}
use Rattle.x10_kinds.specs.declared.homes.Homes.{Homes}
use Rattle.x10_kinds.specs.Labels.{IsCanonical, alike}
use Rattle.x10_kinds.specs.Equations.{Includes, SameEquations, index_of, equations, met}
use Rattle.x10_kinds.proofs.Equivalences.{met_below}
use Rattle.x10_kinds.specs.Ranks.{sum_below, rank}
use Rattle.x10_kinds.proofs.Terms.{index_of-below, known_of_numbers}

-- ---- sums

-- a sum of values that are no greater is no greater
pub sum_below-le : (n : ℕ) (f g : ℕ → ℕ) → ((i : ℕ) → i < n → f i ≤ g i) → sum_below n f ≤ sum_below n g
unfolding sum_below
sum_below-le zero f g each = omega arith
sum_below-le (suc n) f g each =
    let here : f n ≤ g n = each n (omega arith) in
    let rest : sum_below n f ≤ sum_below n g = sum_below-le n f g (λ i lt. each i (omega arith)) in
    omega arith

-- and less where one of them is less
pub sum_below-lt : (n : ℕ) (f g : ℕ → ℕ) (k : ℕ) → ((i : ℕ) → i < n → f i ≤ g i) → k < n → f k < g k → sum_below n f < sum_below n g
unfolding sum_below
sum_below-lt zero f g k each lt less = absurd (omega arith)
sum_below-lt (suc n) f g k each lt less = elim (cases_eq k n) [
  | inl same ↦ (
      let here : f n < g n = subst (λ i. f i < g i) same less in
      let rest : sum_below n f ≤ sum_below n g = sum_below-le n f g (λ i l. each i (omega arith)) in
      omega arith)
  | inr other ↦ (
      let here : f n ≤ g n = each n (omega arith) in
      let below : k < n = omega arith in
      let rest : sum_below n f < sum_below n g = sum_below-lt n f g k (λ i l. each i (omega arith)) below less in
      omega arith)
]

-- a sum of values up to a bound
pub sum_below-bound : (n : ℕ) (f : ℕ → ℕ) (b : ℕ) → ((i : ℕ) → f i ≤ b) → sum_below n f ≤ n * b
unfolding sum_below
sum_below-bound zero f b each = omega arith
sum_below-bound (suc n) f b each =
    let here : f n ≤ b = each n in
    let rest : sum_below n f ≤ n * b = sum_below-bound n f b each in
    omega (arith, suc-mul n b)

-- two rows agree up to n, or differ somewhere below
pub agree_or_differ : (n : ℕ) (f g : ℕ → ℕ) → ((i : ℕ) → i < n → f i ≡ g i) ⊎ ((k : ℕ) × (k < n) × (f k ≢ g k))
agree_or_differ zero f g = inl (λ i lt. absurd (omega arith))
agree_or_differ (suc n) f g = elim (agree_or_differ n f g) [
  | inr at ↦ inr (at.0, omega arith, at.2)
  | inl same ↦ elim (cases_eq (f n) (g n)) [
    | inr other ↦ inr (n, omega arith, other)
    | inl here ↦ inl (λ i lt. elim (cases_eq i n) [
      | inl is ↦ subst (λ j. f j ≡ g j) (sym is) here
      | inr not ↦ same i (omega arith)
    ])
  ]
]

-- ---- ranks

pub rank-bound : (h : Homes) → rank h ≤ 129 * 129
unfolding rank
rank-bound h = sum_below-bound 129 (λ i. 129 - slice_index h.labels i) 129 (λ i. omega arith)

-- labels of fewer equations are no lower
label-le : (more less : List ℕ) (i : ℕ) → IsCanonical more → IsCanonical less → i < 129
    → ((i k : ℕ) → i < 129 → k < 129 → alike less i k ≡ true → alike more i k ≡ true) → slice_index more i ≤ slice_index less i
label-le more less i one two lt all =
    let low : slice_index less i ≤ i = two.low i lt in
    let own : slice_index less (slice_index less i) ≡ slice_index less i = two.own i lt in
    let same : slice_index more i ≡ slice_index more (slice_index less i) =
    eqb-true _ _ (all i (slice_index less i) lt (omega arith) (eq-eqb _ _ (sym own))) in
    let first : slice_index more (slice_index less i) ≤ slice_index less i = one.low (slice_index less i) (omega arith) in
    omega arith

-- labels that agree say the same
same_labels : (more less : List ℕ) → ((i : ℕ) → i < 129 → slice_index more i ≡ slice_index less i) → (i k : ℕ) → i < 129 → k < 129
    → alike more i k ≡ true → alike less i k ≡ true
same_labels more less same i k il kl e =
    let a : slice_index more i ≡ slice_index less i = same i il in
    let b : slice_index more k ≡ slice_index less k = same k kl in
    let c : slice_index more i ≡ slice_index more k = eqb-true _ _ e in
    eq-eqb _ _ cc

-- what knows less, and not the same, has a lower rank
pub rank-falls : (more less : Homes) → Includes (equations more) (equations less) → (Includes (equations less) (equations more) → ⊥)
    → rank less < rank more
unfolding rank equations
rank-falls more less all not = elim (agree_or_differ 129 (slice_index more.labels) (slice_index less.labels)) [
  | inl same ↦ absurd (not (λ v w v_term w_term e. same_labels more.labels less.labels same (index_of v) (index_of w) (index_of-below v v_term)
      (index_of-below w w_term) e))
  | inr at ↦ (
      let lower : (i : ℕ) → i < 129 → slice_index more.labels i ≤ slice_index less.labels i =
      λ i lt. label-le more.labels less.labels i more.canonical less.canonical lt (known_of_numbers more.labels less.labels all) in
      let bounded : (i : ℕ) → i < 129 → slice_index less.labels i < 129 =
      λ i lt. (let low : slice_index less.labels i ≤ i = less.canonical.low i lt in omega arith) in
      sum_below-lt 129 (λ i. 129 - slice_index less.labels i) (λ i. 129 - slice_index more.labels i) at.0
      (λ i lt. (let l : slice_index more.labels i ≤ slice_index less.labels i = lower i lt in omega arith))
      at.1
      (let l : slice_index more.labels at.0 ≤ slice_index less.labels at.0 = lower at.0 at.1 in
      let b : slice_index less.labels at.0 < 129 = bounded at.0 at.1 in
      let d : slice_index more.labels at.0 ≢ slice_index less.labels at.0 = at.2 in
      omega arith))
]

-- what two know in common is of lower rank than the first, where the second lacks some of it
pub met-falls : (one two both : Homes) → SameEquations (equations both) (met (equations one) (equations two))
    → (Includes (equations two) (equations one) → ⊥) → rank both < rank one
met-falls one two both same lacks =
    let parts = met_below (equations one) (equations two) in
    rank-falls one both
    (λ v w v_term w_term e. parts.0 v w v_term w_term (sym (same v w v_term w_term) ∙ e))
    (λ all. lacks (λ v w v_term w_term e. parts.1 v w v_term w_term (sym (same v w v_term w_term) ∙ all v w v_term w_term e)))
