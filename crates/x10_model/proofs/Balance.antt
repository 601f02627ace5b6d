-- The test of balance.
use Rattle.std.proofs.Common.{◌≡◌, ◌↔◌, ◌⊎◌, ℕ, zero, suc, ◌<◌, Bool, true, ◌==◌, refl, sym, subst, inl, inr, arith}
use Rattle.std.specs.Prelude.{IsTrue}
use Rattle.std.proofs.lemmas.Bool.{eqb-true, eq-eqb, and_from, and_parts}
use Rattle.x10_model.specs.Totals.{Cut, all_below, IsBalanced, is_balanced}

pub last_or_below : (k n : ℕ) → k < suc n → (k ≡ n) ⊎ (k < n)
last_or_below k n lt = grind arith

passes : (test : ℕ → Bool) (n k : ℕ) → all_below test n ≡ true → k < n → test k ≡ true
passes test zero k e lt = absurd (omega arith)
passes test (suc n) k e lt =
    let h = and_parts (all_below test n) (test n) e in
    elim (last_or_below k n lt) [ inl same ↦ subst (λ j. test j ≡ true) (sym same) h.1 | inr less ↦ passes test n k h.0 less ]

all_pass : (test : ℕ → Bool) (n : ℕ) → ((k : ℕ) → k < n → test k ≡ true) → all_below test n ≡ true
all_pass test zero h = refl
all_pass test (suc n) h = and_from (all_below test n) (test n) (all_pass test n (λ k lt. h k (omega arith))) (h n (omega arith))

pub balance_is_tested : (places : ℕ) (cut : Cut) → IsTrue (is_balanced places cut) ↔ IsBalanced places cut
balance_is_tested places cut = (
  (λ t p q lp lq. eqb-true ((cut p).sent q) ((cut q).received p)
      (passes (λ q. (cut p).sent q == (cut q).received p) places q
      (passes (λ p. all_below (λ q. (cut p).sent q == (cut q).received p) places) places p t lp) lq)),
  (λ h. all_pass (λ p. all_below (λ q. (cut p).sent q == (cut q).received p) places) places
      (λ p lp. all_pass (λ q. (cut p).sent q == (cut q).received p) places (λ q lq. eq-eqb ((cut p).sent q) ((cut q).received p) (h p q lp lq)))),
)
