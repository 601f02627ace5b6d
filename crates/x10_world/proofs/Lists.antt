-- Lists of places, changed at one number.
use Rattle.std.proofs.Common.{◌≡◌, ◌≢◌, ◌⊎◌, ℕ, zero, suc, ◌+◌, ◌<◌, List, [], ◌∷◌, ◌++◌, length, replicate, Some, refl, sym, ap, ◌∙◌, inl, inr, arith}
use Rattle.std.specs.Prelude.{slice_get, slice_set}
use Rattle.std.proofs.lemmas.Bool.{cases_eq}
use Rattle.std.proofs.lemmas.Option.{same_Some, slice_get_within}
use Rattle.x10_model.proofs.Lists.{set_here as set_within, set_off}

-- ---- what is where

pub at_first : {X : Type 0} (xs : List X) → 0 < length xs → (x : X) × (slice_get xs 0 ≡ Some x)
at_first [] lt = absurd (omega arith)
at_first (x ∷ xs) lt = (x, refl)

-- ---- changes

pub set_here : {X : Type 0} (xs : List X) (i : ℕ) (x y : X) → slice_get xs i ≡ Some y → slice_get (slice_set xs i x) i ≡ Some x
set_here xs i x y e = set_within xs i x (slice_get_within xs i y e)

-- what holds of the item that was set, or of one that was there before
pub set_either : {X : Type 0} (xs : List X) (i j : ℕ) (x y z : X) → slice_get xs i ≡ Some z → slice_get (slice_set xs i x) j ≡ Some y
    → ((j ≡ i) × (x ≡ y)) ⊎ ((j ≢ i) × (slice_get xs j ≡ Some y))
set_either xs i j x y z is e = elim (cases_eq j i) [
  | inl same ↦ inl (same, same_Some x y (sym (set_here xs i x z is) ∙ ap (λ k. slice_get (slice_set xs i x) k) (sym same) ∙ e))
  | inr ne ↦ inr (ne, sym (set_off xs i j x ne) ∙ e)
]

pub replicate_more : {X : Type 0} (n : ℕ) (x : X) → replicate (n + 1) x ≡ replicate n x ++ x ∷ []
replicate_more zero x = refl
replicate_more (suc n) x =
    let e : suc n + 1 ≡ suc (n + 1) = omega arith in
    ap (λ k. replicate k x) e ∙ ap (λ xs. x ∷ xs) (replicate_more n x)
