-- Lists that are filled from the front, one after another; and what a map has.
use Rattle.std.proofs.Common.{◌≡◌, ◌↔◌, ℕ, zero, suc, ◌+◌, Bool, List, [], ◌∷◌, ◌++◌, take, Option, Some, None, slice_get, refl, sym, ap, ◌∙◌, add-one}
use Rattle.std.specs.Prelude.{IsTrue, is_some}
use Rattle.x10_model.specs.Totals.{Cut}
use Rattle.x10_finish.specs.Books.{Kept, kept_of}
use Rattle.x10_place.specs.Stays.{cut_of}

take_step : {X : Type 0} (xs : List X) (i : ℕ) (x : X) → slice_get xs i ≡ Some x → take (suc i) xs ≡ take i xs ++ x ∷ []
take_step [] i x e = absurd cc
take_step (y ∷ xs) zero x e = let same : y ≡ x = cc in ap (λ z. z ∷ []) same
take_step (y ∷ xs) (suc i) x e = ap (λ zs. y ∷ zs) (take_step xs i x e)

-- one more of a list is pushed
pub pushed_next : {X : Type 0} (xs : List X) (i : ℕ) (x y : X) (ys zs : List X) → ys ≡ take i xs → slice_get xs i ≡ Some x → y ≡ x → zs ≡ ys ++ y ∷ []
    → zs ≡ take (i + 1) xs
pushed_next xs i x y ys zs h e same is =
    is ∙ ap (λ v. ys ++ v ∷ []) same ∙ ap (λ l. l ++ x ∷ []) h ∙ sym (take_step xs i x e) ∙ ap (λ n. take n xs) (sym (add-one i))

-- a map has a book
pub has_tells : (b : Bool) (o : Option Kept) → b ≡ is_some o → (IsTrue b ↔ ((cut : Cut) × (cut_of o ≡ Some cut)))
has_tells b None e = (λ t. absurd cc, λ h. absurd (let f = h.1 in cc))
has_tells b (Some k) e = (λ t. (kept_of k, refl), λ h. e)
