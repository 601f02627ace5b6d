-- Items written one after another, as a loop does.
use Rattle.std.proofs.Common.{◌≡◌, ℕ, zero, suc, ◌+◌, ◌≤◌, List, [], ◌∷◌, ◌++◌, length, drop, Some, slice_get, sym, ap, ◌∙◌, append_assoc, append-nil, add-one}
use Rattle.std.proofs.lemmas.List.{drop_all}
use Rattle.std.proofs.lemmas.Option.{same_Some}

-- what is written, and the text of the items that are left, are the whole
pub record AreLeft {X : Type 0} (rest : ℕ → List X → List ℕ) (whole out : List ℕ) (xs : List X) (at : ℕ) : Type 0 where
  pub is : out ++ rest at (drop at xs) ≡ whole

drop_there : {X : Type 0} (xs : List X) (at : ℕ) (x : X) → slice_get xs at ≡ Some x → drop at xs ≡ x ∷ drop (at + 1) xs
drop_there [] at x e = absurd cc
drop_there (y ∷ ys) zero x e = ap (λ (z : _). z ∷ ys) (same_Some y x e)
drop_there (y ∷ ys) (suc n) x e =
    drop_there ys n x e ∙ ap (λ (k : ℕ). x ∷ drop k ys) (add-one n) ∙ ap (λ (k : ℕ). x ∷ drop k (y ∷ ys)) (sym (add-one (suc n)))

pub one_more : {X : Type 0} (rest : ℕ → List X → List ℕ) (word : ℕ → X → List ℕ)
    → ((n : ℕ) (x : X) (ys : List X) → rest n (x ∷ ys) ≡ word n x ++ rest (n + 1) ys)
    → (whole out new : List ℕ) (xs : List X) (at : ℕ) (x : X) → AreLeft rest whole out xs at → slice_get xs at ≡ Some x
    → new ≡ out ++ word at x → AreLeft rest whole new xs (at + 1)
one_more rest word more whole out new xs at x a here e = record {
  is = ap (λ (t : List ℕ). t ++ rest (at + 1) (drop (at + 1) xs)) e
      ∙ append_assoc out (word at x) (rest (at + 1) (drop (at + 1) xs))
      ∙ ap (λ (t : List ℕ). out ++ t) (sym (more at x (drop (at + 1) xs)))
      ∙ ap (λ (ys : List _). out ++ rest at ys) (sym (drop_there xs at x here))
      ∙ a.is;
}

pub all_written : {X : Type 0} (rest : ℕ → List X → List ℕ) → ((n : ℕ) → rest n [] ≡ []) → (whole out : List ℕ) (xs : List X) (at : ℕ)
    → AreLeft rest whole out xs at → length xs ≤ at → out ≡ whole
all_written rest none whole out xs at a le =
    sym (append-nil out) ∙ ap (λ (t : List ℕ). out ++ t) (sym (none at)) ∙ ap (λ (ys : List _). out ++ rest at ys) (sym (drop_all at xs le)) ∙ a.is
