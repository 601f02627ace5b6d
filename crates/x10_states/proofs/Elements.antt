-- Elements written one after another, as a loop does.
use Rattle.std.proofs.Common.{◌≡◌, ℕ, zero, suc, ◌+◌, List, ◌∷◌, ◌++◌, refl, sym, ap, ap₂, ◌∙◌, append_assoc, add-one}
use Rattle.x10_states.specs.Json.{comma, elements, others}

-- one element more is written
pub one_more : (n : ℕ) (f : ℕ → List ℕ) (old out new : List ℕ) → out ≡ old ++ elements n f → new ≡ out ++ (comma n ++ f n)
    → new ≡ old ++ elements (n + 1) f
one_more n f old out new e h =
    h ∙ ap (λ (t : List ℕ). t ++ (comma n ++ f n)) e ∙ append_assoc old (elements n f) (comma n ++ f n)
    ∙ ap (λ (k : ℕ). old ++ elements k f) (sym (add-one n))

-- elements that are the same one by one are the same
pub same_elements : (n : ℕ) (f g : ℕ → List ℕ) → ((i : ℕ) → f i ≡ g i) → elements n f ≡ elements n g
same_elements zero f g h = refl
same_elements (suc n) f g h = ap₂ (λ (a b : List ℕ). a ++ (comma n ++ b)) (same_elements n f g h) (h n)

-- one more behind another one
pub one_behind : (n : ℕ) (f : ℕ → List ℕ) (old out new : List ℕ) → out ≡ old ++ others n f → new ≡ out ++ (44 ∷ f n)
    → new ≡ old ++ others (n + 1) f
one_behind n f old out new e h =
    h ∙ ap (λ (t : List ℕ). t ++ (44 ∷ f n)) e ∙ append_assoc old (others n f) (44 ∷ f n)
    ∙ ap (λ (k : ℕ). old ++ others k f) (sym (add-one n))
