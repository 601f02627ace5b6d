-- What is printed of many runs.
use Rattle.std.proofs.Common.{◌≡◌, ℕ, zero, suc, ◌++◌, List, [], ◌∷◌, Option, Some, sym, ap, subst, ◌∙◌, append_assoc}
use Rattle.std.specs.Prelude.{slice_get, take}
use Rattle.std.specs.List.{flat_map}
use Rattle.std.specs.Io.KnownBytes.{Appends}
use Rattle.std.proofs.KnownBytes.{Appends-trans}
use Rattle.std.proofs.lemmas.List.{append-nil}
use Rattle.std.proofs.lemmas.Option.{same_Some}
use Rattle.x10_findings.specs.declared.findings.Finding.{Finding}
use Rattle.x10_cli.specs.Runs.{finding_text, head_of}

flat_more : (text : Finding → List ℕ) (n : ℕ) (xs : List Finding) (x : Finding) → slice_get xs n ≡ Some x
    → flat_map text (take (suc n) xs) ≡ flat_map text (take n xs) ++ text x
flat_more text n [] x e = absurd cc
flat_more text zero (y ∷ ys) x e = ap (λ z. text z ++ []) (same_Some y x e) ∙ append-nil (text x)
flat_more text (suc n) (y ∷ ys) x e = ap (λ bs. text y ++ bs) (flat_more text n ys x e)
    ∙ sym (append_assoc (text y) (flat_map text (take n ys)) (text x))

-- the line before an output more, and the output
pub finding_more : (a b c d : Option (List ℕ)) (runs n m : ℕ) (found : List Finding) (f : Finding) → m ≡ suc n → slice_get found n ≡ Some f
    → Appends a b (flat_map (finding_text runs) (take n found)) → Appends b c (head_of runs f) → Appends c d f.output.items
    → Appends a d (flat_map (finding_text runs) (take m found))
finding_more a b c d runs n m found f e is before head output =
    subst (λ k. Appends a d (flat_map (finding_text runs) (take k found))) (sym e)
    (subst (λ bs. Appends a d bs) (sym (flat_more (finding_text runs) n found f is))
    (Appends-trans a b d _ _ before (Appends-trans b c d _ _ head output)))
