-- Lines that are appended one after another.
use Rattle.std.proofs.Common.{◌≡◌, ℕ, List, ◌++◌, Result, Ok, Err, ap, ◌∙◌, append_assoc}
use Rattle.std.specs.Prelude.{OnOk}

pub four_lines : {T E : Type 0} (r : Result T E) (old a b c d t u v w : List ℕ) → t ≡ old ++ a → u ≡ t ++ b → v ≡ u ++ c → OnOk r (w ≡ v ++ d)
    → OnOk r (w ≡ old ++ (a ++ (b ++ (c ++ d))))
four_lines (Ok x) old a b c d t u v w one two three last =
    last ∙ ap (λ bs. bs ++ d) (three ∙ ap (λ bs. bs ++ c) (two ∙ ap (λ bs. bs ++ b) one))
    ∙ append_assoc ((old ++ a) ++ b) c d ∙ append_assoc (old ++ a) b (c ++ d) ∙ append_assoc old a (b ++ (c ++ d))
four_lines (Err e) old a b c d t u v w one two three last = tt

pub five_lines : {T E : Type 0} (r : Result T E) (old a b c d e t u v w x : List ℕ) → t ≡ old ++ a → u ≡ t ++ b → v ≡ u ++ c → w ≡ v ++ d
    → OnOk r (x ≡ w ++ e) → OnOk r (x ≡ old ++ (a ++ (b ++ (c ++ (d ++ e)))))
five_lines {E = E} (Ok y) old a b c d e t u v w x one two three four last =
    four_lines {E = E} (Ok y) old a b c (d ++ e) t u v x one two three (last ∙ ap (λ bs. bs ++ e) four ∙ append_assoc v d e)
five_lines (Err y) old a b c d e t u v w x one two three four last = tt
