-- Pieces of a text, written one after another.
use Rattle.std.proofs.Common.{◌≡◌, ℕ, List, ◌++◌, Result, Ok, Err, OnOk, ap, ◌∙◌, append_assoc}

-- two pieces are written, of which the second is told otherwise
pub two : {A : Type 0} {E : Type 0} (r : Result A E) (old mid new a b told : List ℕ) → mid ≡ old ++ a → b ≡ told → OnOk r (new ≡ mid ++ b)
    → OnOk r (new ≡ old ++ (a ++ told))
two (Ok x) old mid new a b told e same h = h ∙ ap (λ (t : List ℕ). mid ++ t) same ∙ ap (λ (t : List ℕ). t ++ told) e ∙ append_assoc old a told
two (Err x) old mid new a b told e same h = h

-- three pieces are written, of which the second is told otherwise
pub three : {A : Type 0} {E : Type 0} (r : Result A E) (old first mid new a b told d : List ℕ) → first ≡ old ++ a → mid ≡ first ++ b → b ≡ told
    → OnOk r (new ≡ mid ++ d) → OnOk r (new ≡ old ++ (a ++ (told ++ d)))
three (Ok x) old first mid new a b told d e f same h =
    h ∙ ap (λ (t : List ℕ). t ++ d) (f ∙ ap (λ (t : List ℕ). first ++ t) same) ∙ append_assoc first told d
    ∙ ap (λ (t : List ℕ). t ++ (told ++ d)) e ∙ append_assoc old a (told ++ d)
three (Err x) old first mid new a b told d e f same h = h

-- one piece is written that is told otherwise
pub told : {A : Type 0} {E : Type 0} (r : Result A E) (new old a b : List ℕ) → a ≡ b → OnOk r (new ≡ old ++ a) → OnOk r (new ≡ old ++ b)
told (Ok x) new old a b same h = h ∙ ap (λ (t : List ℕ). old ++ t) same
told (Err x) new old a b same h = h
