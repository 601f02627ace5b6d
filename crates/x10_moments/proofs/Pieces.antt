-- Texts written one after another, as a loop does.
use Rattle.std.proofs.Common.{◌≡◌, ℕ, ◌+◌, List, ◌++◌, String, Some, option_map, slice_get, sym, ap, ◌∙◌, append_assoc, add-one}
use Rattle.std.proofs.lemmas.Option.{slice_get-map}
use Rattle.std.specs.String.{string_bytes}
use Rattle.x10_moments.specs.Changes.{pieces, bytes_of}

-- one text more is written
pub one_more : (n : ℕ) (f : ℕ → List ℕ) (old out new : List ℕ) → out ≡ old ++ pieces n f → new ≡ out ++ f n → new ≡ old ++ pieces (n + 1) f
one_more n f old out new e h =
    h ∙ ap (λ (t : List ℕ). t ++ f n) e ∙ append_assoc old (pieces n f) (f n) ∙ ap (λ (k : ℕ). old ++ pieces k f) (sym (add-one n))

-- the bytes of an element
pub element : {Z : Type 0} (xs : List (String Z)) (i : ℕ) (x : String Z) (b : List ℕ) → slice_get xs i ≡ Some x → b ≡ string_bytes x
    → Some b ≡ slice_get (bytes_of xs) i
element xs i x b there e = ap Some e ∙ sym (slice_get-map string_bytes xs i ∙ ap (option_map string_bytes) there)

-- one piece is written, and then the rest
pub joined : (old mid new a rest : List ℕ) → mid ≡ old ++ a → new ≡ mid ++ rest → new ≡ old ++ (a ++ rest)
joined old mid new a rest e h = h ∙ ap (λ (t : List ℕ). t ++ rest) e ∙ append_assoc old a rest
