-- Texts of the items of a list, one after another.
use Rattle.std.proofs.Common.{◌≡◌, ℕ, zero, suc, ◌+◌, ◌<◌, List, [], ◌∷◌, ◌++◌, length, map, take, Some, slice_get, get_or, sym, ap, ap₂, ◌∙◌, arith}
use Rattle.std.proofs.lemmas.List.{map-append, take_more}
use Rattle.std.proofs.lemmas.Option.{same_Some}

got : {X : Type 0} (xs : List X) (i : ℕ) (x : X) → slice_get xs i ≡ Some x → (i < length xs) × (get_or xs i x ≡ x)
got [] i x e = absurd cc
got (y ∷ ys) zero x e = (omega arith, same_Some y x e)
got (y ∷ ys) (suc n) x e = let rest = got ys n x e in (omega (arith, rest.0), rest.1)

-- the text of one item more
pub one_text_more : {X S : Type 0} (f : X → List ℕ) (bytes : S → List ℕ) (xs : List X) (ts : List S) (i : ℕ) (x : X) (t : S)
    → slice_get xs i ≡ Some x → map bytes ts ≡ map f (take i xs) → bytes t ≡ f x
    → map bytes (ts ++ t ∷ []) ≡ map f (take (i + 1) xs)
one_text_more f bytes xs ts i x t there e h =
    let here = got xs i x there in
    map-append bytes ts (t ∷ []) ∙ ap₂ (λ (a : List (List ℕ)) (b : List ℕ). a ++ b ∷ []) e h
    ∙ sym (map-append f (take i xs) (x ∷ []))
    ∙ ap (map f) (sym (take_more xs i x here.0 ∙ ap (λ (y : _). take i xs ++ y ∷ []) here.1))
