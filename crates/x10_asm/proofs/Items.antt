-- Items listed one after the other, as a loop does.
use Rattle.std.proofs.Common.{◌≡◌, ℕ, ◌+◌, ◌≤◌, List, [], ◌∷◌, ◌++◌, length, take, map, Some, refl, sym, ap, ◌∙◌, append-nil}
use Rattle.std.specs.Prelude.{slice_get}
use Rattle.std.specs.List.{flat_map}
use Rattle.std.proofs.lemmas.List.{take_more, take_all, flat_map_more}
use Rattle.std.proofs.lemmas.Option.{slice_get_within, get_or_from_slice_get, slice_get-map}

-- what stood before, and the lines of the first items
pub record AreListed {X : Type 0} (f : X → List ℕ) (before out : List ℕ) (xs : List X) (i : ℕ) : Type 0 where
  pub is : out ≡ before ++ flat_map f (take i xs)

unfoldable pub none_listed : {X : Type 0} (f : X → List ℕ) (xs : List X) (out : List ℕ) → AreListed f out out xs 0
none_listed f xs out = record { is = sym (append-nil out) }

unfoldable pub one_more_listed : {X : Type 0} (f : X → List ℕ) (xs : List X) (i : ℕ) (x : X) (before out new : List ℕ) → AreListed f before out xs i
    → slice_get xs i ≡ Some x → new ≡ out ++ f x → AreListed f before new xs (i + 1)
one_more_listed f xs i x before out new a h e =
    let within = slice_get_within xs i x h in
    let here = get_or_from_slice_get xs i x x h in
    record {
      is = e ∙ ap (λ (o : List ℕ). o ++ f x) a.is ∙ flat_map_more f before (take i xs) x
          ∙ ap (λ (ys : List _). before ++ flat_map f ys) (ap (λ (y : _). take i xs ++ y ∷ []) (sym here) ∙ sym (take_more xs i x within));
    }

pub all_listed : {X : Type 0} (f : X → List ℕ) (xs : List X) (i : ℕ) (before out : List ℕ) → AreListed f before out xs i → length xs ≤ i
    → out ≡ before ++ flat_map f xs
all_listed f xs i before out a le = a.is ∙ ap (λ (ys : List _). before ++ flat_map f ys) (take_all i xs le)

-- the word of an item
pub word_at : {X : Type 0} (g : X → List ℕ) (xs : List X) (i : ℕ) (x : X) → slice_get xs i ≡ Some x → slice_get (map g xs) i ≡ Some (g x)
word_at g xs i x h = rw (slice_get-map g xs i, h) refl
