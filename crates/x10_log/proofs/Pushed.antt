-- Items written one after the other, as a loop does.
use Rattle.std.proofs.Common.{◌≡◌, ℕ, ◌+◌, ◌≤◌, ◌<◌, List, [], ◌∷◌, ◌++◌, length, drop, get_or, sym, ap, ◌∙◌, append_assoc, append-nil}
use Rattle.std.proofs.lemmas.List.{drop_more, drop_all}
use Rattle.std.proofs.lemmas.Option.{get_or_from_slice_get, slice_get-get_or}

-- what is written, and the text of the items that are left, are the whole
pub record ArePushed {X : Type 0} (text : List X → List ℕ) (whole out : List ℕ) (xs : List X) (at : ℕ) : Type 0 where
  pub is : out ++ text (drop at xs) ≡ whole

-- where an index is within, what is answered otherwise doesn't matter
pub get_or_default : {X : Type 0} (xs : List X) (at : ℕ) (d e : X) → at < length xs → get_or xs at d ≡ get_or xs at e
get_or_default xs at d e lt = (get_or_from_slice_get xs at (get_or xs at e) d (slice_get-get_or xs at e lt))

pub one_pushed : {X : Type 0} (text : List X → List ℕ) (word : X → List ℕ) → ((x : X) (ys : List X) → text (x ∷ ys) ≡ word x ++ text ys)
    → (whole out new : List ℕ) (xs : List X) (at : ℕ) (x : X) → ArePushed text whole out xs at → at < length xs → x ≡ get_or xs at x
    → new ≡ out ++ word x → ArePushed text whole new xs (at + 1)
one_pushed text word more whole out new xs at x a lt here e = record {
  is = ap (λ (t : List ℕ). t ++ text (drop (at + 1) xs)) e
      ∙ append_assoc out (word x) (text (drop (at + 1) xs))
      ∙ ap (λ (t : List ℕ). out ++ t) (sym (more x (drop (at + 1) xs)))
      ∙ ap (λ (y : _). out ++ text (y ∷ drop (at + 1) xs)) here
      ∙ ap (λ (ys : List _). out ++ text ys) (sym (drop_more xs at x lt))
      ∙ a.is;
}

pub all_pushed : {X : Type 0} (text : List X → List ℕ) → text [] ≡ [] → (whole out : List ℕ) (xs : List X) (at : ℕ) → ArePushed text whole out xs at
    → length xs ≤ at → out ≡ whole
all_pushed text none whole out xs at a le =
    sym (append-nil out) ∙ ap (λ (t : List ℕ). out ++ t) (sym none) ∙ ap (λ (ys : List _). out ++ text ys) (sym (drop_all at xs le)) ∙ a.is
