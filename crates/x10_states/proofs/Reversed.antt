-- A list from its end.
use Rattle.std.proofs.Common.{◌≡◌, ℕ, ◌-◌, ◌<◌, List, length, reverse, slice_index, sym, ap, ◌∙◌, subst}
use Rattle.std.proofs.lemmas.List.{get_or-reverse, length-reverse}

pub same_length : (xs ys : List ℕ) → reverse xs ≡ ys → length xs ≡ length ys
same_length xs ys e = sym (length-reverse xs) ∙ ap length e

pub from_the_end : (xs ys : List ℕ) (k : ℕ) → reverse xs ≡ ys → k < length ys → slice_index xs (length xs - 1 - k) ≡ slice_index ys k
from_the_end xs ys k e h =
    sym (get_or-reverse xs k 0 (subst (λ (n : ℕ). k < n) (sym (same_length xs ys e)) h)) ∙ ap (λ (zs : List ℕ). slice_index zs k) e
