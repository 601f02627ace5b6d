-- Lists that go round.
use Rattle.std.proofs.Common.{◌≡◌, ℕ, ◌+◌, ◌-◌, ◌%◌, ◌<◌, ◌≤◌, List, [], ◌∷◌, ◌++◌, length, get_or, take, refl, sym, ap, subst, ◌∙◌, inl, inr, arith}
use Rattle.std.proofs.lemmas.Bool.{cases_eq}
use Rattle.std.proofs.Math.Nat.{mod-eq_of_lt, mod-lt, add-mod_right}
use Rattle.std.proofs.lemmas.List.{places}
use Rattle.std.proofs.lemmas.List.FromFn.{length-map-range_with_len, get_or-map-range_with_len, map-range_with_len_more, fill_by_all}
use Rattle.x10_hall.specs.KeyLists.{in_rounds, Recurs}

-- the item at a position
abbrev at_of : List ℕ → ℕ → ℕ
at_of round at = get_or round (at % length round) 0

pub long : (round : List ℕ) (count : ℕ) → length (in_rounds round count) ≡ count
long round count = length-map-range_with_len (at_of round) 0 count

pub item : (round : List ℕ) (count at d : ℕ) → at < count → get_or (in_rounds round count) at d ≡ get_or round (at % length round) 0
item round count at d lt = get_or-map-range_with_len (at_of round) 0 count at at d lt (omega arith)

-- one item more
pub longer : (round : List ℕ) (count : ℕ) → in_rounds round (count + 1) ≡ in_rounds round count ++ get_or round (count % length round) 0 ∷ []
longer round count = map-range_with_len_more (at_of round) 0 count count (omega arith)

-- a list is its own round
pub whole : (keys : List ℕ) → keys ≡ in_rounds keys (length keys)
whole keys = fill_by_all (at_of keys) keys (length keys) 0 refl (λ k lt. ap (λ n. get_or keys n 0) (sym (mod-eq_of_lt lt)))

-- items that come again are made by the first of them
pub again : (keys : List ℕ) (period : ℕ) → 0 < period → period ≤ length keys → Recurs keys period → keys ≡ in_rounds (take period keys) (length keys)
again keys period some fits recurs = fill_by_all (at_of (take period keys)) keys (length keys) 0 refl (λ k lt. recurs k lt ∙ same k)
  where
    size : length (take period keys) ≡ period
    size = grind (arith, places)

    same : (k : ℕ) → get_or keys (k % period) 0 ≡ get_or (take period keys) (k % length (take period keys)) 0
    same k = subst (λ n. get_or keys (k % period) 0 ≡ get_or (take period keys) (k % n) 0) (sym size) (front (k % period) (mod-lt k some))
      where
        front : (n : ℕ) → n < period → get_or keys n 0 ≡ get_or (take period keys) n 0
        front n lt = grind (arith, places)

-- an item that is the one a period before comes again, if that one does
pub recurs_next : (keys : List ℕ) (period at : ℕ) → period ≤ at → ((k : ℕ) → k < at → get_or keys k 0 ≡ get_or keys (k % period) 0) → 0 < period
    → get_or keys at 0 ≡ get_or keys (at - period) 0 → (k : ℕ) → k < at + 1 → get_or keys k 0 ≡ get_or keys (k % period) 0
recurs_next keys period at past before some same k lt = elim (cases_eq k at) [
  | inl e ↦ subst (λ n. get_or keys n 0 ≡ get_or keys (n % period) 0) (sym e)
      (same ∙ before (at - period) (omega (arith, past, some)) ∙ ap (λ n. get_or keys n 0) back)
  | inr ne ↦ before k (omega (arith, lt, ne))
]
  where
    back : (at - period) % period ≡ at % period
    back = let on : at - period + period ≡ at = omega (arith, past) in sym (add-mod_right (at - period) period) ∙ ap (λ n. n % period) on
