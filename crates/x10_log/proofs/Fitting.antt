-- What is written fits its types, item by item.
use Rattle.std.proofs.Common.{◌≡◌, ℕ, suc, ◌+◌, ◌≤◌, ◌<◌, ◌^◌, List, [], ◌∷◌, length, map, take, get_or, Fits, sym, subst}
use Rattle.std.specs.Int.{w64}
use Rattle.std.specs.List.{AllByRecursion}
use Rattle.std.proofs.lemmas.List.{take_more, take_all}
use Rattle.x10_log.proofs.LogLines.{all_and_one}

-- the numbers of a slice
pub numbers_fit : (xs : List ℕ) → ((i : ℕ) → Fits w64 (get_or xs i 0)) → AllByRecursion (λ n. n < 2 ^ 64) xs
numbers_fit [] h = tt
numbers_fit (x ∷ xs) h = ((h 0).fits, numbers_fit xs (λ i. h (suc i)))

-- the items before a place fit
pub record AreFit {X : Type 0} (P : X → Type 0) (xs : List X) (at : ℕ) : Type 0 where
  pub fit : AllByRecursion P (take at xs)

pub none_fit : {X : Type 0} (P : X → Type 0) (xs : List X) → AreFit P xs 0
none_fit P xs = record { fit = tt }

pub one_fits : {X : Type 0} (P : X → Type 0) (xs : List X) (at : ℕ) (x : X) → AreFit P xs at → at < length xs → x ≡ get_or xs at x → P x
    → AreFit P xs (at + 1)
one_fits P xs at x a lt e p = record {
  fit = subst (AllByRecursion P) (sym (take_more xs at x lt)) (all_and_one P (take at xs) (get_or xs at x) a.fit (subst P e p));
}

pub all_fit : {X : Type 0} (P : X → Type 0) (xs : List X) (at : ℕ) → AreFit P xs at → length xs ≤ at → AllByRecursion P xs
all_fit P xs at a le = subst (AllByRecursion P) (take_all at xs le) a.fit

pub mapped_fit : {X Y : Type 0} (P : Y → Type 0) (g : X → Y) (xs : List X) → AllByRecursion (λ x. P (g x)) xs → AllByRecursion P (map g xs)
mapped_fit P g [] h = tt
mapped_fit P g (x ∷ xs) h = (h.0, mapped_fit P g xs h.1)

-- the first key
pub first_fits : (key : ℕ) (keys : List ℕ) → key < 2 ^ 64 → key ≡ get_or keys 0 0 → AreFit (λ n. n < 2 ^ 64) keys 1
first_fits key [] small e = record { fit = tt }
first_fits key (k ∷ ks) small e = record { fit = (subst (λ (n : ℕ). n < 2 ^ 64) e small, tt) }

pub next_fits : (keys : List ℕ) (at k : ℕ) → AreFit (λ n. n < 2 ^ 64) keys at → at < length keys → k ≡ get_or keys at 0 → k < 2 ^ 64
    → AreFit (λ n. n < 2 ^ 64) keys (at + 1)
next_fits keys at k a lt e small = record {
  fit = subst (AllByRecursion (λ (n : ℕ). n < 2 ^ 64)) (sym (take_more keys at 0 lt))
      (all_and_one (λ (n : ℕ). n < 2 ^ 64) (take at keys) (get_or keys at 0) a.fit (subst (λ (n : ℕ). n < 2 ^ 64) e small));
}
