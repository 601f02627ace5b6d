-- Lists whose keys rise.
use Rattle.std.proofs.Common.{◌≡◌, ℕ, zero, suc, ◌+◌, ◌<◌, ◌≤◌, Bool, List, [], ◌∷◌, ◌++◌, length, get_or, set, drop, filter, arith}
use Rattle.std.specs.List.Sorted.{IsNonDecreasingBy}
use Rattle.std.proofs.lemmas.Bool.{cond_both}
use Rattle.x10_flights.specs.Flights.{RisingBy}

module _ {X : Type 0} (key : X → ℕ) where
  pub rising_low : (low lower : ℕ) (xs : List X) (top : ℕ) → lower ≤ low → RisingBy key low xs top → RisingBy key lower xs top
  rising_low low lower [] top h r = tt
  rising_low low lower (x ∷ xs) top h r = (omega (arith, r.0), r.1, r.2)

  pub rising_top : (low : ℕ) (xs : List X) (top higher : ℕ) → top ≤ higher → RisingBy key low xs top → RisingBy key low xs higher
  rising_top low [] top higher h r = tt
  rising_top low (x ∷ xs) top higher h r = (r.0, omega (arith, r.1), rising_top (key x + 1) xs top higher h r.2)

  pub rising_push : (low : ℕ) (xs : List X) (top : ℕ) (x : X) → low ≤ top → key x ≡ top → RisingBy key low xs top
      → RisingBy key low (xs ++ x ∷ []) (top + 1)
  rising_push low [] top x h e r = (omega arith, omega arith, tt)
  rising_push low (y ∷ ys) top x h e r = (r.0, omega (arith, r.1), rising_push (key y + 1) ys top x (omega (arith, r.1)) e r.2)

  pub rising_filter : (p : X → Bool) (low : ℕ) (xs : List X) (top : ℕ) → RisingBy key low xs top → RisingBy key low (filter p xs) top
  rising_filter p low [] top r = tt
  rising_filter p low (x ∷ xs) top r =
      cond_both (p x) (x ∷ filter p xs) (filter p xs) (λ ys. RisingBy key low ys top)
      (λ _. (r.0, r.1, rising_filter p (key x + 1) xs top r.2))
      (λ _. rising_low (key x + 1) low (filter p xs) top (omega (arith, r.0)) (rising_filter p (key x + 1) xs top r.2))

  pub rising_from : (low : ℕ) (xs : List X) (top : ℕ) → RisingBy key low xs top → (k : ℕ) (d : X) → k < length xs → low ≤ key (get_or xs k d)
  rising_from low [] top r k d h = absurd (omega arith)
  rising_from low (x ∷ xs) top r zero d h = r.0
  rising_from low (x ∷ xs) top r (suc k) d h = omega (arith, r.0, rising_from (key x + 1) xs top r.2 k d (omega arith))

  pub rising_sorted : (low : ℕ) (xs : List X) (top : ℕ) → RisingBy key low xs top → IsNonDecreasingBy key xs
  rising_sorted low [] top r i j d h l = absurd (omega arith)
  rising_sorted low (x ∷ xs) top r zero zero d h l = omega arith
  rising_sorted low (x ∷ xs) top r zero (suc j) d h l = omega (arith, rising_from (key x + 1) xs top r.2 j d (omega arith))
  rising_sorted low (x ∷ xs) top r (suc i) zero d h l = absurd (omega arith)
  rising_sorted low (x ∷ xs) top r (suc i) (suc j) d h l = rising_sorted (key x + 1) xs top r.2 i j d (omega arith) (omega arith)

  pub rising_set : (low : ℕ) (xs : List X) (top i : ℕ) (y d : X) → i < length xs → key y ≡ key (get_or xs i d) → RisingBy key low xs top
      → RisingBy key low (set xs i y) top
  rising_set low [] top i y d h e r = tt
  rising_set low (x ∷ xs) top zero y d h e r = (omega (arith, r.0), omega (arith, r.1), rising_low (key x + 1) (key y + 1) xs top (omega arith) r.2)
  rising_set low (x ∷ xs) top (suc i) y d h e r = (r.0, r.1, rising_set (key x + 1) xs top i y d (omega arith) e r.2)

  pub rising_drop : (low : ℕ) (xs : List X) (top start from : ℕ) → RisingBy key low xs top →
      ((k : ℕ) (d : X) → start ≤ k → k < length xs → from ≤ key (get_or xs k d)) → RisingBy key from (drop start xs) top
  rising_drop low [] top zero from r h = tt
  rising_drop low [] top (suc start) from r h = tt
  rising_drop low (x ∷ xs) top zero from r h = (h zero x (omega arith) (omega arith), r.1, r.2)
  rising_drop low (x ∷ xs) top (suc start) from r h =
      rising_drop (key x + 1) xs top start from r.2 (λ k d a b. h (suc k) d (omega arith) (omega arith))

  pub rising_rest : (low : ℕ) (xs : List X) (top k : ℕ) → RisingBy key low xs top → RisingBy key low (drop k xs) top
  rising_rest low xs top zero r = r
  rising_rest low [] top (suc k) r = tt
  rising_rest low (x ∷ xs) top (suc k) r = rising_low (key x + 1) low (drop k xs) top (omega (arith, r.0)) (rising_rest (key x + 1) xs top k r.2)
