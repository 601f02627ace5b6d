-- The numbers of the frames to one place.
use Rattle.std.proofs.Common.{◌≡◌, ℕ, zero, suc, ◌+◌, ◌<◌, ◌≤◌, Bool, true, false, ◌⊎◌, List, [], ◌∷◌, ◌++◌, Option, Some, None, get_or, slice_get, is_some, drop, filter, find, refl, sym, ◌∙◌, ap, subst, arith, inl, inr}
use Rattle.std.proofs.lemmas.Bool.{cond-true, cond-false, cases_Bool, false_from_ne_true, both_ways, cond_both, cases_lt}
use Rattle.x10_flights.specs.Flights.{RisingBy, IsNext, Has, has_any}

pub Has-append : (xs ys : List ℕ) (n : ℕ) → Has xs n → Has (xs ++ ys) n
Has-append [] ys n h = absurd h
Has-append (x ∷ xs) ys n (inl e) = inl e
Has-append (x ∷ xs) ys n (inr h) = inr (Has-append xs ys n h)

pub Has-push : (xs : List ℕ) (n : ℕ) → Has (xs ++ n ∷ []) n
Has-push [] n = inl refl
Has-push (x ∷ xs) n = inr (Has-push xs n)

pub Has-filter : (p : ℕ → Bool) (xs : List ℕ) (n : ℕ) → p n ≡ true → Has xs n → Has (filter p xs) n
Has-filter p [] n t h = absurd h
Has-filter p (x ∷ xs) n t (inl e) =
    subst (λ (ys : List ℕ). Has ys n) (sym (cond-true (p x) (x ∷ filter p xs) (filter p xs) (ap p e ∙ t))) (inl e)
Has-filter p (x ∷ xs) n t (inr h) =
    cond_both (p x) (x ∷ filter p xs) (filter p xs) (λ ys. Has ys n) (λ _. inr (Has-filter p xs n t h)) (λ _. Has-filter p xs n t h)

pub any_pushed : (xs : List ℕ) (n : ℕ) → has_any (xs ++ n ∷ []) ≡ true
any_pushed [] n = refl
any_pushed (x ∷ xs) n = refl

pub any_has : (xs : List ℕ) (n : ℕ) → Has xs n → has_any xs ≡ true
any_has [] n h = absurd h
any_has (x ∷ xs) n h = refl

-- there are numbers where there is a first one
pub any_first : (xs : List ℕ) → is_some (slice_get xs 0) ≡ has_any xs
any_first [] = refl
any_first (x ∷ xs) = refl

-- what passes a test is left behind numbers that don't
pub Has-passed : (test : ℕ → Bool) (xs : List ℕ) (k n : ℕ) → test n ≡ true → Has xs n → ((j : ℕ) → j < k → test (get_or xs j 0) ≡ false)
    → Has (drop k xs) n
Has-passed test xs zero n t h b = h
Has-passed test [] (suc k) n t h b = h
Has-passed test (x ∷ xs) (suc k) n t (inl e) b = absurd (both_ways (test n) (ap test (sym e) ∙ b zero (omega arith)) t)
Has-passed test (x ∷ xs) (suc k) n t (inr h) b = Has-passed test xs k n t h (λ j l. b (suc j) (omega arith))

-- what is left from the first number that is large enough
pub Has-drop : (xs : List ℕ) (start from n : ℕ) → Has xs n → from ≤ n → ((k : ℕ) (d : ℕ) → k < start → get_or xs k d < from) → Has (drop start xs) n
Has-drop xs zero from n h l below = h
Has-drop [] (suc start) from n h l below = h
Has-drop (x ∷ xs) (suc start) from n (inl e) l below = absurd (omega (arith, below zero x (omega arith)))
Has-drop (x ∷ xs) (suc start) from n (inr h) l below = Has-drop xs start from n h l (λ k d b. below (suc k) d (omega arith))

pub above : (low : ℕ) (xs : List ℕ) (top n : ℕ) → RisingBy (λ m. m) low xs top → Has xs n → low ≤ n
above low [] top n r h = absurd h
above low (x ∷ xs) top n r (inl e) = omega (arith, r.0)
above low (x ∷ xs) top n r (inr h) = omega (arith, r.0, above (x + 1) xs top n r.2 h)

upto : (m y : ℕ) → (m ≤ y) ⊎ (y + 1 ≤ m)
upto m y = elim (cases_lt y m) [ inl h ↦ inr (omega arith) | inr h ↦ inl h ]

module _ (test : ℕ → Bool) where
  earlier : (low y : ℕ) (o : Option ℕ) → low ≤ y → ((m : ℕ) → low ≤ m → m ≤ y → test m ≡ false) → IsNext test (y + 1) o → IsNext test low o
  earlier low y None l none h = λ m a. elim (upto m y) [ inl b ↦ none m a b | inr b ↦ h m b ]
  earlier low y (Some n) l none h = record {
    not_before = omega (arith, h.not_before);
    passes = h.passes;
    least = λ m a t. elim (upto m y) [ inl b ↦ absurd (both_ways (test m) (none m a b) t) | inr b ↦ h.least m b t ];
  }

  -- the first that passes is the least, where all that pass are there
  pub next : (low : ℕ) (ys : List ℕ) (top : ℕ) → RisingBy (λ m. m) low ys top → ((m : ℕ) → low ≤ m → test m ≡ true → Has ys m)
      → IsNext test low (find test ys)
  next low [] top r all = λ m l. false_from_ne_true (test m) (λ t. all m l t)
  next low (y ∷ ys) top r all = elim (cases_Bool (test y)) [
    | inl t ↦ subst (IsNext test low) (sym (cond-true (test y) (Some y) (find test ys) t)) (record {
      not_before = r.0;
      passes = t;
      least = λ m l u. elim (all m l u) [ inl e ↦ omega arith | inr h ↦ omega (arith, above (y + 1) ys top m r.2 h) ];
    })
    | inr f ↦ subst (IsNext test low) (sym (cond-false (test y) (Some y) (find test ys) f))
        (earlier low y (find test ys) r.0
        (λ m a b. false_from_ne_true (test m) (λ t. elim (all m a t) [
          | inl e ↦ both_ways (test y) f (ap test e ∙ t)
          | inr h ↦ absurd (omega (arith, above (y + 1) ys top m r.2 h))
        ]))
        (next (y + 1) ys top r.2 (λ m a t. elim (all m (omega (arith, r.0)) t) [
          | inl e ↦ absurd (omega arith)
          | inr h ↦ h
        ])))
  ]
