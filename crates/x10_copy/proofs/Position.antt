-- Where a part stands among others, and parts with numbers.
use Rattle.std.proofs.Common.{◌≡◌, ℕ, zero, suc, ◌+◌, ◌<◌, ◌≤◌, Bool, false, eqb, ltb, List, [], ◌∷◌, ◌++◌, length, get_or, set, max, refl, sym, ap, subst, ◌∙◌, inl, inr, arith, append-nil, eq-eqb, lt-ltb, le-ltb}
use Rattle.std.proofs.lemmas.Bool.{cases_lt, cases_eq, ne_eqb, ltb-false}
use Rattle.std.proofs.lemmas.List.{get_or_append_left, get_or_push, length_push, get_or-set_same, get_or-set_other, length-set}
use Rattle.x10_model.specs.declared.limits.TheConstants.{MOST_WIDE}
use Rattle.x10_copy.specs.Names.{number, with_new}
use Rattle.x10_copy.specs.Numbered.{AreNumbered}

same : (y : ℕ) (ys : List ℕ) (x : ℕ) → y ≡ x → number (y ∷ ys) x ≡ 0
same y ys x e = rw (eq-eqb y x e) refl

other : (y : ℕ) (ys : List ℕ) (x : ℕ) → (y ≡ x → ⊥) → number (y ∷ ys) x ≡ suc (number ys x)
other y ys x n = rw (ne_eqb y x n) refl

pub number_most : (xs : List ℕ) (x : ℕ) → number xs x ≤ length xs
number_most [] x = omega arith
number_most (y ∷ ys) x = elim (cases_eq y x) [ inl e ↦ omega (arith, same y ys x e) | inr n ↦ omega (arith, other y ys x n, number_most ys x) ]

pub number_there : (xs : List ℕ) (x : ℕ) → number xs x < length xs → get_or xs (number xs x) 0 ≡ x
number_there [] x lt = absurd (omega (arith, lt))
number_there (y ∷ ys) x lt = elim (cases_eq y x) [
  | inl e ↦ rw (same y ys x e) e
  | inr n ↦ rw (other y ys x n) (number_there ys x (omega (arith, other y ys x n, lt)))
]

-- it stands at k, so it stands at k or before
pub number_at : (xs : List ℕ) (k x : ℕ) → k < length xs → get_or xs k 0 ≡ x → number xs x ≤ k
number_at [] k x lt e = absurd (omega (arith, lt))
number_at (y ∷ ys) zero x lt e = omega (arith, same y ys x e)
number_at (y ∷ ys) (suc k) x lt e = elim (cases_eq y x) [
  | inl s ↦ omega (arith, same y ys x s)
  | inr n ↦ omega (arith, other y ys x n, number_at ys k x (omega (arith, lt)) e)
]

pub number_append : (xs ys : List ℕ) (x : ℕ) → number xs x < length xs → number (xs ++ ys) x ≡ number xs x
number_append [] ys x lt = absurd (omega (arith, lt))
number_append (y ∷ xs) ys x lt = elim (cases_eq y x) [
  | inl e ↦ same y (xs ++ ys) x e ∙ sym (same y xs x e)
  | inr n ↦ other y (xs ++ ys) x n ∙ ap suc (number_append xs ys x (omega (arith, other y xs x n, lt))) ∙ sym (other y xs x n)
]

pub number_new : (xs : List ℕ) (x : ℕ) → length xs ≤ number xs x → number (xs ++ x ∷ []) x ≡ length xs
number_new [] x le = same x [] x refl
number_new (y ∷ xs) x le = elim (cases_eq y x) [
  | inl e ↦ absurd (omega (arith, same y xs x e, le))
  | inr n ↦ other y (xs ++ x ∷ []) x n ∙ ap suc (number_new xs x (omega (arith, other y xs x n, le)))
]

-- ---- one part more

pub record Added (xs : List ℕ) (x : ℕ) (ys : List ℕ) : Type 0 where
  pub order : number ys x ≤ length xs
  pub below : number ys x < length ys
  pub used : max (length xs) (number ys x + 1) ≡ length ys
  pub more : List ℕ
  pub is : ys ≡ xs ++ more

pub there_already : (xs : List ℕ) (x : ℕ) → number xs x < length xs → with_new xs x ≡ xs
there_already xs x lt = rw (lt-ltb (number xs x) (length xs) lt) refl

pub not_there : (xs : List ℕ) (x : ℕ) → length xs ≤ number xs x → with_new xs x ≡ xs ++ x ∷ []
not_there xs x le = rw (le-ltb (number xs x) (length xs) le) refl

pub added : (xs : List ℕ) (x : ℕ) → Added xs x (with_new xs x)
added xs x = elim (cases_lt (number xs x) (length xs)) [
  | inl lt ↦ rw (there_already xs x lt) (record { order = omega arith; below = lt; used = omega arith; more = []; is = sym (append-nil xs) })
  | inr le ↦ rw (not_there xs x le) (record {
    order = omega (arith, number_new xs x le);
    below = omega (arith, number_new xs x le, length_push xs x);
    used = omega (arith, number_new xs x le, length_push xs x);
    more = x ∷ [];
    is = refl;
  })
]

-- ---- parts with numbers

pub numbered_at : (places parts : List ℕ) (k part : ℕ) → AreNumbered places parts → k < length parts → get_or parts k 0 ≡ part
    → get_or places part 0 ≡ k
numbered_at places parts k part h lt e = ap (λ (p : ℕ). get_or places p 0) (sym e) ∙ h.back k lt

-- a number is the one under which the part stands
pub number_is : (places parts : List ℕ) (part : ℕ) → AreNumbered places parts → number parts part < length parts
    → get_or places part 0 ≡ number parts part
number_is places parts part h lt = numbered_at places parts (number parts part) part h lt (number_there parts part lt)

pub place_there : (places parts : List ℕ) (part : ℕ) → AreNumbered places parts → number parts part < length parts → part < length places
place_there places parts part h lt = subst (λ (p : ℕ). p < length places) (number_there parts part lt) (h.there (number parts part) lt)

-- the test's three outcomes
pub past_places : (places parts : List ℕ) (part : ℕ) → AreNumbered places parts → length places ≤ part
    → false ≡ ltb (number parts part) (length parts)
past_places places parts part h le = elim (cases_lt (number parts part) (length parts)) [
  | inl lt ↦ absurd (omega (arith, place_there places parts part h lt))
  | inr ge ↦ sym (le-ltb (number parts part) (length parts) ge)
]

pub past_parts : (places parts : List ℕ) (part k : ℕ) → AreNumbered places parts → k ≡ get_or places part 0 → length parts ≤ k
    → false ≡ ltb (number parts part) (length parts)
past_parts places parts part k h e le = elim (cases_lt (number parts part) (length parts)) [
  | inl lt ↦ absurd (omega (arith, number_is places parts part h lt, e, le))
  | inr ge ↦ sym (le-ltb (number parts part) (length parts) ge)
]

pub tells : (places parts : List ℕ) (part k : ℕ) (b : Bool) → AreNumbered places parts → k ≡ get_or places part 0 → k < length parts
    → b ≡ eqb (get_or parts k 0) part → b ≡ ltb (number parts part) (length parts)
tells places parts part k b h e lt is = elim (cases_eq (get_or parts k 0) part) [
  | inl s ↦ is ∙ eq-eqb (get_or parts k 0) part s ∙ sym (lt-ltb (number parts part) (length parts) (omega (arith, number_at parts k part lt s)))
  | inr n ↦ elim (cases_lt (number parts part) (length parts)) [
    | inl below ↦ absurd (n (ap (λ (i : ℕ). get_or parts i 0) (e ∙ number_is places parts part h below) ∙ number_there parts part below))
    | inr ge ↦ is ∙ ne_eqb (get_or parts k 0) part n ∙ sym (le-ltb (number parts part) (length parts) ge)
  ]
]

-- places may be added
pub still_numbered : (places parts more : List ℕ) → AreNumbered places parts → length places ≤ length more
    → ((k : ℕ) → k < length places → get_or more k 0 ≡ get_or places k 0) → AreNumbered more parts
still_numbered places parts more h le same_there = record {
  few = h.few;
  there = λ k lt. omega (arith, h.there k lt);
  back = λ k lt. same_there (get_or parts k 0) (h.there k lt) ∙ h.back k lt;
}

-- a new part gets the next number
pub numbered_more : (places parts : List ℕ) (part : ℕ) → AreNumbered places parts → length parts < MOST_WIDE → part < length places
    → length parts ≤ number parts part → AreNumbered (set places part (length parts)) (parts ++ part ∷ [])
numbered_more places parts part h few at new = record {
  few = omega (arith, length_push parts part);
  there = λ k lt. elim (cases_lt k (length parts)) [
    | inl old ↦ rw (get_or_append_left parts (part ∷ []) 0 k old, length-set places part (length parts)) (h.there k old)
    | inr ge ↦ rw (get_or_push parts part 0 k (omega (arith, length_push parts part, lt, ge)), length-set places part (length parts)) at
  ];
  back = λ k lt. elim (cases_lt k (length parts)) [
    | inl old ↦ rw (get_or_append_left parts (part ∷ []) 0 k old)
        (get_or-set_other places part (get_or parts k 0) (length parts) 0 (λ e. omega (arith, number_at parts k part old e, new)) ∙ h.back k old)
    | inr ge ↦ rw (get_or_push parts part 0 k (omega (arith, length_push parts part, lt, ge)))
        (get_or-set_same places part (length parts) 0 at ∙ omega (arith, length_push parts part, lt, ge))
  ];
}

-- the same by what the calls answered
pub numbered_next : (places grown parts new : List ℕ) (part count : ℕ) → AreNumbered places parts → length places ≤ length grown
    → ((k : ℕ) → k < length places → get_or grown k 0 ≡ get_or places k 0)
    → count ≡ length parts → count < MOST_WIDE → part < length grown → ltb (number parts part) (length parts) ≡ false → new ≡ parts ++ part ∷ []
    → AreNumbered (set grown part count) new
numbered_next places grown parts new part count h longer kept is few at new_part e =
    rw (e, is) (numbered_more grown parts part (still_numbered places parts grown h longer kept) (omega (arith, is, few)) at
    (ltb-false (number parts part) (length parts) new_part))
