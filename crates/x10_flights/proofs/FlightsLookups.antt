-- What a post and a take change of the look-ups.
use Rattle.std.proofs.Common.{◌≡◌, ℕ, ◌+◌, ◌≤◌, ◌==◌, true, false, not, cond, ◌⊎◌, List, [], ◌∷◌, ◌++◌, Option, Some, None, refl, sym, ◌∙◌, ap, arith, inl, inr}
use Rattle.std.proofs.lemmas.Bool.{cond-true, cond-false, ne_eqb, eq-eqb, eqb-true, cases_Bool, cases_eq, not_from_true, not_from_false, both_ways}
use Rattle.x10_flights.specs.Flights.{Flight, flight_among, goes_to, flies_to, without, RisingBy}

-- a flight more leaves the look-ups of other numbers as they were
pub among_push : (fs : List Flight) (x : Flight) (m : ℕ) → (x.number ≡ m → ⊥) → flight_among (fs ++ x ∷ []) m ≡ flight_among fs m
among_push [] x m h = cond-false (x.number == m) (Some x) None (ne_eqb x.number m h)
among_push (f ∷ fs) x m h = ap (λ (o : Option Flight). cond (f.number == m) (Some f) o) (among_push fs x m h)

-- and is what its own number finds
pub among_new : (low : ℕ) (fs : List Flight) (x : Flight) → RisingBy (λ f. f.number) low fs x.number → flight_among (fs ++ x ∷ []) x.number ≡ Some x
among_new low [] x r = cond-true (x.number == x.number) (Some x) None (eq-eqb x.number x.number refl)
among_new low (f ∷ fs) x r =
    cond-false (f.number == x.number) (Some f) _ (ne_eqb f.number x.number (λ e. omega (arith, r.1))) ∙ among_new (f.number + 1) fs x r.2

-- no flight has a number that is not below all
pub among_none : (low : ℕ) (fs : List Flight) (top m : ℕ) → RisingBy (λ f. f.number) low fs top → top ≤ m → flight_among fs m ≡ None
among_none low [] top m r h = refl
among_none low (f ∷ fs) top m r h =
    cond-false (f.number == m) (Some f) _ (ne_eqb f.number m (λ e. omega (arith, r.1))) ∙ among_none (f.number + 1) fs top m r.2 h

-- a flight that was left out is not found
pub among_without : (n : ℕ) (fs : List Flight) → flight_among (without n fs) n ≡ None
among_without n [] = refl
among_without n (f ∷ fs) = elim (cases_Bool (f.number == n)) [
  | inl t ↦ ap (λ (gs : List Flight). flight_among gs n) (cond-false (not (f.number == n)) (f ∷ without n fs) (without n fs) (not_from_true _ t))
      ∙ among_without n fs
  | inr u ↦ ap (λ (gs : List Flight). flight_among gs n) (cond-true (not (f.number == n)) (f ∷ without n fs) (without n fs) (not_from_false _ u))
      ∙ cond-false (f.number == n) (Some f) _ u ∙ among_without n fs
]

-- and all others are
pub among_others : (n : ℕ) (fs : List Flight) (m : ℕ) → (m ≡ n → ⊥) → flight_among (without n fs) m ≡ flight_among fs m
among_others n [] m h = refl
among_others n (f ∷ fs) m h = elim (cases_Bool (f.number == n)) [
  | inl t ↦ ap (λ (gs : List Flight). flight_among gs m) (cond-false (not (f.number == n)) (f ∷ without n fs) (without n fs) (not_from_true _ t))
      ∙ among_others n fs m h
      ∙ sym (cond-false (f.number == m) (Some f) _ (ne_eqb f.number m (λ e. h (sym e ∙ eqb-true f.number n t))))
  | inr u ↦ ap (λ (gs : List Flight). flight_among gs m) (cond-true (not (f.number == n)) (f ∷ without n fs) (without n fs) (not_from_false _ u))
      ∙ ap (λ (o : Option Flight). cond (f.number == m) (Some f) o) (among_others n fs m h)
]

pub flies_without : (n : ℕ) (fs : List Flight) (p m : ℕ) → flies_to (without n fs) p m ≡ true → flies_to fs p m ≡ true
flies_without n fs p m t = elim (cases_eq m n) [
  | inl e ↦ absurd (both_ways (flies_to (without n fs) p m) (ap (goes_to p) (ap (flight_among (without n fs)) e ∙ among_without n fs)) t)
  | inr h ↦ ap (goes_to p) (sym (among_others n fs m h)) ∙ t
]

pub flies_pushed : (low : ℕ) (fs : List Flight) (x : Flight) (p m : ℕ) → RisingBy (λ f. f.number) low fs x.number → flies_to (fs ++ x ∷ []) p m ≡ true
    →
    (flies_to fs p m ≡ true) ⊎ ((m ≡ x.number) × (p ≡ x.to))
flies_pushed low fs x p m r t = elim (cases_eq x.number m) [
  | inl e ↦ inr (sym e, sym (eqb-true x.to p (sym (ap (goes_to p) (ap (flight_among (fs ++ x ∷ [])) (sym e) ∙ among_new low fs x r)) ∙ t)))
  | inr h ↦ inl (ap (goes_to p) (sym (among_push fs x m h)) ∙ t)
]

pub flies_more : (low : ℕ) (fs : List Flight) (x : Flight) (p m : ℕ) → RisingBy (λ f. f.number) low fs x.number → flies_to fs p m ≡ true
    → flies_to (fs ++ x ∷ []) p m ≡ true
flies_more low fs x p m r t = elim (cases_eq x.number m) [
  | inl e ↦ absurd (both_ways (flies_to fs p m) (ap (goes_to p) (among_none low fs x.number m r (omega arith))) t)
  | inr h ↦ ap (goes_to p) (among_push fs x m h) ∙ t
]

pub flies_new : (low : ℕ) (fs : List Flight) (x : Flight) → RisingBy (λ f. f.number) low fs x.number → flies_to (fs ++ x ∷ []) x.to x.number ≡ true
flies_new low fs x r = ap (goes_to x.to) (among_new low fs x r) ∙ eq-eqb x.to x.to refl

-- a frame that was taken flies nowhere
pub flies_nowhere : (n : ℕ) (fs : List Flight) (p : ℕ) → flies_to (without n fs) p n ≡ false
flies_nowhere n fs p = ap (goes_to p) (among_without n fs)
