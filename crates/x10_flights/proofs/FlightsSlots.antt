-- The flights that slots hold.
use Rattle.std.proofs.Common.{◌≡◌, ℕ, zero, suc, ◌+◌, ◌<◌, ◌≤◌, ◌==◌, true, false, not, List, [], ◌∷◌, Option, Some, None, length, get_or, set, filter, is_some, refl, sym, ◌∙◌, ap, arith, All, inl, inr, ltb}
use Rattle.std.specs.List.Sorted.{IsNonDecreasingBy}
use Rattle.std.specs.List.{filter_map, cons_option}
use Rattle.std.specs.declared.vec.Vec.{Vec}
use Rattle.std.specs.Global.{Global}
use Rattle.std.proofs.lemmas.Bool.{cond-true, cond-false, ne_eqb, eq-eqb, cases_Bool, cases_lt, ltb-true, ltb-false, not_from_true, not_from_false}
use Rattle.std.proofs.lemmas.List.Elements.{All-head, All-tail}
use Rattle.std.proofs.lemmas.List.{set-get_or}
use Rattle.x10_flights.specs.declared.table.Slot.{Slot}
use Rattle.x10_flights.specs.Flights.{Flight, flight_among, without, RisingBy, held}
use Rattle.x10_flights.proofs.RisingKeys.{rising_from, rising_low}

abbrev pub flights_in : List Slot → List Flight
flights_in = filter_map (λ s. held s.number s.to s.bytes)

module _ (number to : ℕ) where
  skip : (bytes : Option (Vec ℕ Global)) (fs : List Flight) (n : ℕ) → (number ≡ n → ⊥) →
      flight_among (cons_option (held number to bytes) fs) n ≡ flight_among fs n
  skip None fs n h = refl
  skip (Some b) fs n h = cond-false (number == n) _ _ (ne_eqb number n h)

  hit : (bytes : Option (Vec ℕ Global)) (fs : List Flight) (n : ℕ) → number ≡ n → flight_among fs n ≡ None →
      flight_among (cons_option (held number to bytes) fs) n ≡ held number to bytes
  hit None fs n e h = h
  hit (Some b) fs n e h = cond-true (number == n) _ _ (eq-eqb number n e)

  leaves : (bytes : Option (Vec ℕ Global)) (fs : List Flight) (n : ℕ) → number ≡ n →
      without n (cons_option (held number to bytes) fs) ≡ without n fs
  leaves None fs n e = refl
  leaves (Some b) fs n e = cond-false (not (number == n)) _ _ (not_from_true _ (eq-eqb number n e))

  keeps : (bytes : Option (Vec ℕ Global)) (fs : List Flight) (n : ℕ) → (number ≡ n → ⊥) →
      without n (cons_option (held number to bytes) fs) ≡ cons_option (held number to bytes) (without n fs)
  keeps None fs n h = refl
  keeps (Some b) fs n h = cond-true (not (number == n)) _ _ (not_from_false _ (ne_eqb number n h))

  rises : (bytes : Option (Vec ℕ Global)) (fs : List Flight) (low top : ℕ) → low ≤ number → number < top →
      RisingBy (λ f. f.number) (number + 1) fs top → RisingBy (λ f. f.number) low (cons_option (held number to bytes) fs) top
  rises None fs low top a b r = rising_low (λ f. f.number) (number + 1) low fs top (omega arith) r
  rises (Some v) fs low top a b r = (a, b, r)

-- no slot has the number
pub absent : (ss : List Slot) (n : ℕ) → All (λ s. s.number ≡ n → ⊥) ss → flight_among (flights_in ss) n ≡ None
absent [] n h = refl
absent (s ∷ ss) n h = skip s.number s.to s.bytes (flights_in ss) n (All-head (λ (t : Slot). t.number ≡ n → ⊥) s ss h)
    ∙ absent ss n (All-tail (λ (t : Slot). t.number ≡ n → ⊥) s ss h)

-- the slots after one have other numbers
others : (s : Slot) (ss : List Slot) (top n : ℕ) → RisingBy (λ t. t.number) (s.number + 1) ss top → s.number ≡ n → All (λ t. t.number ≡ n → ⊥) ss
others s ss top n r e k d h f = omega (arith, rising_from (λ (t : Slot). t.number) (s.number + 1) ss top r k d h)

-- the slot with the number tells
pub found : (low : ℕ) (ss : List Slot) (top i : ℕ) (d : Slot) (n : ℕ) → RisingBy (λ t. t.number) low ss top → i < length ss
    → (get_or ss i d).number ≡ n →
    flight_among (flights_in ss) n ≡ held (get_or ss i d).number (get_or ss i d).to (get_or ss i d).bytes
found low [] top i d n r h e = absurd (omega arith)
found low (s ∷ ss) top zero d n r h e = hit s.number s.to s.bytes (flights_in ss) n e (absent ss n (others s ss top n r.2 e))
found low (s ∷ ss) top (suc i) d n r h e =
    skip s.number s.to s.bytes (flights_in ss) n (λ f. omega (
      arith,
      rising_from (λ (t : Slot). t.number) (s.number + 1) ss top r.2 i d (omega arith),
    ))
    ∙ found (s.number + 1) ss top i d n r.2 (omega arith) e

without_absent : (ss : List Slot) (n : ℕ) → All (λ s. s.number ≡ n → ⊥) ss → without n (flights_in ss) ≡ flights_in ss
without_absent [] n h = refl
without_absent (s ∷ ss) n h =
    keeps s.number s.to s.bytes (flights_in ss) n (All-head (λ (t : Slot). t.number ≡ n → ⊥) s ss h)
    ∙ ap (cons_option (held s.number s.to s.bytes)) (without_absent ss n (All-tail (λ (t : Slot). t.number ≡ n → ⊥) s ss h))

emptied : (s : Slot) (fs : List Flight) → s.bytes ≡ None → cons_option (held s.number s.to s.bytes) fs ≡ fs
emptied s fs e = ap (λ (b : Option (Vec ℕ Global)). cons_option (held s.number s.to b) fs) e

-- a slot whose bytes are taken
pub taken : (low : ℕ) (ss : List Slot) (top i : ℕ) (d y : Slot) (n : ℕ) → RisingBy (λ t. t.number) low ss top → i < length ss
    → (get_or ss i d).number ≡ n → y.bytes ≡ None →
    flights_in (set ss i y) ≡ without n (flights_in ss)
taken low [] top i d y n r h e b = absurd (omega arith)
taken low (s ∷ ss) top zero d y n r h e b =
    emptied y (flights_in ss) b ∙ sym (leaves s.number s.to s.bytes (flights_in ss) n e ∙ without_absent ss n (others s ss top n r.2 e))
taken low (s ∷ ss) top (suc i) d y n r h e b =
    ap (cons_option (held s.number s.to s.bytes)) (taken (s.number + 1) ss top i d y n r.2 (omega arith) e b)
    ∙ sym (keeps s.number s.to s.bytes (flights_in ss) n (λ f.
    omega (arith, rising_from (λ (t : Slot). t.number) (s.number + 1) ss top r.2 i d (omega arith))))

is_none : (o : Option (Vec ℕ Global)) → is_some o ≡ false → o ≡ None
is_none None e = refl
is_none (Some v) e = cc

-- the slots of taken frames are given back
pub swept : (ss : List Slot) → flights_in (filter (λ s. is_some s.bytes) ss) ≡ flights_in ss
swept [] = refl
swept (s ∷ ss) = elim (cases_Bool (is_some s.bytes)) [
  | inl t ↦ ap flights_in (cond-true (is_some s.bytes) (s ∷ filter (λ (x : Slot). is_some x.bytes) ss) (filter (λ (x : Slot). is_some x.bytes) ss) t)
      ∙ ap (cons_option (held s.number s.to s.bytes)) (swept ss)
  | inr f ↦ ap flights_in (cond-false (is_some s.bytes) (s ∷ filter (λ (x : Slot). is_some x.bytes) ss) (filter (λ (x : Slot). is_some x.bytes) ss) f)
      ∙ swept ss ∙ sym (emptied s (flights_in ss) (is_none s.bytes f))
]

pub flights_rise : (low : ℕ) (ss : List Slot) (top : ℕ) → RisingBy (λ t. t.number) low ss top → RisingBy (λ f. f.number) low (flights_in ss) top
flights_rise low [] top r = tt
flights_rise low (s ∷ ss) top r = rises s.number s.to s.bytes (flights_in ss) low top r.0 r.1 (flights_rise (s.number + 1) ss top r.2)

-- a number that the slot where it would be does not have, no slot has
pub not_there : (ss : List Slot) (n at : ℕ) → IsNonDecreasingBy (λ s. s.number) ss
    → ((k : ℕ) (d : Slot) → k < at → ltb (get_or ss k d).number n ≡ true) →
    ((k : ℕ) (d : Slot) → at ≤ k → k < length ss → ltb (get_or ss k d).number n ≡ false)
    → ((d : Slot) → at < length ss → (get_or ss at d).number ≡ n → ⊥) → All (λ s. s.number ≡ n → ⊥) ss
not_there ss n at sorted before after here k d h e = elim (cases_lt k at) [
  | inl l ↦ omega (arith, ltb-true _ _ (before k d l))
  | inr g ↦ here d (omega arith) (omega (arith, ltb-false _ _ (after at d (omega arith) (omega arith)), sorted at k d g h))
]

-- what is found where a number stands
pub told : (ss : List Slot) (top i : ℕ) (d : Slot) (n : ℕ) → RisingBy (λ t. t.number) 0 ss top → i < length ss → (get_or ss i d).number ≡ n
    → d ≡ get_or ss i d →
    flight_among (flights_in ss) n ≡ held n d.to d.bytes
told ss top i d n r h e w =
    found 0 ss top i d n r h e ∙ ap (λ (s : Slot). held s.number s.to s.bytes) (sym w)
    ∙ ap (λ (m : ℕ). held m d.to d.bytes) (ap (λ (s : Slot). s.number) w ∙ e)

-- a slot that was empty stays as it was
pub untaken : (ss : List Slot) (i : ℕ) (d : Slot) (bytes : Option (Vec ℕ Global)) → d ≡ get_or ss i d → bytes ≡ None → d.bytes ≡ None →
    flights_in (set ss i (record { number = d.number; to = d.to; bytes = bytes })) ≡ flights_in ss
untaken ss i d bytes w e f =
    ap (λ (b : Option (Vec ℕ Global)). flights_in (set ss i (record { number = d.number; to = d.to; bytes = b }))) (e ∙ sym f)
    ∙ ap (λ (s : Slot). flights_in (set ss i s)) w ∙ ap flights_in (set-get_or ss i d)
