-- Weakening a state by another, register by register, gives the least state above both.
use Rattle.std.proofs.Common.{◌≡◌, ◌≢◌, ◌⊎◌, ℕ, ◌+◌, ◌*◌, ◌<◌, ◌≤◌, Bool, true, false, ◌==◌, ◌||◌, not, Option, Some, None, refl, sym, ap, subst, ◌∙◌, inl, inr, arith, rules}
use Rattle.std.proofs.lemmas.Bool.{cases_lt, eq-eqb, cases_Bool}
use Rattle.x10_kinds.specs.declared.kind.Kind.{Kind}
use Rattle.x10_kinds.specs.declared.kind.Kind.TheVariants.{Obj}
use Rattle.x10_kinds.specs.declared.homes.Term.TheVariants as term
use Rattle.x10_kinds.specs.Kinds.{Fits, meet_of, has_place}
use Rattle.x10_kinds.specs.Equations.{Includes, SameEquations, IsEquivalence, equations, met, same_term}
use Rattle.x10_kinds.specs.Ranks.{sum_below, rank}
use Rattle.x10_kinds.proofs.KindLemmas.{meet_of-above, meet_of-least, meet_of-none}
use Rattle.x10_kinds.proofs.Equivalences.{equations_is, alone_ways, from_alone_ways, met_below, met_greatest}
use Rattle.x10_kinds.proofs.Ranks.{sum_below-lt, rank-bound}
use Rattle.x10_kinds.proofs.Terms.{same_term-is, same_term-same}
use Rattle.x10_model.specs.Assignments.{State, IsState, IsBelow, IsKind, holds_place}
use Rattle.x10_verify.specs.declared.known.Known.{Known}
use Rattle.x10_verify.specs.Known.{kind_in, state_of}
use Rattle.x10_verify.specs.Knowledge.{SameState}
use Rattle.x10_verify.specs.Effects.{IsKept}
use Rattle.x10_verify.specs.Merging.{common_of, parted, weight, rank_of, IsAloneIn, IsMet, IsWeakened}
use Rattle.x10_verify.proofs.Below.{entry_cases}

-- ---- one kind

-- a common kind comes of two
common_parts : (a b : Option Kind) (m : Kind) → common_of a b ≡ Some m
    → (k : Kind) × (l : Kind) × (a ≡ Some k) × (b ≡ Some l) × (meet_of k l ≡ Some m)
common_parts None b m e = absurd cc
common_parts (Some k) None m e = absurd cc
common_parts (Some k) (Some l) m e = (k, l, refl, refl, e)

option_cases : (o : Option Kind) → (o ≡ None) ⊎ ((k : Kind) × (o ≡ Some k))
option_cases None = inl refl
option_cases (Some k) = inr (k, refl)

-- where both fit a kind, there is a common one, and it fits
common_fits : (a b : Option Kind) (k l want : Kind) → a ≡ Some k → b ≡ Some l → Fits k want → Fits l want
    → (m : Kind) × (common_of a b ≡ Some m) × Fits m want
common_fits a b k l want ea eb one two =
    let both : common_of a b ≡ meet_of k l = ap (λ x. common_of x b) ea ∙ ap (λ y. common_of (Some k) y) eb in
    elim (option_cases (meet_of k l)) [
      | inl none ↦ absurd (meet_of-none k l none want one two)
      | inr some ↦ (some.0, both ∙ some.1, meet_of-least k l some.0 some.1 want one two)
    ]

-- kinds with a place have themselves in common
placed_common : (k l want : Kind) → Fits k want → Fits l want → has_place want ≡ true → meet_of k l ≡ Some k
placed_common k l want one two placed = search rules

-- a kind that both fit, where the common one is another, has no place
common_no_place : (a b : Option Kind) (k l want : Kind) → a ≡ Some k → b ≡ Some l → Fits k want → Fits l want → common_of a b ≢ a
    → has_place want ≡ false
common_no_place a b k l want ea eb one two other = elim (cases_Bool (has_place want)) [
  | inl placed ↦ absurd (other (ap (λ x. common_of x b) ea ∙ ap (λ y. common_of (Some k) y) eb ∙ placed_common k l want one two placed ∙ sym ea))
  | inr none ↦ none
]

weight_meet : (k l : Kind) → meet_of k l ≢ Some k → weight (meet_of k l) < weight (Some k)
weight_meet k l other = search (rules, arith)

pub weight_falls : (a b : Option Kind) → common_of a b ≢ a → weight (common_of a b) < weight a
weight_falls None b other = absurd (other refl)
weight_falls (Some (Obj c)) None other = omega arith
weight_falls (Some k) None other = search (rules, arith)
weight_falls (Some k) (Some l) other = weight_meet k l other

-- a kind that both have is the common one
pub common_same : (a b : Option Kind) → b ≡ a → common_of a b ≡ a
common_same None b e = refl
common_same (Some k) b e = ap (λ x. common_of (Some k) x) e ∙ meet_same k
  where
    meet_same : (l : Kind) → meet_of l l ≡ Some l
    meet_same l = search rules

-- ---- register by register

pub weakened_begins : (v s : Known) (changed : Bool) → changed ≡ false → IsWeakened v s 0 v changed
weakened_begins v s changed e = record {
  kinds = λ r lt. absurd (omega arith);
  rest = λ r le. refl;
  within = λ x y tx ty h. h;
  least = λ w is kinds homes. homes;
  alone = λ h. h;
  same = λ f. refl;
  falls = λ f. absurd (let g = e in cc);
}

-- a row that is the same is as it was
pub weakened_equal : (v s : Known) (n : ℕ) → v.kinds ≡ s.kinds → IsWeakened v s n v false
weakened_equal v s n e = record {
  kinds = λ r lt. sym (common_same (kind_in v.kinds r) (kind_in s.kinds r) (ap (λ ks. kind_in ks r) (sym e)));
  rest = λ r le. refl;
  within = λ x y tx ty h. h;
  least = λ w is kinds homes. homes;
  alone = λ h. h;
  same = λ f. refl;
  falls = λ f. absurd cc;
}

below_or_at : (q n : ℕ) → q < n + 1 → (q < n) ⊎ (q ≡ n)
below_or_at q n lt = elim (cases_lt q n) [ inl less ↦ inl less | inr le ↦ inr (omega arith) ]

-- a register that is as it was
pub weakened_same : (v s : Known) (n : ℕ) (u : Known) (changed : Bool) → IsWeakened v s n u changed
    → common_of (kind_in u.kinds n) (kind_in s.kinds n) ≡ kind_in u.kinds n → IsWeakened v s (n + 1) u changed
weakened_same v s n u changed h e = record {
  kinds = λ r lt. elim (below_or_at r n lt) [
    | inl less ↦ h.kinds r less
    | inr at ↦ subst (λ q. kind_in u.kinds q ≡ common_of (kind_in v.kinds q) (kind_in s.kinds q)) (sym at)
        (sym e ∙ ap (λ k. common_of k (kind_in s.kinds n)) here)
  ];
  rest = λ r le. h.rest r (omega arith);
  within = h.within;
  least = h.least;
  alone = h.alone;
  same = h.same;
  falls = λ f. (let g = h.falls f in (g.0, omega arith, g.2));
}
  where
    here : kind_in u.kinds n ≡ kind_in v.kinds n
    here = h.rest n (omega arith)

differs : (a b : ℕ) → not (same_term (term.Reg a) (term.Reg b)) ≡ true → a ≡ b → ⊥
differs a b e same = absurd (let f = eq-eqb a b same in not_both (a == b) f e)
  where
    not_both : (x : Bool) → x ≡ true → not x ≡ true → ⊥
    not_both true f g = absurd cc
    not_both false f g = absurd cc

-- a register that was weakened
pub weakened_more : (v s : Known) (n : ℕ) (u t : Known) (before changed : Bool) → changed ≡ true → IsWeakened v s n u before → n < 64
    → common_of (kind_in u.kinds n) (kind_in s.kinds n) ≢ kind_in u.kinds n
    → SameState (state_of t) (parted (state_of u) n (common_of (kind_in u.kinds n) (kind_in s.kinds n))) → IsWeakened v s (n + 1) t changed
weakened_more v s n u t before changed is h lt other same = record {
  kinds = kinds_more;
  rest = λ r le. elim (entry_cases (Option Kind) n r) [
    | inl at ↦ (let z = at.0 in absurd (omega arith))
    | inr off ↦ same.kinds r ∙ off.1 (kind_in u.kinds) common ∙ h.rest r (omega arith)
  ];
  within = within_more;
  least = least_more;
  alone = alone_more;
  same = λ f. absurd (let g = is in cc);
  falls = λ f. (n, omega arith, λ e. other (ap (λ k. common_of k (kind_in s.kinds n)) here ∙ e ∙ sym here));
}
  where
    common : Option Kind
    common = common_of (kind_in u.kinds n) (kind_in s.kinds n)

    here : kind_in u.kinds n ≡ kind_in v.kinds n
    here = h.rest n (omega arith)

    kinds_more : (r : ℕ) → r < n + 1 → kind_in t.kinds r ≡ common_of (kind_in v.kinds r) (kind_in s.kinds r)
    kinds_more r less = elim (entry_cases (Option Kind) n r) [
      | inl at ↦ same.kinds r ∙ at.1 (kind_in u.kinds) common ∙ subst (λ q. common ≡ common_of (kind_in v.kinds q) (kind_in s.kinds q)) (sym at.0)
          (ap (λ k. common_of k (kind_in s.kinds n)) here)
      | inr off ↦ same.kinds r ∙ off.1 (kind_in u.kinds) common ∙ elim (below_or_at r n less) [ inl l ↦ h.kinds r l | inr e ↦ absurd (off.0 e) ]
    ]

    is_v : IsEquivalence (equations v.homes)
    is_v = equations_is v.homes

    within_more : Includes (equations v.homes) (equations t.homes)
    within_more x y tx ty e = elim (alone_ways (equations u.homes) n x y (sym (same.homes x y tx ty) ∙ e)) [
      | inl one ↦ subst (λ z. equations v.homes x z ≡ true) (same_term-is x y one) (is_v.reflexive x tx)
      | inr known ↦ h.within x y tx ty known.2
    ]

    least_more : (w : State) → IsState w → ((r : ℕ) (want : Kind) → w.kinds r ≡ Some want → IsKind (state_of v) r want × IsKind (state_of s) r want)
        → Includes (equations v.homes) w.homes → Includes (equations t.homes) w.homes
    least_more w state kinds homes x y tx ty e = same.homes x y tx ty
        ∙ from_alone_ways (equations u.homes) n x y (choose (cases_Bool (same_term x (term.Reg n))) (cases_Bool (same_term y (term.Reg n))))
      where
        free : holds_place (w.kinds n) ≡ false
        free = elim (option_cases (w.kinds n)) [
          | inl none ↦ ap holds_place none
          | inr some ↦ (let k = kinds n some.0 some.1 in
              ap holds_place some.1 ∙ common_no_place (kind_in u.kinds n) (kind_in s.kinds n) k.0.0 k.1.0 some.0
              (here ∙ k.0.1) k.1.1 k.0.2 k.1.2 other)
        ]

        -- register n is alone in w
        left : x ≡ term.Reg n → x ≡ y
        left at = at ∙ sym (state.alone n y lt free ty (subst (λ z. w.homes z y ≡ true) at e))

        right : y ≡ term.Reg n → x ≡ y
        right at = state.alone n x lt free tx (subst (λ z. w.homes z x ≡ true) at (state.equivalence.symmetric x y tx ty e)) ∙ sym at

        one_term : x ≡ y → same_term x y ≡ true
        one_term q = subst (λ z. same_term x z ≡ true) q (same_term-same x)

        choose : (same_term x (term.Reg n) ≡ true) ⊎ (same_term x (term.Reg n) ≡ false)
            → (same_term y (term.Reg n) ≡ true) ⊎ (same_term y (term.Reg n) ≡ false)
            → (same_term x y ≡ true) ⊎ ((not (same_term x (term.Reg n)) ≡ true) × (not (same_term y (term.Reg n)) ≡ true)
            × (equations u.homes x y ≡ true))
        choose (inl a) b = inl (one_term (left (same_term-is x (term.Reg n) a)))
        choose (inr a) (inl b) = inl (one_term (right (same_term-is y (term.Reg n) b)))
        choose (inr a) (inr b) = inr (ap not a, ap not b, h.least w state kinds homes x y tx ty e)

    alone_more : IsAloneIn (state_of v) → IsAloneIn (state_of t)
    alone_more old r x less none tx e = elim (alone_ways (equations u.homes) n (term.Reg r) x (sym (same.homes (term.Reg r) x less tx) ∙ e)) [
      | inl one ↦ sym (same_term-is (term.Reg r) x one)
      | inr known ↦ elim (entry_cases (Option Kind) n r) [
        | inl at ↦ absurd (differs r n known.0 at.0)
        | inr off ↦ h.alone old r x less (ap holds_place (sym (same.kinds r ∙ off.1 (kind_in u.kinds) common)) ∙ none) tx known.2
      ]
    ]

-- ---- all registers

pub weakened_met : (old v s u : Known) (changed : Bool) → SameEquations (equations v.homes) (met (equations old.homes) (equations s.homes))
    → v.kinds ≡ old.kinds → IsWeakened v s 64 u changed
    → IsKept (state_of old) → IsKept (state_of s) → IsMet (state_of old) (state_of s) (state_of u)
weakened_met old v s u changed homes kinds h one two = record {
  kept = record { state = record { equivalence = equations_is u.homes; alone = h.alone alone_v }; narrow = λ r k e. (common_at r k e).0 };
  first = record {
    kinds = λ r want e. (let c = common_at r want e in (c.1, c.3, (meet_of-above c.1 c.2 want c.5).0));
    homes = λ x y tx ty e. (met_below (equations old.homes) (equations s.homes)).0 x y tx ty (sym (homes x y tx ty) ∙ h.within x y tx ty e);
  };
  second = record {
    kinds = λ r want e. (let c = common_at r want e in (c.2, c.4, (meet_of-above c.1 c.2 want c.5).1));
    homes = λ x y tx ty e. (met_below (equations old.homes) (equations s.homes)).1 x y tx ty (sym (homes x y tx ty) ∙ h.within x y tx ty e);
  };
  least = λ w is a b. record {
    kinds = λ r want e. least_kind w a b r want e;
    homes = h.least w is (λ r want e. (old_kind r want (a.kinds r want e), b.kinds r want e))
        (λ x y tx ty e. homes x y tx ty ∙ met_greatest (equations old.homes) (equations s.homes) w.homes a.homes b.homes x y tx ty e);
  };
}
  where
    at_v : (r : ℕ) → kind_in v.kinds r ≡ kind_in old.kinds r
    at_v r = ap (λ ks. kind_in ks r) kinds

    old_kind : (r : ℕ) (want : Kind) → IsKind (state_of old) r want → IsKind (state_of v) r want
    old_kind r want k = (k.0, at_v r ∙ k.1, k.2)

    alone_v : IsAloneIn (state_of v)
    alone_v r t lt none tt' e = one.state.alone r t lt (ap holds_place (sym (at_v r)) ∙ none) tt'
        ((met_below (equations old.homes) (equations s.homes)).0 (term.Reg r) t lt tt' (sym (homes (term.Reg r) t lt tt') ∙ e))

    -- a kind of the result comes of two
    common_at : (r : ℕ) (want : Kind) → kind_in u.kinds r ≡ Some want
        → (r < 64) × (k : Kind) × (l : Kind) × (kind_in old.kinds r ≡ Some k) × (kind_in s.kinds r ≡ Some l) × (meet_of k l ≡ Some want)
    common_at r want e = elim (cases_lt r 64) [
      | inl lt ↦ (let c = common_parts (kind_in v.kinds r) (kind_in s.kinds r) want (sym (h.kinds r lt) ∙ e) in
          (lt, c.0, c.1, sym (at_v r) ∙ c.2, c.3, c.4))
      | inr le ↦ (let lt : r < 64 = one.narrow r want (sym (at_v r) ∙ sym (h.rest r le) ∙ e) in absurd (omega arith))
    ]

    least_kind : (w : State) → IsBelow (state_of old) w → IsBelow (state_of s) w → (r : ℕ) (want : Kind) → w.kinds r ≡ Some want
        → IsKind (state_of u) r want
    least_kind w a b r want e =
        let k = a.kinds r want e in
        let l = b.kinds r want e in
        let lt : r < 64 = one.narrow r k.0 k.1 in
        let m = common_fits (kind_in v.kinds r) (kind_in s.kinds r) k.0 l.0 want (at_v r ∙ k.1) l.1 k.2 l.2 in
        (m.0, h.kinds r lt ∙ m.1, m.2)

weight_le : (a b : Option Kind) → weight (common_of a b) ≤ weight a
weight_le None b = omega arith
weight_le (Some k) None = omega arith
weight_le (Some k) (Some l) = search (rules, arith)

-- a kind that was weakened makes the rank fall, whatever becomes of the equations
kinds_fall : (v s u : Known) (changed : Bool) → IsWeakened v s 64 u changed → changed ≡ true → rank_of u < rank_of v
unfolding rank_of
kinds_fall v s u changed h e =
    let at = h.falls e in
    let each : (r : ℕ) → r < 64 → weight (kind_in u.kinds r) ≤ weight (kind_in v.kinds r) =
    λ r lt. subst (λ k. weight k ≤ weight (kind_in v.kinds r)) (sym (h.kinds r lt)) (weight_le (kind_in v.kinds r) (kind_in s.kinds r)) in
    let less : weight (kind_in u.kinds at.0) < weight (kind_in v.kinds at.0) =
    subst (λ k. weight k < weight (kind_in v.kinds at.0)) (sym (h.kinds at.0 at.1))
    (weight_falls (kind_in v.kinds at.0) (kind_in s.kinds at.0) at.2) in
    let sums : sum_below 64 (λ r. weight (kind_in u.kinds r)) < sum_below 64 (λ r. weight (kind_in v.kinds r)) =
    sum_below-lt 64 (λ r. weight (kind_in u.kinds r)) (λ r. weight (kind_in v.kinds r)) at.0 each at.1 less in
    let bound : rank u.homes ≤ 129 * 129 = rank-bound u.homes in
    omega arith

homes_fall : (old v : Known) → v.kinds ≡ old.kinds → rank v.homes < rank old.homes → rank_of v < rank_of old
unfolding rank_of
homes_fall old v kinds less =
    let same : sum_below 64 (λ r. weight (kind_in v.kinds r)) ≡ sum_below 64 (λ r. weight (kind_in old.kinds r)) =
    ap (λ ks. sum_below 64 (λ r. weight (kind_in ks r))) kinds in
    omega arith

-- either of the two
pub weakened_falls : (old v s u : Known) (homes kinds : Bool) → v.kinds ≡ old.kinds → (homes ≡ false → v.homes ≡ old.homes)
    → (homes ≡ true → rank v.homes < rank old.homes) → IsWeakened v s 64 u kinds → (homes || kinds) ≡ true → rank_of u < rank_of old
weakened_falls old v s u homes kinds same kept less h e = by_cases (cases_Bool homes) (cases_Bool kinds)
  where
    homes_le : rank_of v ≤ rank_of old
    homes_le = elim (cases_Bool homes) [
      | inl yes' ↦ (let f = homes_fall old v same (less yes') in omega arith)
      | inr no' ↦ (let f : rank_of v ≡ rank_of old = ap rank_of (known_is old v same (kept no')) in omega arith)
    ]
      where
        known_is : (a b : Known) → b.kinds ≡ a.kinds → b.homes ≡ a.homes → b ≡ a
        known_is a b k q = ap (λ ks. record { kinds = ks; homes = b.homes }) k ∙ ap (λ hs. record { kinds = a.kinds; homes = hs }) q

    by_cases : (homes ≡ true) ⊎ (homes ≡ false) → (kinds ≡ true) ⊎ (kinds ≡ false) → rank_of u < rank_of old
    by_cases a (inl f) = (let g = kinds_fall v s u kinds h f in let l = homes_le in omega arith)
    by_cases (inl f) (inr g) = subst (λ x. rank_of x < rank_of old) (sym (h.same g)) (homes_fall old v same (less f))
    by_cases (inr f) (inr g) = absurd (let d : (homes || kinds) ≡ false = rw (f, g) refl in cc)

-- the same from what the code says of one register

pub weakened_on_same : (v s : Known) (n : ℕ) (u t : Known) (before changed : Bool) (other : Option Kind) → changed ≡ before
    → IsWeakened v s n u before → other ≡ kind_in s.kinds n → t ≡ u → common_of (kind_in u.kinds n) other ≡ kind_in u.kinds n
    → IsWeakened v s (n + 1) t changed
weakened_on_same v s n u t before changed other kept h at same e =
    subst (λ b. IsWeakened v s (n + 1) t b) (sym kept) (subst (λ x. IsWeakened v s (n + 1) x before) (sym same)
    (weakened_same v s n u before h (subst (λ k. common_of (kind_in u.kinds n) k ≡ kind_in u.kinds n) at e)))

pub weakened_on_more : (v s : Known) (n : ℕ) (u t : Known) (before changed : Bool) (other : Option Kind) → changed ≡ true → IsWeakened v s n u before
    → n < 64 → other ≡ kind_in s.kinds n
    → common_of (kind_in u.kinds n) other ≢ kind_in u.kinds n → SameState (state_of t) (parted (state_of u) n (common_of (kind_in u.kinds n) other))
    → IsWeakened v s (n + 1) t changed
weakened_on_more v s n u t before changed other is h lt at differ same =
    weakened_more v s n u t before changed is h lt (subst (λ k. common_of (kind_in u.kinds n) k ≢ kind_in u.kinds n) at differ)
    (subst (λ k. SameState (state_of t) (parted (state_of u) n (common_of (kind_in u.kinds n) k))) at same)
