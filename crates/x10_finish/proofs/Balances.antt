-- When a book balances, pair by pair.
use Rattle.std.proofs.Common.{◌≡◌, ◌↔◌, ℕ, ◌+◌, ◌*◌, ◌<◌, ◌≤◌, ◌==◌, ◌&&◌, nat_lt, max, Bool, true, false, if◌then◌else◌, List, length, replicate, slice_index, slice_index_or, ◌⊎◌, inl, inr, refl, sym, ◌∙◌, ap, subst, arith, IsTrue, ◌^◌}
use Rattle.std.proofs.Math.Path.{fun_ext}
use Rattle.std.proofs.lemmas.List.{get_or-replicate, length-replicate}
use Rattle.std.proofs.Math.ListN.{get_or-eq_default}
use Rattle.std.proofs.lemmas.Bool.{eqb-true, ne_eqb, eq-eqb, cases_eq, lt-ltb, le-ltb, ltb-true, and_from, and_parts}
use Rattle.x10_model.specs.Totals as totals
use Rattle.x10_model.specs.Totals.{Entry, Cut, zeros, reported, larger, merged, seen_from, IsBalanced}
use Rattle.x10_finish.specs.declared.pairs.Pair.{Pair}
use Rattle.x10_finish.specs.Books.{AreKept}
use Rattle.x10_finish.specs.Pairs.{no_pair, pair_at, difference, unequal_in, merged_to, agreed}
use Rattle.x10_finish.proofs.Sums.{square_zero, zero_square}
use Rattle.x10_finish.proofs.Squares.{place_below}

pub same_entry : (e f : Entry) → ((q : ℕ) → e.sent q ≡ f.sent q) → ((q : ℕ) → e.received q ≡ f.received q) → e ≡ f
same_entry e f s r =
    let p : e.sent ≡ f.sent = fun_ext s in
    let q : e.received ≡ f.received = fun_ext r in
    λ i. record { sent = p i; received = q i }

-- what pairs say of one place
abbrev pub kept_by : (ℕ → ℕ → Pair) → Cut
kept_by pairs p = record { sent = λ q. (pairs p q).sent; received = λ q. (pairs q p).received }

-- ---- nothing was reported

if_none : (t : Bool) (p : Pair) → (t ≡ true → p ≡ no_pair) → (if t then p else no_pair) ≡ no_pair
if_none true p h = h refl
if_none false p h = refl

pub none_at : (n a b : ℕ) (pairs : List Pair) → pairs ≡ replicate (n * n) no_pair → pair_at n pairs a b ≡ no_pair
none_at n a b pairs e = if_none (nat_lt a n && nat_lt b n) _ (λ t.
    let both = and_parts (nat_lt a n) (nat_lt b n) t in
    ap (λ xs. slice_index_or xs (a * n + b) no_pair) e ∙ get_or-replicate (n * n) (a * n + b) no_pair no_pair
    (place_below n a b (ltb-true a n both.0) (ltb-true b n both.1)))

abbrev number : ℕ → ℕ
number n = n

no_difference : (s t : Bool) → number (if s then 0 else (if t then 0 else 0)) ≡ 0
no_difference true t = refl
no_difference false true = refl
no_difference false false = refl

pub none_unequal : (home n : ℕ) (pairs : List Pair) → pairs ≡ replicate (n * n) no_pair → unequal_in home n pairs ≡ 0
none_unequal home n pairs e = square_zero (λ a b. difference home a b (pair_at n pairs a b)) n
    (λ a b la lb. ap (difference home a b) (none_at n a b pairs e) ∙ no_difference (a == home) (b == home))

pub none_kept : (n : ℕ) (pairs : List Pair) → pairs ≡ replicate (n * n) no_pair → kept_by (pair_at n pairs) ≡ (λ p. zeros)
none_kept n pairs e = fun_ext (λ p. same_entry (kept_by (pair_at n pairs) p) zeros (λ q. ap (λ (v : Pair). v.sent) (none_at n p q pairs e))
    (λ q. ap (λ (v : Pair). v.received) (none_at n q p pairs e)))

-- as many pairs of zeros as there are pairs of places
pub none_in : (n a b : ℕ) (pairs : List Pair) → a ≡ n → b ≡ n → pairs ≡ replicate (a * b) no_pair → pairs ≡ replicate (n * n) no_pair
none_in n a b pairs ea eb e = e ∙ ap (λ m. replicate (m * b) no_pair) ea ∙ ap (λ m. replicate (n * m) no_pair) eb

pub blank_kept : (home n : ℕ) (pairs : List Pair) → home < n → n < 2 ^ 16 → pairs ≡ replicate (n * n) no_pair
    → AreKept home n 0 true pairs
blank_kept home n pairs is_place few e = record {
  is_place = is_place;
  few = few;
  whole = ap length e ∙ length-replicate (n * n) no_pair;
  counted = sym (none_unequal home n pairs e);
  none = λ blank. e;
}

-- ---- a report

lt_or_le : (a b : ℕ) → (a < b) ⊎ (b ≤ a)
lt_or_le a b = grind arith

-- what is chosen at one place alone
at_place : (p place : ℕ) (f : ℕ → ℕ) (o : ℕ) → (if p == place then f p else o) ≡ (if p == place then f place else o)
at_place p place f o = elim (cases_eq p place) [
  | inl e ↦ ap (λ (x : ℕ). if p == place then x else o) (ap f e)
  | inr apart ↦
      (let t = ne_eqb p place apart in rw t refl)
]

number_kept : (t : Bool) (q places o : ℕ) (xs : List ℕ) → length xs ≡ places
    → (if t && nat_lt q places then max o (slice_index xs q) else o) ≡ (if t then max o (slice_index xs q) else o)
number_kept false q places o xs e = refl
number_kept true q places o xs e = elim (lt_or_le q places) [
  | inl lt ↦ (let t = lt-ltb q places lt in rw t refl)
  | inr le ↦ (let t : nat_lt q places ≡ false = le-ltb q places le in
      let past : slice_index xs q ≡ 0 = get_or-eq_default xs 0 (omega (arith, e)) in
      rw (t, past) (omega arith))
]

entry_if : (t : Bool) (own changed old : Entry) → ((q : ℕ) → own.sent q ≡ (if t then changed.sent q else old.sent q))
    → ((q : ℕ) → own.received q ≡ (if t then changed.received q else old.received q))
    → own ≡ (if t then changed else old)
entry_if true own changed old s r = same_entry own changed s r
entry_if false own changed old s r = same_entry own old s r

pub kept_merged : (n : ℕ) (old new : ℕ → ℕ → Pair) (r : totals.Report) → length r.sent ≡ n → length r.received ≡ n
    → ((a b : ℕ) → new a b ≡ merged_to r.place r.sent r.received n old a b) → kept_by new ≡ merged (kept_by old) r
kept_merged n old new r es er h = fun_ext (λ p. entry_if (p == r.place) (kept_by new p) (larger (kept_by old r.place) (reported r)) (kept_by old p)
    (λ q. ap (λ (v : Pair). v.sent) (h p q) ∙ number_kept (p == r.place) q n (old p q).sent r.sent es
    ∙ at_place p r.place (λ (x : ℕ). max (old x q).sent (slice_index r.sent q)) (old p q).sent)
    (λ q. ap (λ (v : Pair). v.received) (h q p) ∙ number_kept (p == r.place) q n (old q p).received r.received er
    ∙ at_place p r.place (λ (x : ℕ). max (old q x).received (slice_index r.received q)) (old q p).received))

-- ---- the test

seen_home : (home : ℕ) (own : Entry) (kept : Cut) → seen_from home own kept home ≡ own
seen_home home own kept = rw (eq-eqb home home refl) refl

seen_other : (home : ℕ) (own : Entry) (kept : Cut) (p : ℕ) → (p ≡ home → ⊥) → seen_from home own kept p ≡ kept p
seen_other home own kept p apart = rw (ne_eqb p home apart) refl

difference_inner : (home a b : ℕ) (v : Pair) → (a ≡ home → ⊥) → (b ≡ home → ⊥) → difference home a b v ≡ (if v.sent == v.received then 0 else 1)
difference_inner home a b v na nb = rw (ne_eqb a home na, ne_eqb b home nb) refl

zero_if : (t : Bool) → number (if t then 0 else 1) ≡ 0 → t ≡ true
zero_if true e = refl
zero_if false e = absurd (omega arith)

agreed_home : (home : ℕ) (pairs : ℕ → ℕ → Pair) (s r : List ℕ) → agreed home pairs s r home ≡ (slice_index s home == slice_index r home)
agreed_home home pairs s r = rw (eq-eqb home home refl) refl

agreed_other : (home q : ℕ) (pairs : ℕ → ℕ → Pair) (s r : List ℕ) → (q ≡ home → ⊥)
    → agreed home pairs s r q ≡ (slice_index s q == (pairs home q).received && (pairs q home).sent == slice_index r q)
agreed_other home q pairs s r apart = rw (ne_eqb q home apart) refl

-- the home's own totals are the numbers
pub record AreNumbers (own : Entry) (s r : List ℕ) : Type 0 where
  pub sent : (q : ℕ) → slice_index s q ≡ own.sent q
  pub received : (q : ℕ) → slice_index r q ≡ own.received q

pub agreed_balanced : (home n q : ℕ) (pairs : ℕ → ℕ → Pair) (own : Entry) (s r : List ℕ) → AreNumbers own s r → home < n → q < n
    → IsBalanced n (seen_from home own (kept_by pairs)) → agreed home pairs s r q ≡ true
agreed_balanced home n q pairs own s r is lh lq b = elim (cases_eq q home) [
  | inl same ↦ subst (λ x. agreed home pairs s r x ≡ true) (sym same) (agreed_home home pairs s r ∙ eq-eqb (slice_index s home) (slice_index r home)
      (is.sent home ∙ ap (λ (e : Entry). e.sent home) (sym (seen_home home own (kept_by pairs))) ∙ b home home lh lh
      ∙ ap (λ (e : Entry). e.received home) (seen_home home own (kept_by pairs)) ∙ sym (is.received home)))
  | inr apart ↦ agreed_other home q pairs s r apart ∙ and_from (slice_index s q == (pairs home q).received) ((pairs q home).sent == slice_index r q)
      (eq-eqb (slice_index s q) (pairs home q).received (is.sent q ∙ ap (λ (e : Entry). e.sent q) (sym (seen_home home own (kept_by pairs)))
      ∙ b home q lh lq ∙ ap (λ (e : Entry). e.received home) (seen_other home own (kept_by pairs) q apart)))
      (eq-eqb (pairs q home).sent (slice_index r q) (ap (λ (e : Entry). e.sent home) (sym (seen_other home own (kept_by pairs) q apart))
      ∙ b q home lq lh ∙ ap (λ (e : Entry). e.received q) (seen_home home own (kept_by pairs)) ∙ sym (is.received q)))
]

outer_or_inner : (home n a b : ℕ) (pairs : ℕ → ℕ → Pair) → a < n → b < n → ((a ≡ home → ⊥) → (b ≡ home → ⊥) → (pairs a b).sent ≡ (pairs a b).received)
    → difference home a b (pairs a b) ≡ 0
outer_or_inner home n a b pairs la lb h = elim (cases_eq a home) [
  | inl e ↦ rw (eq-eqb a home e) refl
  | inr na ↦ elim (cases_eq b home) [
    | inl e ↦ (let f = ne_eqb a home na in rw (f, eq-eqb b home e) refl)
    | inr nb ↦ difference_inner home a b (pairs a b) na nb ∙ (let e = eq-eqb (pairs a b).sent (pairs a b).received (h na nb) in rw e refl)
  ]
]

pub balanced_zero : (home n : ℕ) (pairs : List Pair) (own : Entry) → IsBalanced n (seen_from home own (kept_by (pair_at n pairs)))
    → unequal_in home n pairs ≡ 0
balanced_zero home n pairs own b = square_zero (λ a b. difference home a b (pair_at n pairs a b)) n
    (λ x y lx ly. outer_or_inner home n x y (pair_at n pairs) lx ly (λ nx ny.
    ap (λ (e : Entry). e.sent y) (sym (seen_other home own (kept_by (pair_at n pairs)) x nx)) ∙ b x y lx ly
    ∙ ap (λ (e : Entry). e.received x) (seen_other home own (kept_by (pair_at n pairs)) y ny)))

pub zero_balanced : (home n : ℕ) (pairs : List Pair) (own : Entry) (s r : List ℕ) → AreNumbers own s r → home < n → unequal_in home n pairs ≡ 0
    → ((q : ℕ) → q < n → agreed home (pair_at n pairs) s r q ≡ true) → IsBalanced n (seen_from home own (kept_by (pair_at n pairs)))
zero_balanced home n pairs own s r is lh e h p q lp lq = elim (cases_eq p home) [
  | inl sp ↦ elim (cases_eq q home) [
    | inl sq ↦ subst (λ x. (seen_from home own (kept_by (pair_at n pairs)) x).sent q ≡ (seen_from home own (kept_by (pair_at n pairs)) q).received x)
        (sym sp) (subst (λ y. (seen_from home own (kept_by (pair_at n pairs)) home).sent y
        ≡ (seen_from home own (kept_by (pair_at n pairs)) y).received home) (sym sq)
        (ap (λ (e : Entry). e.sent home) (seen_home home own (kept_by (pair_at n pairs))) ∙ sym (is.sent home)
        ∙ eqb-true _ _ (sym (agreed_home home (pair_at n pairs) s r) ∙ h home lh) ∙ is.received home
        ∙ ap (λ (e : Entry). e.received home) (sym (seen_home home own (kept_by (pair_at n pairs))))))
    | inr nq ↦ subst (λ x. (seen_from home own (kept_by (pair_at n pairs)) x).sent q ≡ (seen_from home own (kept_by (pair_at n pairs)) q).received x)
        (sym sp)
        (ap (λ (e : Entry). e.sent q) (seen_home home own (kept_by (pair_at n pairs))) ∙ sym (is.sent q)
        ∙ eqb-true _ _ (and_parts _ _ (sym (agreed_other home q (pair_at n pairs) s r nq) ∙ h q lq)).0
        ∙ ap (λ (e : Entry). e.received home) (sym (seen_other home own (kept_by (pair_at n pairs)) q nq)))
  ]
  | inr np ↦ elim (cases_eq q home) [
    | inl sq ↦ subst (λ y. (seen_from home own (kept_by (pair_at n pairs)) p).sent y ≡ (seen_from home own (kept_by (pair_at n pairs)) y).received p)
        (sym sq)
        (ap (λ (e : Entry). e.sent home) (seen_other home own (kept_by (pair_at n pairs)) p np)
        ∙ eqb-true _ _ (and_parts _ _ (sym (agreed_other home p (pair_at n pairs) s r np) ∙ h p lp)).1 ∙ is.received p
        ∙ ap (λ (e : Entry). e.received p) (sym (seen_home home own (kept_by (pair_at n pairs)))))
    | inr nq ↦ ap (λ (e : Entry). e.sent q) (seen_other home own (kept_by (pair_at n pairs)) p np)
        ∙ eqb-true _ _ (zero_if _ (sym (difference_inner home p q (pair_at n pairs p q) np nq)
        ∙ zero_square (λ a b. difference home a b (pair_at n pairs a b)) n p q e lp lq))
        ∙ ap (λ (e : Entry). e.received p) (sym (seen_other home own (kept_by (pair_at n pairs)) q nq))
  ]
]

pub no_iff : {A : Type 0} → (A → ⊥) → IsTrue false ↔ A
no_iff h = ((λ t. absurd cc), (λ a. absurd (h a)))

pub yes_iff : {A : Type 0} → A → IsTrue true ↔ A
yes_iff a = ((λ t. a), (λ b. refl))

pub apart_unbalanced : (home n q : ℕ) (pairs : List Pair) (own : Entry) (s r : List ℕ) (home' n' : ℕ) (pairs' : List Pair) → home' ≡ home → n' ≡ n
    → pairs' ≡ pairs → AreNumbers own s r → home < n → q < n
    → agreed home' (pair_at n' pairs') s r q ≡ false → IsBalanced n (seen_from home own (kept_by (pair_at n pairs))) → ⊥
apart_unbalanced home n q pairs own s r home' n' pairs' eh en ep is lh lq no_more b =
    let yes_more = agreed_balanced home n q (pair_at n pairs) own s r is lh lq b in
    let now = subst (λ x. agreed x (pair_at n pairs) s r q ≡ false) eh
    (subst (λ x. agreed home' (pair_at x pairs) s r q ≡ false) en (subst (λ x. agreed home' (pair_at n' x) s r q ≡ false) ep no_more)) in
    cc

pub all_agreed : (home n : ℕ) (pairs : List Pair) (s r : List ℕ) (home' n' : ℕ) (pairs' : List Pair) → home' ≡ home → n' ≡ n → pairs' ≡ pairs
    → ((q : ℕ) → q < n' → agreed home' (pair_at n' pairs') s r q ≡ true) → (q : ℕ) → q < n → agreed home (pair_at n pairs) s r q ≡ true
all_agreed home n pairs s r home' n' pairs' eh en ep h q lq =
    subst (λ x. agreed x (pair_at n pairs) s r q ≡ true) eh (subst (λ x. agreed home' (pair_at x pairs) s r q ≡ true) en
    (subst (λ x. agreed home' (pair_at n' x) s r q ≡ true) ep (h q (subst (λ x. q < x) (sym en) lq))))
