-- Tables of states: one entry changed, none known, and how often they can change.
use Rattle.std.proofs.Common.{◌≡◌, ◌≢◌, ℕ, zero, suc, ◌+◌, ◌*◌, ◌<◌, ◌≤◌, Bool, true, false, List, [], ◌∷◌, ◌++◌, length, get_or, take, drop, set, Option, Some, None, refl, sym, ap, subst, ◌∙◌, inl, inr, arith}
use Rattle.std.specs.Prelude.{slice_get}
use Rattle.std.proofs.lemmas.Bool.{cases_eq, cases_Bool}
use Rattle.std.proofs.Math.ListN.{length-set}
use Rattle.std.proofs.lemmas.List.{append-nil, drop_all, length-append, set-append_left, set-append_right, take_all}
use Rattle.std.proofs.lemmas.Option.{same_Some, slice_get_read, slice_get_within}
use Rattle.x10_kinds.specs.declared.kind.Kind.{Kind}
use Rattle.x10_kinds.specs.declared.kind.Kind.TheVariants.{Obj}
use Rattle.x10_kinds.specs.Ranks.{sum_below, rank}
use Rattle.x10_kinds.proofs.Ranks.{sum_below-le, sum_below-lt, sum_below-bound, rank-bound}
use Rattle.x10_verify.specs.declared.known.Known.{Known}
use Rattle.x10_verify.specs.declared.states.Mark.{Mark}
use Rattle.x10_verify.specs.declared.states.Mark.TheVariants.{Unreached, Waiting, Done}
use Rattle.x10_verify.specs.declared.states.Entry.{Entry}
use Rattle.x10_verify.specs.Known.{kind_in, state_of}
use Rattle.x10_verify.specs.Merging.{weight, rank_of, heights}
use Rattle.x10_verify.specs.States.{IsDone, state_if, waits, is_waiting, IsFresh, IsMetIn, Receives, Arrives, height_if, height_in, total}
use Rattle.x10_model.proofs.Lists.{set_here, set_off, set_same}
use Rattle.x10_verify.proofs.Below.{IsBelow-refl}

-- ---- entries of a list

-- ---- ranks

weight_bound : (k : Option Kind) → weight k ≤ 2
weight_bound None = omega arith
weight_bound (Some (Obj c)) = omega arith
weight_bound (Some _) = omega arith

pub rank_of-bound : (k : Known) → rank_of k < heights
unfolding rank_of
rank_of-bound k =
    let kinds : sum_below 64 (λ r. weight (kind_in k.kinds r)) ≤ 64 * 2 =
    sum_below-bound 64 (λ r. weight (kind_in k.kinds r)) 2 (λ r. weight_bound (kind_in k.kinds r)) in
    let homes : rank k.homes ≤ 129 * 129 = rank-bound k.homes in
    omega arith

pub first_received : (old : Entry) (known : Known) → old.mark ≡ Unreached → Receives old known (record { mark = Waiting; known = known }) true
first_received old known e = record {
  reached = refl;
  met = subst (λ m. IsMetIn (state_if m old.known) (state_of known) (state_of known)) (sym e) refl;
  same = λ f. absurd cc;
  waiting = λ f. refl;
  falls = λ f. subst (λ m. rank_of known < height_if m old.known) (sym e) (rank_of-bound known);
}

-- ---- fresh tables

pub fresh_more : (xs : List Entry) (x : Entry) → IsFresh xs → x.mark ≡ Unreached → IsFresh (xs ++ x ∷ [])
fresh_more [] x fresh e zero = ap (λ m. state_if m x.known) e
fresh_more [] x fresh e (suc q) = refl
fresh_more (y ∷ ys) x fresh e zero = fresh 0
fresh_more (y ∷ ys) x fresh e (suc q) = fresh_more ys x (λ r. fresh (suc r)) e q

-- ---- how often a table can change

total-le : (old new : List Entry) → length new ≡ length old → ((q : ℕ) → height_in (slice_get new q) ≤ height_in (slice_get old q))
    → total new ≤ total old
unfolding total
total-le old new size each = subst (λ n. sum_below n (λ q. height_in (slice_get new q)) ≤ sum_below (length old) (λ q. height_in (slice_get old q)))
    (sym size) (sum_below-le (length old) (λ q. height_in (slice_get new q)) (λ q. height_in (slice_get old q)) (λ q lt. each q))

total-lt : (old new : List Entry) (k : ℕ) → length new ≡ length old → ((q : ℕ) → height_in (slice_get new q) ≤ height_in (slice_get old q))
    → k < length old → height_in (slice_get new k) < height_in (slice_get old k) → total new < total old
unfolding total
total-lt old new k size each lt less = subst (λ n. sum_below n (λ q. height_in (slice_get new q))
    < sum_below (length old) (λ q. height_in (slice_get old q))) (sym size)
    (sum_below-lt (length old) (λ q. height_in (slice_get new q)) (λ q. height_in (slice_get old q)) k (λ q l. each q) lt less)

set_heights : (old : List Entry) (at : ℕ) (before entry : Entry) → slice_get old at ≡ Some before
    → height_if entry.mark entry.known ≤ height_if before.mark before.known → (q : ℕ)
    → height_in (slice_get (set old at entry) q) ≤ height_in (slice_get old q)
set_heights old at before entry was le q = elim (cases_eq q at) [
  | inl here ↦ (
      let a : height_in (slice_get (set old at entry) q) ≡ height_if entry.mark entry.known =
      ap (λ n. height_in (slice_get (set old at entry) n)) here ∙ ap height_in (set_here old at entry (slice_get_within old at before was)) in
      let b : height_in (slice_get old q) ≡ height_if before.mark before.known = ap (λ n. height_in (slice_get old n)) here ∙ ap height_in was in
      omega arith)
  | inr ne ↦ (let a : height_in (slice_get (set old at entry) q) ≡ height_in (slice_get old q) = ap height_in (set_off old at q entry ne) in
      omega arith)
]

pub arrives_total : (old : List Entry) (target : ℕ) (known : Known) (new : List Entry) (changed : Bool) → Arrives old target known new changed
    → (total new ≤ total old) × (changed ≡ true → total new < total old)
arrives_total old target known new changed a = (
  subst (λ xs. total xs ≤ total old) (sym a.is) (total-le old (set old target a.entry) (length-set old target a.entry)
      (set_heights old target a.before a.entry a.was le)),
  λ e. subst (λ xs. total xs < total old) (sym a.is) (total-lt old (set old target a.entry) target (length-set old target a.entry)
      (set_heights old target a.before a.entry a.was le) (slice_get_within old target a.before a.was)
      (let x : height_in (slice_get (set old target a.entry) target)
      ≡ height_if a.entry.mark a.entry.known = ap height_in (set_here old target a.entry (slice_get_within old target a.before a.was)) in
      let y : height_in (slice_get old target) ≡ height_if a.before.mark a.before.known = ap height_in a.was in
      let f : height_if a.entry.mark a.entry.known < height_if a.before.mark a.before.known = a.received.falls e in
      omega arith)),
)
  where
    le : height_if a.entry.mark a.entry.known ≤ height_if a.before.mark a.before.known
    le = elim (cases_Bool changed) [
      | inl is ↦ (let f : height_if a.entry.mark a.entry.known < height_if a.before.mark a.before.known = a.received.falls is in omega arith)
      | inr not ↦ (let s : height_if a.entry.mark a.entry.known
          ≡ height_if a.before.mark a.before.known = ap (λ (e : Entry). height_if e.mark e.known) (a.received.same not) in omega arith)
    ]

waiting_height : (m : Mark) (k : Known) → is_waiting m ≡ true → height_if m k ≡ rank_of k
waiting_height Waiting k e = refl
waiting_height _ k e = absurd cc

pub done_total : (old : List Entry) (at : ℕ) (before : Entry) → slice_get old at ≡ Some before → is_waiting before.mark ≡ true
    → total (set old at (record { mark = Done; known = before.known })) ≤ total old
done_total old at before was waits =
    total-le old (set old at (record { mark = Done; known = before.known })) (length-set old at (record { mark = Done; known = before.known }))
    (set_heights old at before (record { mark = Done; known = before.known }) was
    (let e : height_if before.mark before.known ≡ rank_of before.known = waiting_height before.mark before.known waits in omega arith))

pub arrives_size : (old : List Entry) (target : ℕ) (known : Known) (new : List Entry) (changed : Bool) → Arrives old target known new changed
    → length new ≡ length old
arrives_size old target known new changed a = ap length a.is ∙ length-set old target a.entry

-- ---- a state that is led elsewhere

-- an instruction that is done brings itself nothing new
itself_received : (k : Known) → Receives (record { mark = Done; known = k }) k (record { mark = Done; known = k }) false
itself_received k = record {
  reached = refl;
  met = λ kept again. record { kept = kept; first = IsBelow-refl (state_of k); second = IsBelow-refl (state_of k); least = λ w is one two. one };
  same = λ f. refl;
  waiting = λ f. absurd cc;
  falls = λ f. absurd cc;
}

pub led_to_itself : (table : List Entry) (at : ℕ) → IsDone table at → (entry : Entry) → slice_get table at ≡ Some entry
    → Arrives table at entry.known table false
led_to_itself table at done entry is =
    let there : Entry = record { mark = Done; known = done.0 } in
    let same : there ≡ entry = same_Some there entry (sym done.1 ∙ is) in
    subst (λ (e : Entry). Arrives table at e.known table false) same
    (record { entry = there; before = there; was = done.1; received = itself_received done.0; is = sym (set_same table at there done.1) })

-- what stands in the first or in the second of two parts
first_part : (one two : List Entry) (i : ℕ) (e : Entry) → slice_get one i ≡ Some e → slice_get (one ++ two) i ≡ Some e
first_part [] two i e is = absurd cc
first_part (x ∷ one) two zero e is = is
first_part (x ∷ one) two (suc i) e is = first_part one two i e is

second_part : (one two : List Entry) (n : ℕ) (e : Entry) → length one ≡ n → slice_get two 0 ≡ Some e → slice_get (one ++ two) n ≡ Some e
second_part [] two zero e size is = is
second_part [] two (suc n) e size is = absurd (omega arith)
second_part (x ∷ one) two zero e size is = absurd (omega arith)
second_part (x ∷ one) two (suc n) e size is = second_part one two n e (omega arith) is

abbrev Leads : List Entry → ℕ → ℕ → List Entry → Bool → Type 0
Leads table at target new changed = ((entry : Entry) → slice_get table at ≡ Some entry → Arrives table target entry.known new changed)
    × (slice_get new at ≡ slice_get table at)

leads : (table : List Entry) (at target : ℕ) (from before entry : Entry) (new : List Entry) (changed : Bool) → at ≢ target
    → slice_get table at ≡ Some from → slice_get table target ≡ Some before
    → Receives before from.known entry changed → new ≡ set table target entry → Leads table at target new changed
leads table at target from before entry new changed other is was received made = (
  (λ e e_is. subst (λ (e : Entry). Arrives table target e.known new changed) (same_Some from e (sym is ∙ e_is))
      (record { entry = entry; before = before; was = was; received = received; is = made })),
  ap (λ xs. slice_get xs at) made ∙ set_off table target at entry other,
)

-- a table's entries, once its two parts are put back
put_back : (n : ℕ) (xs items : List Entry) → n ≡ length items → length xs ≡ length items → take n (xs ++ drop (length xs) items) ≡ xs
put_back n xs items one two =
    let rest : drop (length xs) items ≡ [] = drop_all (length xs) items (omega arith) in
    let whole : xs ++ drop (length xs) items ≡ xs = ap (λ ys. xs ++ ys) rest ∙ append-nil xs in
    ap (take n) whole ∙ take_all n xs (omega arith)

-- from the second part to the first
pub led_back : (items one two : List Entry) (n at target : ℕ) (from before entry : Entry) (changed : Bool) → items ≡ one ++ two → n ≡ length items
    → length one ≡ at → target < at → at < length items
    → from ≡ get_or two 0 from → before ≡ get_or one target before → Receives (get_or one target before) (get_or two 0 from).known entry changed
    → Leads items at target (take n (set one target entry ++ two ++ drop (length (set one target entry ++ two)) items)) changed
led_back items one two n at target from before entry changed parts len size less within from_is before_is received =
    let room : length items ≡ length one + length two = ap length parts ∙ length-append one two in
    let kept : length (set one target entry ++ two) ≡ length items =
    length-append (set one target entry) two ∙ ap (λ k. k + length two) (length-set one target entry) ∙ sym room in
    let is : slice_get two 0 ≡ Some from = slice_get_read two _ 0 from refl (omega arith) from_is in
    let was : slice_get one target ≡ Some before = slice_get_read one _ target before refl (omega arith) before_is in
    subst (λ new. Leads items at target new changed) (sym (put_back n (set one target entry ++ two) items len kept))
    (leads items at target from before entry (set one target entry ++ two) changed (omega arith)
    (ap (λ xs. slice_get xs at) parts ∙ second_part one two at from size is)
    (ap (λ xs. slice_get xs target) parts ∙ first_part one two target before was)
    (subst (λ (b : Entry). Receives b from.known entry changed) (sym before_is)
    (subst (λ (f : Entry). Receives (get_or one target before) f.known entry changed) (sym from_is) received))
    (sym (ap (λ xs. set xs target entry) parts ∙ set-append_left one two target entry (omega arith))))

-- from the first part to the second
pub led_on : (items one two : List Entry) (n at target : ℕ) (from before entry : Entry) (changed : Bool) → items ≡ one ++ two → n ≡ length items
    → length one ≡ target → at < target → target < length items
    → from ≡ get_or one at from → before ≡ get_or two 0 before → Receives (get_or two 0 before) (get_or one at from).known entry changed
    → Leads items at target (take n (one ++ set two 0 entry ++ drop (length (one ++ set two 0 entry)) items)) changed
led_on items one two n at target from before entry changed parts len size less within from_is before_is received =
    let room : length items ≡ length one + length two = ap length parts ∙ length-append one two in
    let kept : length (one ++ set two 0 entry) ≡ length items =
    length-append one (set two 0 entry) ∙ ap (λ k. length one + k) (length-set two 0 entry) ∙ sym room in
    let is : slice_get one at ≡ Some from = slice_get_read one _ at from refl (omega arith) from_is in
    let was : slice_get two 0 ≡ Some before = slice_get_read two _ 0 before refl (omega arith) before_is in
    subst (λ new. Leads items at target new changed) (sym (put_back n (one ++ set two 0 entry) items len kept))
    (leads items at target from before entry (one ++ set two 0 entry) changed (omega arith)
    (ap (λ xs. slice_get xs at) parts ∙ first_part one two at from is)
    (ap (λ xs. slice_get xs target) parts ∙ second_part one two target before size was)
    (subst (λ (b : Entry). Receives b from.known entry changed) (sym before_is)
    (subst (λ (f : Entry). Receives (get_or two 0 before) f.known entry changed) (sym from_is) received))
    (sym (ap (λ xs. set xs target entry) parts ∙ set-append_right one two target target entry size (omega arith)
    ∙ ap (λ k. one ++ set two k entry) (omega arith))))
