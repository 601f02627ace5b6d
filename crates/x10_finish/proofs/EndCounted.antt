-- The invariant of termination detection is kept by the end of an activity, and by the report that the last end puts out.
use Rattle.std.proofs.Common.{◌≡◌, ℕ, ◌-◌, ◌<◌, ◌≤◌, ◌==◌, ◌&&◌, not, Bool, true, false, if◌then◌else◌, Option, Some, None, ◌⊎◌, inl, inr, refl, sym, ◌∙◌, ap, subst, arith}
use Rattle.std.proofs.lemmas.Bool.{eqb-true, ne_eqb, eq-eqb, cases_eq}
use Rattle.std.proofs.lemmas.Option.{same_Some}
use Rattle.x10_model.specs.Maps.{with_entry}
use Rattle.x10_model.specs.Totals.{Totals, Entry, Cut, entry_of, ends_one, is_last}
use Rattle.x10_model.proofs.Lists.{none_some}
use Rattle.x10_model.proofs.Maps.{at_key, off_key}
use Rattle.x10_finish.specs.Detection.{Told, Counting, told_of, IsEarlierOf, in_flight, is_kept, is_nothing, IsBelow, IsCutOf, entry_or, entry_in, IsStill, AreStill, Lacks, IsCounted}
use Rattle.x10_finish.proofs.Entries.{at_entry, below_itself, below_same}
use Rattle.x10_finish.proofs.WorkCounted.{sent_more, lacks_on, still_on, WorksWith, HasTold, earlier_on, more_on, worked, conserved_kept}

-- ---- an end

works_still : (home p live : ℕ) → 0 < live → (not (home == p) && (live - 1 == 0)) ≡ false → (0 < live - 1) ⊎ (p ≡ home)
works_still home p live lives e = elim (cases_eq p home) [
  | inl same ↦ inr same
  | inr apart ↦ elim (cases_eq (live - 1) 0) [
    | inl none ↦ absurd (let x = ne_eqb home p (λ same. apart (sym same)) in let y = eq-eqb (live - 1) 0 none in
        let z : (not (home == p) && (live - 1 == 0)) ≡ true = rw (x, y) refl in cc)
    | inr some ↦ inl (omega arith)
  ]
]

ended_more : (places home : ℕ) (s : Counting) (p : ℕ) → IsCounted places home s → 0 < (s.totals p).live → WorksWith home p (ends_one (s.totals p))
    → IsCounted places home (record s { totals = with_entry s.totals p (ends_one (s.totals p)) })
ended_more places home s p i lives works =
    worked places home s p (ends_one (s.totals p)) s.flying i (inl lives) (below_itself (entry_of (s.totals p))) works
    (conserved_kept places home s p ((s.totals p).live - 1) i)

-- the last report is one that was told before, or the one that tells of now
older : (told : ℕ → Option Told) (kept : Cut) (n p : ℕ) (t : Totals) (r : ℕ) (e : Entry)
    → IsEarlierOf (with_entry told n (Some (told_of p t))) kept r e → IsEarlierOf told kept r e ⊎ ((r ≡ p) × (e ≡ entry_of t))
older told kept n p t r e (in_flight m u h at) =
    at_entry (λ o. o ≡ Some u → IsEarlierOf told kept r u.entry ⊎ ((r ≡ p) × (u.entry ≡ entry_of t))) told n m (Some (told_of p t))
    (λ same now. (let is : told_of p t ≡ u = same_Some (told_of p t) u now in
    inr (sym (ap (λ (x : Told). x.place) is ∙ at), ap (λ (x : Told). x.entry) (sym is))))
    (λ apart was. inl (in_flight m u was at)) h
older told kept n p t r e is_kept = inl is_kept
older told kept n p t r e is_nothing = inl is_nothing

ended_line : (e f now : Entry) (A B : Type 0) → A ⊎ (e ≡ now) → B ⊎ (f ≡ now) → (A → IsBelow e now) → (B → IsBelow f now)
    → (A → B → IsBelow e f ⊎ IsBelow f e) → IsBelow e f ⊎ IsBelow f e
ended_line e f now A B (inl a) (inl b) below_a below_b line = line a b
ended_line e f now A B (inl a) (inr s) below_a below_b line = inl (subst (IsBelow e) (sym s) (below_a a))
ended_line e f now A B (inr s) (inl b) below_a below_b line = inr (subst (IsBelow f) (sym s) (below_b b))
ended_line e f now A B (inr s) (inr u) below_a below_b line = inl (below_same e f (s ∙ sym u))

-- the same cut before the end
cut_before : (home : ℕ) (told : ℕ → Option Told) (kept : Cut) (n p : ℕ) (t : Totals) (cut : ℕ → Option Entry)
    → IsCutOf home (with_entry told n (Some (told_of p t))) kept cut
    → ((e : Entry) → cut p ≡ Some e → IsEarlierOf told kept p e) → IsCutOf home told kept cut
cut_before home told kept n p t cut is here = record {
  now = is.now;
  earlier = λ r e h. elim (older told kept n p t r e (is.earlier r e h)) [
    | inl was ↦ was
    | inr both ↦ subst (λ x. IsEarlierOf told kept x e) (sym both.0) (here e (subst (λ x. cut x ≡ Some e) both.0 h))
  ];
}

cut_without : (home : ℕ) (told : ℕ → Option Told) (kept : Cut) (n p : ℕ) (t : Totals) (cut : ℕ → Option Entry)
    → IsCutOf home (with_entry told n (Some (told_of p t))) kept cut
    → IsCutOf home told kept (with_entry cut p None)
cut_without home told kept n p t cut is = record {
  now = at_entry (λ o. o ≡ None) cut p home None (λ same. refl) (λ apart. is.now);
  earlier = λ r e h. at_entry (λ o. o ≡ Some e → IsEarlierOf told kept r e) cut p r None (λ same x. absurd cc)
      (λ apart x. elim (older told kept n p t r e (is.earlier r e x)) [ inl was ↦ was | inr both ↦ absurd (apart both.0) ]) h;
}

-- what a cut without the place's last word shows, the cut with it shows too
still_with : (totals : ℕ → Totals) (p : ℕ) (t : Totals) (cut : ℕ → Option Entry) (e : Entry) → cut p ≡ Some e → IsStill e t
    → AreStill totals (with_entry cut p None) → AreStill (with_entry totals p t) cut
still_with totals p t cut e there now still r f h =
    at_entry (IsStill f) totals p r t
    (λ same. subst (λ x. IsStill x t) (same_Some e f (sym there ∙ subst (λ x. cut x ≡ Some f) same h)) now)
    (λ apart. still r f (off_key cut p r None apart ∙ h))

lacks_with : (places : ℕ) (totals : ℕ → Totals) (p : ℕ) (t : Totals) (cut : ℕ → Option Entry) (e : Entry) → cut p ≡ Some e → e ≡ entry_of (totals p)
    → ((r q : ℕ) → (totals r).sent q ≤ (with_entry totals p t r).sent q)
    → Lacks places totals (with_entry cut p None) → Lacks places (with_entry totals p t) cut
lacks_with places totals p t cut e there same more l =
    let le : (entry_in totals (with_entry cut p None) l.from).sent l.to ≤ (entry_in (with_entry totals p t) cut l.from).sent l.to =
    at_entry (λ o. (entry_or (entry_of (totals l.from)) o).sent l.to ≤ (entry_in (with_entry totals p t) cut l.from).sent l.to) cut p l.from None
    (λ at. subst (λ x. (totals x).sent l.to ≤ (entry_in (with_entry totals p t) cut x).sent l.to) (sym at)
    (subst (λ o. (totals p).sent l.to ≤ (entry_or (entry_of (with_entry totals p t p)) o).sent l.to) (sym there)
    (let x = ap (λ (f : Entry). f.sent l.to) same in omega arith)))
    (λ apart. sent_more (totals l.from) (with_entry totals p t l.from) (cut l.from) l.to (more l.from l.to)) in
    record {
      to = l.to;
      from = l.from;
      entry = l.entry;
      is_there = at_entry (λ o. o ≡ Some l.entry → cut l.to ≡ Some l.entry) cut p l.to None (λ same x. absurd cc) (λ apart x. x) l.is_there;
      to_place = l.to_place;
      from_place = l.from_place;
      less = omega (arith, l.less, le);
    }

ended_cuts : (places home : ℕ) (s : Counting) (p n : ℕ) → IsCounted places home s → 0 < (s.totals p).live → (s.totals p).live - 1 ≡ 0
    → (cut : ℕ → Option Entry) → IsCutOf home (with_entry s.told n (Some (told_of p (s.totals p)))) s.kept cut → (o : Option Entry) → cut p ≡ o
    → AreStill (with_entry s.totals p (ends_one (s.totals p))) cut ⊎ Lacks places (with_entry s.totals p (ends_one (s.totals p))) cut
ended_cuts places home s p n i lives none cut is None at =
    let t = ends_one (s.totals p) in
    elim (i.cuts cut (cut_before home s.told s.kept n p (s.totals p) cut is (λ e h. absurd (none_some (cut p) e at h)))) [
      | inl still ↦ inl (still_on home s cut p t is.now (inl lives) still)
      | inr l ↦ inr (lacks_on places s.totals (with_entry s.totals p t) cut (more_on s.totals p t (λ q. omega arith)) l)
    ]
ended_cuts places home s p n i lives none cut is (Some e) at =
    let t = ends_one (s.totals p) in
    elim (older s.told s.kept n p (s.totals p) p e (is.earlier p e at)) [
      | inl was ↦ elim (i.cuts cut (cut_before home s.told s.kept n p (s.totals p) cut is
          (λ f h. subst (IsEarlierOf s.told s.kept p) (same_Some e f (sym at ∙ h)) was))) [
            | inl still ↦ inl (still_on home s cut p t is.now (inl lives) still)
            | inr l ↦ inr (lacks_on places s.totals (with_entry s.totals p t) cut (more_on s.totals p t (λ q. omega arith)) l)
          ]
      | inr both ↦ elim (i.cuts (with_entry cut p None) (cut_without home s.told s.kept n p (s.totals p) cut is)) [
        | inl still ↦ inl (still_with s.totals p t cut e at (record { live = none; same = both.1 }) still)
        | inr l ↦ inr (lacks_with places s.totals p t cut e at both.1 (more_on s.totals p t (λ q. omega arith)) l)
      ]
    ]

told_on : (told : ℕ → Option Told) (kept : Cut) (n : ℕ) (u : Told) (r : ℕ) (t : Totals) → told n ≡ None → HasTold told kept r t
    → HasTold (with_entry told n (Some u)) kept r t
told_on told kept n u r t unused (inl same) = inl same
told_on told kept n u r t unused (inr (m, v, h, at, now)) =
    inr (
      m,
      v,
      at_entry (λ o. o ≡ Some v) told n m (Some u) (λ same. absurd (none_some (told n) v unused (subst (λ x. told x ≡ Some v) same h)))
          (λ apart. h),
      at,
      now,
    )

ended_last : (places home : ℕ) (s : Counting) (p n : ℕ) → IsCounted places home s → 0 < (s.totals p).live → (s.totals p).live - 1 ≡ 0
    → s.told n ≡ None
    → IsCounted places home (record s {
      totals = with_entry s.totals p (ends_one (s.totals p));
      told = with_entry s.told n (Some (told_of p (s.totals p)));
    })
ended_last places home s p n i lives none unused =
    let t = ends_one (s.totals p) in
    let told = with_entry s.told n (Some (told_of p (s.totals p))) in
    let before = older s.told s.kept n p (s.totals p) in
    let now_at : (r : ℕ) → r ≡ p → entry_of (s.totals p) ≡ entry_of (s.totals r) = λ r same. ap (λ x. entry_of (s.totals x)) (sym same) in
    record {
      conserved = conserved_kept places home s p ((s.totals p).live - 1) i;
      earlier = earlier_on told s.kept s.totals p t (below_itself (entry_of (s.totals p)))
          (λ r e h. elim (before r e h) [ inl was ↦ i.earlier r e was | inr both ↦ below_same e (entry_of (s.totals r)) (both.1 ∙ now_at r both.0) ]);
      in_line = λ r e f h k. ended_line e f (entry_of (s.totals r)) (IsEarlierOf s.told s.kept r e) (IsEarlierOf s.told s.kept r f)
          (elim (before r e h) [ inl was ↦ inl was | inr both ↦ inr (both.1 ∙ now_at r both.0) ])
          (elim (before r f k) [ inl was ↦ inl was | inr both ↦ inr (both.1 ∙ now_at r both.0) ])
          (i.earlier r e) (i.earlier r f) (i.in_line r e f);
      cuts = λ cut is. ended_cuts places home s p n i lives none cut is (cut p) refl;
      last = λ r. at_entry (λ u. WorksWith home r u ⊎ HasTold told s.kept r u) s.totals p r t
          (λ same. inr (inr (n, told_of p (s.totals p), at_key s.told n (Some (told_of p (s.totals p))), sym same, refl)))
          (λ apart. elim (i.last r) [
            | inl work ↦ inl work
            | inr told_now ↦ inr
                (told_on s.told s.kept n (told_of p (s.totals p)) r (s.totals r) unused told_now)
          ]);
    }

right_true : (a b : Bool) → (a && b) ≡ true → b ≡ true
right_true true b e = e
right_true false b e = absurd cc

last_is_none : (home p live : ℕ) → (not (home == p) && (live - 1 == 0)) ≡ true → live - 1 ≡ 0
last_is_none home p live e = eqb-true (live - 1) 0 (right_true (not (home == p)) (live - 1 == 0) e)

pub ends_by : (places home : ℕ) (s : Counting) (p n : ℕ) → IsCounted places home s → 0 < (s.totals p).live → s.told n ≡ None → (b : Bool)
    → is_last home p (s.totals p) ≡ b
    → IsCounted places home (record s {
      totals = with_entry s.totals p (ends_one (s.totals p));
      told = if b then with_entry s.told n (Some (told_of p (s.totals p))) else s.told;
    })
ends_by places home s p n i lives unused true e = ended_last places home s p n i lives (last_is_none home p (s.totals p).live e) unused
ends_by places home s p n i lives unused false e = ended_more places home s p i lives (works_still home p (s.totals p).live lives e)
