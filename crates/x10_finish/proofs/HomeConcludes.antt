-- What the home may conclude.
use Rattle.std.proofs.Common.{◌≡◌, ℕ, ◌<◌, ◌==◌, if◌then◌else◌, Option, Some, None, ◌⊎◌, inl, inr, refl, sym, ◌∙◌, ap, subst, arith}
use Rattle.std.proofs.lemmas.Bool.{ne_eqb, eq-eqb, cases_eq}
use Rattle.x10_model.specs.Totals.{Totals, Entry, Cut, entry_of, seen_from}
use Rattle.x10_model.proofs.Maps.{at_key, off_key}
use Rattle.x10_finish.specs.Detection.{Counting, start, after_all, IsAtWork, IsAtRest, IsDone, IsEarlierOf, is_kept, entry_or, entry_in, AreStill, Lacks, IsToldNow, IsCounted, DoneIsAtRest, AtRestIsDone}
use Rattle.x10_finish.proofs.DetectionLemmas.{counted_at_start, counted_after_all}

-- of each other place what is kept
abbrev kept_cut : ℕ → Cut → ℕ → Option Entry
kept_cut home kept p = if p == home then None else Some (kept p)

cut_home : (home : ℕ) (kept : Cut) → kept_cut home kept home ≡ None
cut_home home kept = rw (eq-eqb home home refl) refl

cut_other : (home : ℕ) (kept : Cut) (p : ℕ) → (p ≡ home → ⊥) → kept_cut home kept p ≡ Some (kept p)
cut_other home kept p apart = rw (ne_eqb p home apart) refl

cut_is : (home : ℕ) (kept : Cut) (p : ℕ) (e : Entry) → kept_cut home kept p ≡ Some e → (p ≡ home → ⊥) × (kept p ≡ e)
cut_is home kept p e h = elim (cases_eq p home) [
  | inl same ↦ absurd (let x = sym (cut_home home kept) ∙ subst (λ x. kept_cut home kept x ≡ Some e) same h in cc)
  | inr apart ↦ (apart, (let x = sym (cut_other home kept p apart) ∙ h in cc))
]

entry_or_home : (home : ℕ) (totals : ℕ → Totals) (kept : Cut) (p : ℕ) → p ≡ home
    → seen_from home (entry_of (totals home)) kept p ≡ entry_in totals (kept_cut home kept) p
entry_or_home home totals kept p same =
    subst (λ x. seen_from home (entry_of (totals home)) kept x ≡ entry_in totals (kept_cut home kept) x) (sym same)
    (at_key kept home (entry_of (totals home)) ∙ ap (entry_or (entry_of (totals home))) (sym (cut_home home kept)))

-- the home looks at the cut
looks : (home : ℕ) (totals : ℕ → Totals) (kept : Cut) (p : ℕ)
    → seen_from home (entry_of (totals home)) kept p ≡ entry_in totals (kept_cut home kept) p
looks home totals kept p = elim (cases_eq p home) [
  | inl same ↦ entry_or_home home totals kept p same
  | inr apart ↦ off_key kept home p (entry_of (totals home)) apart ∙ ap (entry_or (entry_of (totals p))) (sym (cut_other home kept p apart))
]

-- what a still cut shows are the totals now
shows : (home : ℕ) (totals : ℕ → Totals) (kept : Cut) (p : ℕ) → AreStill totals (kept_cut home kept)
    → entry_in totals (kept_cut home kept) p ≡ entry_of (totals p)
shows home totals kept p still = elim (cases_eq p home) [
  | inl same ↦ ap (entry_or (entry_of (totals p))) (subst (λ x. kept_cut home kept x ≡ None) (sym same) (cut_home home kept))
  | inr apart ↦ ap (entry_or (entry_of (totals p))) (cut_other home kept p apart) ∙ (still p (kept p) (cut_other home kept p apart)).same
]

rests_still : (places home : ℕ) (s : Counting) → IsCounted places home s → IsDone places home s → AreStill s.totals (kept_cut home s.kept)
    → IsAtRest places s
rests_still places home s i done still = record {
  live = λ p lp. elim (cases_eq p home) [
    | inl same ↦ ap (λ x. (s.totals x).live) same ∙ done.0
    | inr apart ↦ (still p (s.kept p) (cut_other home s.kept p apart)).live
  ];
  flying = λ p q lp lq. (let all = i.conserved p q lp lq in
      let sent = ap (λ (e : Entry). e.sent q) (looks home s.totals s.kept p ∙ shows home s.totals s.kept p still) in
      let received = ap (λ (e : Entry). e.received p) (looks home s.totals s.kept q ∙ shows home s.totals s.kept q still) in
      let same = done.1 p q lp lq in
      let equal : (s.totals p).sent q ≡ (s.totals q).received p = sym sent ∙ same ∙ received in
      omega (arith, all, equal));
}

lacks_nothing : (places home : ℕ) (s : Counting) → IsDone places home s → Lacks places s.totals (kept_cut home s.kept) → ⊥
lacks_nothing places home s done l =
    let other = cut_is home s.kept l.to l.entry l.is_there in
    let sent = ap (λ (e : Entry). e.sent l.to) (looks home s.totals s.kept l.from) in
    let received = ap (λ (e : Entry). e.received l.from) (off_key s.kept home l.to (entry_of (s.totals home)) other.0 ∙ other.1) in
    let same = done.1 l.from l.to l.from_place l.to_place in
    let equal : (entry_in s.totals (kept_cut home s.kept) l.from).sent l.to ≡ l.entry.received l.from = sym sent ∙ same ∙ received in
    omega (arith, l.less, equal)

pub rests : (places home : ℕ) (s : Counting) → home < places → IsCounted places home s → IsDone places home s → IsAtRest places s
rests places home s lh i done = elim (i.cuts (kept_cut home s.kept)
    (record { now = cut_home home s.kept; earlier = λ p e h. subst (IsEarlierOf s.told s.kept p) (cut_is home s.kept p e h).1 is_kept })) [
      | inl still ↦ rests_still places home s i done still
      | inr l ↦ absurd (lacks_nothing places home s done l)
    ]

kept_now : (home : ℕ) (s : Counting) (p : ℕ) → (s.totals p).live ≡ 0 → ((n : ℕ) → s.told n ≡ None) → (p ≡ home → ⊥)
    → IsAtWork home s p ⊎ IsToldNow s p → s.kept p ≡ entry_of (s.totals p)
kept_now home s p quiet none apart (inl (inl lives)) = absurd (omega arith)
kept_now home s p quiet none apart (inl (inr same)) = absurd (apart same)
kept_now home s p quiet none apart (inr (inl now)) = now
kept_now home s p quiet none apart (inr (inr (n, t, h, at, now))) = absurd (let x = sym (none n) ∙ h in cc)

-- where nothing is at work and no report flies, the last word of each place is kept
told_all : (places home : ℕ) (s : Counting) → IsCounted places home s → IsAtRest places s → ((n : ℕ) → s.told n ≡ None) → (p : ℕ) → p < places
    → seen_from home (entry_of (s.totals home)) s.kept p ≡ entry_of (s.totals p)
told_all places home s i rest none p lp = elim (cases_eq p home) [
  | inl same ↦ subst (λ x. seen_from home (entry_of (s.totals home)) s.kept x ≡ entry_of (s.totals x)) (sym same)
      (at_key s.kept home (entry_of (s.totals home)))
  | inr apart ↦ off_key s.kept home p (entry_of (s.totals home)) apart ∙ kept_now home s p (rest.live p lp) none apart (i.last p)
]

pub concludes : (places home : ℕ) (s : Counting) → home < places → IsCounted places home s → IsAtRest places s → ((n : ℕ) → s.told n ≡ None)
    → IsDone places home s
concludes places home s lh i rest none = (
  rest.live home lh,
  λ p q lp lq.
      (let all = i.conserved p q lp lq in
      let flying = rest.flying p q lp lq in
      let sent = ap (λ (e : Entry). e.sent q) (told_all places home s i rest none p lp) in
      let received = ap (λ (e : Entry). e.received p) (told_all places home s i rest none q lq) in
      let equal : (s.totals p).sent q ≡ (s.totals q).received p = omega (arith, all, flying) in
      sent ∙ equal ∙ sym received),
)

pub done_is_at_rest : DoneIsAtRest
done_is_at_rest places home events lh able done = rests places home (after_all home start events) lh
    (counted_after_all places home start events (counted_at_start places home) able) done

pub at_rest_is_done : AtRestIsDone
at_rest_is_done places home events lh able rest none = concludes places home (after_all home start events) lh
    (counted_after_all places home start events (counted_at_start places home) able) rest none
