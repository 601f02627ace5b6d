-- The invariant of termination detection is kept by an arrival, and by a report that is taken in.
use Rattle.std.proofs.Common.{◌≡◌, ℕ, ◌+◌, ◌-◌, ◌<◌, Option, Some, None, ◌⊎◌, inl, inr, refl, sym, ◌∙◌, ap, subst, arith}
use Rattle.std.proofs.lemmas.Bool.{cases_eq}
use Rattle.std.proofs.lemmas.Option.{same_Some}
use Rattle.x10_model.specs.Maps.{with_entry}
use Rattle.x10_model.specs.Totals.{Totals, Entry, entry_of, larger, receives_from}
use Rattle.x10_model.proofs.Lists.{none_some}
use Rattle.x10_model.proofs.Maps.{off_key}
use Rattle.x10_finish.specs.Detection.{Told, Counting, Arrives, TakesIn, taken, after, IsEarlierOf, in_flight, is_kept, is_nothing, IsBelow, entry_or, IsStill, AreStill, Lacks, IsToldNow, IsCounted}
use Rattle.x10_finish.proofs.Entries.{at_entry, at_pair, larger_second, larger_first}
use Rattle.x10_finish.proofs.WorkCounted.{lacks_on, HasTold, earlier_on, last_on, one_more}

-- ---- an arrival

arrived_sent : (totals : ℕ → Totals) (p q a b : ℕ) → (with_entry totals q (receives_from (totals q) p) a).sent b ≡ (totals a).sent b
arrived_sent totals p q a b = at_entry (λ u. u.sent b ≡ (totals a).sent b) totals q a (receives_from (totals q) p)
    (λ same. ap (λ x. (totals x).sent b) (sym same)) (λ other. refl)

arrived_apart : (totals : ℕ → Totals) (p q a b : ℕ) → ((a ≡ p) × (b ≡ q) → ⊥)
    → (with_entry totals q (receives_from (totals q) p) b).received a ≡ (totals b).received a
arrived_apart totals p q a b apart =
    at_entry (λ u. u.received a ≡ (totals b).received a) totals q b (receives_from (totals q) p)
    (λ same. off_key (totals q).received p a ((totals q).received p + 1) (λ s. apart (s, same)) ∙ ap (λ x. (totals x).received a) (sym same))
    (λ other. refl)

arrived_here : (totals : ℕ → Totals) (p q a b : ℕ) → a ≡ p → b ≡ q
    → (with_entry totals q (receives_from (totals q) p) b).received a ≡ (totals b).received a + 1
arrived_here totals p q a b ea eb =
    at_entry (λ u. u.received a ≡ (totals b).received a + 1) totals q b (receives_from (totals q) p)
    (λ same. at_entry (λ v. v ≡ (totals b).received a + 1) (totals q).received p a ((totals q).received p + 1)
    (λ s. (let e : (totals b).received a ≡ (totals q).received p = ap (λ x. (totals x).received a) same ∙ ap (totals q).received s in omega arith))
    (λ other. absurd (other ea))) (λ other. absurd (other eb))

sent_now : (t u : Totals) (o : Option Entry) (q : ℕ) → ((e : Entry) → o ≡ Some e → e ≡ entry_of t) → t.sent q ≡ u.sent q
    → (entry_or (entry_of u) o).sent q ≡ t.sent q
sent_now t u None q h same = sym same
sent_now t u (Some e) q h same = ap (λ (x : Entry). x.sent q) (h e refl)

-- a cut that showed all lacks the arrival
lacks_now : (places : ℕ) (totals : ℕ → Totals) (after : ℕ → Totals) (cut : ℕ → Option Entry) (p q : ℕ) (e : Entry) → p < places → q < places
    → cut q ≡ Some e → AreStill totals cut
    → (totals q).received p < (totals p).sent q → (totals p).sent q ≡ (after p).sent q → Lacks places after cut
lacks_now places totals after cut p q e lp lq there still less same =
    let here = ap (λ (x : Entry). x.received p) (still q e there).same in
    let sender = sent_now (totals p) (after p) (cut p) q (λ f at. (still p f at).same) same in
    record { to = q; from = p; entry = e; is_there = there; to_place = lq; from_place = lp; less = omega arith }

at_receiver : (places : ℕ) (totals : ℕ → Totals) (t : Totals) (cut : ℕ → Option Entry) (p q : ℕ) → p < places → q < places → AreStill totals cut
    → (totals q).received p < (totals p).sent q → ((a b : ℕ) → (with_entry totals q t a).sent b ≡ (totals a).sent b)
    → (o : Option Entry) → cut q ≡ o → AreStill (with_entry totals q t) cut ⊎ Lacks places (with_entry totals q t) cut
at_receiver places totals t cut p q lp lq still less same None e =
    inl (λ r f there. at_entry (IsStill f) totals q r t (λ at. absurd (none_some (cut q) f e (subst (λ x. cut x ≡ Some f) at there)))
    (λ apart. still r f there))
at_receiver places totals t cut p q lp lq still less same (Some f) e =
    inr (lacks_now places totals (with_entry totals q t) cut p q f lp lq e still less (sym (same p q)))

pub arrives : (places home : ℕ) (s : Counting) (p q : ℕ) → IsCounted places home s → p < places → q < places → 0 < s.flying p q
    → IsCounted places home (after home s (Arrives p q))
arrives places home s p q i lp lq flies =
    let t = receives_from (s.totals q) p in
    let totals = with_entry s.totals q t in
    let there = i.conserved p q lp lq in
    record {
      conserved = λ a b la lb. (let sent = arrived_sent s.totals p q a b in let before = i.conserved a b la lb in
          at_pair (λ v. (with_entry s.totals q (receives_from (s.totals q) p) a).sent b
          ≡ (with_entry s.totals q (receives_from (s.totals q) p) b).received a + v) s.flying p q a b (s.flying p q - 1)
          (λ ea eb. (let more = arrived_here s.totals p q a b ea eb in
          let f : s.flying a b ≡ s.flying p q = ap (λ x. s.flying x b) ea ∙ ap (s.flying p) eb in omega arith))
          (λ other. (let same = arrived_apart s.totals p q a b other in omega arith)));
      earlier = earlier_on s.told s.kept s.totals q t (record { sent = λ x. omega arith; received = one_more (s.totals q).received p }) i.earlier;
      in_line = i.in_line;
      cuts = λ cut is. elim (i.cuts cut is) [
        | inl still ↦ at_receiver places s.totals t cut p q lp lq still (omega arith) (arrived_sent s.totals p q) (cut q) refl
        | inr l ↦ inr (lacks_on places s.totals totals cut (λ a b. let same = arrived_sent s.totals p q a b in omega arith) l)
      ];
      last = last_on home s q t i.last (inl (omega arith));
    }

-- ---- a report is taken in

taken_earlier : (s : Counting) (number : ℕ) (t : Told) → s.told number ≡ Some t
    → ((p : ℕ) (e f : Entry) → IsEarlierOf s.told s.kept p e → IsEarlierOf s.told s.kept p f → IsBelow e f ⊎ IsBelow f e)
    → (p : ℕ) (e : Entry) → IsEarlierOf (with_entry s.told number None) (with_entry s.kept t.place (larger (s.kept t.place) t.entry)) p e
    → IsEarlierOf s.told s.kept p e
taken_earlier s number t there line p e (in_flight n u h at) =
    in_flight n u (at_entry (λ o. o ≡ Some u → s.told n ≡ Some u) s.told number n None (λ same. λ x. absurd cc) (λ apart. λ x. x) h) at
taken_earlier s number t there line p e is_kept =
    at_entry (IsEarlierOf s.told s.kept p) s.kept t.place p (larger (s.kept t.place) t.entry)
    (λ same. subst (λ x. IsEarlierOf s.told s.kept x (larger (s.kept t.place) t.entry)) (sym same)
    (elim (line t.place (s.kept t.place) t.entry is_kept (in_flight number t there refl)) [
      | inl le ↦ subst (IsEarlierOf s.told s.kept t.place) (sym (larger_second (s.kept t.place) t.entry le)) (in_flight number t there refl)
      | inr ge ↦ subst (IsEarlierOf s.told s.kept t.place) (sym (larger_first (s.kept t.place) t.entry ge)) is_kept
    ]))
    (λ apart. is_kept)
taken_earlier s number t there line p e is_nothing = is_nothing

taken_last : (places home : ℕ) (s : Counting) (number : ℕ) (t : Told) → s.told number ≡ Some t → IsCounted places home s → (p : ℕ) → IsToldNow s p
    → HasTold (with_entry s.told number None) (with_entry s.kept t.place (larger (s.kept t.place) t.entry)) p (s.totals p)
taken_last places home s number t there i p (inl now) =
    inl (at_entry (λ v. v ≡ entry_of (s.totals p)) s.kept t.place p (larger (s.kept t.place) t.entry)
    (λ same. (let kept : s.kept t.place ≡ entry_of (s.totals t.place) = subst (λ x. s.kept x ≡ entry_of (s.totals x)) same now in
    larger_first (s.kept t.place) t.entry (subst (IsBelow t.entry) (sym kept) (i.earlier t.place t.entry (in_flight number t there refl))) ∙ kept
    ∙ ap (λ x. entry_of (s.totals x)) (sym same)))
    (λ apart. now))
taken_last places home s number t there i p (inr (n, u, h, at, now)) = elim (cases_eq n number) [
  | inl same ↦ (let u_is : t ≡ u = same_Some t u (sym there ∙ ap s.told (sym same) ∙ h) in
      let place_is : t.place ≡ p = ap (λ (x : Told). x.place) u_is ∙ at in
      let entry_is : t.entry ≡ entry_of (s.totals p) = ap (λ (x : Told). x.entry) u_is ∙ now in
      inl (at_entry (λ v. v ≡ entry_of (s.totals p)) s.kept t.place p (larger (s.kept t.place) t.entry)
      (λ e. larger_second (s.kept t.place) t.entry (subst (IsBelow (s.kept t.place)) (ap (λ x. entry_of (s.totals x)) place_is ∙ sym entry_is)
      (i.earlier t.place (s.kept t.place) is_kept)) ∙ entry_is)
      (λ apart. absurd (apart (sym place_is)))))
  | inr other ↦ inr (n, u, off_key s.told number n None other ∙ h, at, now)
]

pub takes_in : (places home : ℕ) (s : Counting) (number : ℕ) (t : Told) → s.told number ≡ Some t → IsCounted places home s
    → IsCounted places home (after home s (TakesIn number))
takes_in places home s number t there i =
    let told = with_entry s.told number None in
    let kept = with_entry s.kept t.place (larger (s.kept t.place) t.entry) in
    let older = taken_earlier s number t there i.in_line in
    let counted : IsCounted places home (record s { told = told; kept = kept }) = record {
      conserved = i.conserved;
      earlier = λ p e h. i.earlier p e (older p e h);
      in_line = λ p e f h k. i.in_line p e f (older p e h) (older p f k);
      cuts = λ cut is. i.cuts cut (record { now = is.now; earlier = λ p e h. older p e (is.earlier p e h) });
      last = λ p. elim (i.last p) [ inl work ↦ inl work | inr told_now ↦ inr (taken_last places home s number t there i p told_now) ];
    } in
    subst (λ o. IsCounted places home (record s { told = told; kept = taken s.kept o })) (sym there) counted
