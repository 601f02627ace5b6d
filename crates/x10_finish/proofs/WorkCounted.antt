-- The invariant of termination detection is kept where a place at work puts out and begins activities.
use Rattle.std.proofs.Common.{◌≡◌, ℕ, ◌+◌, ◌<◌, ◌≤◌, Option, Some, None, ◌⊎◌, inl, inr, refl, sym, ◌∙◌, ap, subst, arith}
use Rattle.x10_model.specs.Maps.{with_entry, with_pair}
use Rattle.x10_model.specs.Totals.{Totals, Entry, Cut, entry_of, sends_to, begins_one}
use Rattle.x10_model.proofs.Lists.{none_some}
use Rattle.x10_model.proofs.Maps.{off_key}
use Rattle.x10_finish.specs.Detection.{Told, Counting, PutsOut, Begins, after, IsAtWork, IsEarlierOf, IsBelow, entry_or, IsStill, AreStill, Lacks, IsToldNow, IsCounted}
use Rattle.x10_finish.proofs.Entries.{at_entry, at_pair, below_itself}

-- ---- a place that sends more

pub sent_more : (t u : Totals) (o : Option Entry) (q : ℕ) → t.sent q ≤ u.sent q → (entry_or (entry_of t) o).sent q ≤ (entry_or (entry_of u) o).sent q
sent_more t u None q le = le
sent_more t u (Some e) q le = omega arith

pub lacks_on : (places : ℕ) (totals after : ℕ → Totals) (cut : ℕ → Option Entry) → ((p q : ℕ) → (totals p).sent q ≤ (after p).sent q)
    → Lacks places totals cut → Lacks places after cut
lacks_on places totals after cut more l =
    let le = sent_more (totals l.from) (after l.from) (cut l.from) l.to (more l.from l.to) in
    record {
      to = l.to;
      from = l.from;
      entry = l.entry;
      is_there = l.is_there;
      to_place = l.to_place;
      from_place = l.from_place;
      less = omega (arith, l.less);
    }

-- nothing is still where something is at work
still_apart : (home : ℕ) (s : Counting) (cut : ℕ → Option Entry) (place p : ℕ) (e : Entry) → cut home ≡ None → IsAtWork home s place
    → AreStill s.totals cut → cut p ≡ Some e → p ≡ place → ⊥
still_apart home s cut place p e now (inl lives) still there same =
    let quiet = (still p e there).live in
    let here : (s.totals p).live ≡ (s.totals place).live = ap (λ x. (s.totals x).live) same in
    omega arith
still_apart home s cut place p e now (inr owner) still there same =
    absurd (none_some (cut home) e now (subst (λ x. cut x ≡ Some e) (same ∙ owner) there))

-- totals of a place at work change, and no report
pub still_on : (home : ℕ) (s : Counting) (cut : ℕ → Option Entry) (place : ℕ) (t : Totals) → cut home ≡ None → IsAtWork home s place
    → AreStill s.totals cut → AreStill (with_entry s.totals place t) cut
still_on home s cut place t now work still p e there =
    at_entry (IsStill e) s.totals place p t (λ same. absurd (still_apart home s cut place p e now work still there same)) (λ apart. still p e there)

-- at a place with such totals something can act; its last word has come or is on its way
abbrev pub WorksWith : ℕ → ℕ → Totals → Type 0
WorksWith home p t = (0 < t.live) ⊎ (p ≡ home)

abbrev pub HasTold : (ℕ → Option Told) → Cut → ℕ → Totals → Type 0
HasTold told kept p t = (kept p ≡ entry_of t) ⊎ ((number : ℕ) × (u : Told) × (told number ≡ Some u) × (u.place ≡ p) × (u.entry ≡ entry_of t))

below_trans : (e f g : Entry) → IsBelow e f → IsBelow f g → IsBelow e g
below_trans e f g h k = record {
  sent = λ q. (let a = h.sent q in let b = k.sent q in omega arith);
  received = λ q. (let a = h.received q in let b = k.received q in omega arith);
}

-- the totals of one place grow
pub earlier_on : (told : ℕ → Option Told) (kept : Cut) (totals : ℕ → Totals) (place : ℕ) (t : Totals) → IsBelow (entry_of (totals place)) (entry_of t)
    → ((p : ℕ) (e : Entry) → IsEarlierOf told kept p e → IsBelow e (entry_of (totals p)))
    → (p : ℕ) (e : Entry) → IsEarlierOf told kept p e → IsBelow e (entry_of (with_entry totals place t p))
earlier_on told kept totals place t grows earlier p e h =
    at_entry (λ u. IsBelow e (entry_of u)) totals place p t
    (λ same. below_trans e (entry_of (totals place)) (entry_of t) (subst (λ x. IsBelow e (entry_of (totals x))) same (earlier p e h)) grows)
    (λ apart. earlier p e h)

pub more_on : (totals : ℕ → Totals) (place : ℕ) (t : Totals) → ((q : ℕ) → (totals place).sent q ≤ t.sent q) → (p q : ℕ)
    → (totals p).sent q ≤ (with_entry totals place t p).sent q
more_on totals place t more p q =
    at_entry (λ u. (totals p).sent q ≤ u.sent q) totals place p t (λ same. subst (λ x. (totals x).sent q ≤ t.sent q) (sym same) (more q))
    (λ apart. omega arith)

pub last_on : (home : ℕ) (s : Counting) (place : ℕ) (t : Totals) → ((p : ℕ) → IsAtWork home s p ⊎ IsToldNow s p) → WorksWith home place t
    → (p : ℕ) → WorksWith home p (with_entry s.totals place t p) ⊎ HasTold s.told s.kept p (with_entry s.totals place t p)
last_on home s place t last work p =
    at_entry (λ u. WorksWith home p u ⊎ HasTold s.told s.kept p u) s.totals place p t (λ same. inl (subst (λ x. WorksWith home x t) (sym same) work))
    (λ apart. last p)

-- ---- a place at work puts out and begins activities

pub worked : (places home : ℕ) (s : Counting) (place : ℕ) (t : Totals) (flying : ℕ → ℕ → ℕ) → IsCounted places home s → IsAtWork home s place
    → IsBelow (entry_of (s.totals place)) (entry_of t) → WorksWith home place t
    → ((p q : ℕ) → p < places → q < places → (with_entry s.totals place t p).sent q ≡ (with_entry s.totals place t q).received p + flying p q)
    → IsCounted places home (record s { totals = with_entry s.totals place t; flying = flying })
worked places home s place t flying i work grows works conserved = record {
  conserved = conserved;
  earlier = earlier_on s.told s.kept s.totals place t grows i.earlier;
  in_line = i.in_line;
  cuts = λ cut is. elim (i.cuts cut is) [
    | inl still ↦ inl (still_on home s cut place t is.now work still)
    | inr l ↦ inr (lacks_on places s.totals (with_entry s.totals place t) cut (more_on s.totals place t grows.sent) l)
  ];
  last = last_on home s place t i.last works;
}

-- one number more at one place
pub one_more : (f : ℕ → ℕ) (k j : ℕ) → f j ≤ with_entry f k (f k + 1) j
one_more f k j = at_entry (λ v. f j ≤ v) f k j (f k + 1) (λ same. (let e = ap f same in omega arith)) (λ apart. omega arith)

sent_after : (totals : ℕ → Totals) (p q a b : ℕ) → ((a ≡ p) × (b ≡ q) → ⊥)
    → (with_entry totals p (sends_to (totals p) q) a).sent b ≡ (totals a).sent b
sent_after totals p q a b apart =
    at_entry (λ u. u.sent b ≡ (totals a).sent b) totals p a (sends_to (totals p) q)
    (λ same. off_key (totals p).sent q b ((totals p).sent q + 1) (λ s. apart (same, s)) ∙ ap (λ x. (totals x).sent b) (sym same)) (λ other. refl)

sent_here : (totals : ℕ → Totals) (p q a b : ℕ) → a ≡ p → b ≡ q → (with_entry totals p (sends_to (totals p) q) a).sent b ≡ (totals a).sent b + 1
sent_here totals p q a b ea eb =
    at_entry (λ u. u.sent b ≡ (totals a).sent b + 1) totals p a (sends_to (totals p) q)
    (λ same. at_entry (λ v. v ≡ (totals a).sent b + 1) (totals p).sent q b ((totals p).sent q + 1)
    (λ s. (let e : (totals a).sent b ≡ (totals p).sent q = ap (λ x. (totals x).sent b) same ∙ ap (totals p).sent s in omega arith))
    (λ other. absurd (other eb))) (λ other. absurd (other ea))

received_same : (totals : ℕ → Totals) (p q a b : ℕ) → (with_entry totals p (sends_to (totals p) q) b).received a ≡ (totals b).received a
received_same totals p q a b = at_entry (λ u. u.received a ≡ (totals b).received a) totals p b (sends_to (totals p) q)
    (λ same. ap (λ x. (totals x).received a) (sym same)) (λ other. refl)

pub puts_out : (places home : ℕ) (s : Counting) (p q : ℕ) → IsCounted places home s → IsAtWork home s p
    → IsCounted places home (after home s (PutsOut p q))
puts_out places home s p q i work =
    worked places home s p (sends_to (s.totals p) q) (with_pair s.flying p q (s.flying p q + 1)) i work
    (record { sent = one_more (s.totals p).sent q; received = λ x. omega arith }) work
    (λ a b la lb. (let kept = received_same s.totals p q a b in let before = i.conserved a b la lb in
    at_pair (λ v. (with_entry s.totals p (sends_to (s.totals p) q) a).sent b ≡ (with_entry s.totals p (sends_to (s.totals p) q) b).received a + v)
    s.flying p q a b (s.flying p q + 1)
    (λ ea eb. (let more = sent_here s.totals p q a b ea eb in let f : s.flying a b ≡ s.flying p q = ap (λ x. s.flying x b) ea ∙ ap (s.flying p) eb in
    omega arith))
    (λ other. (let same = sent_after s.totals p q a b other in omega arith))))

-- live alone changes
abbrev with_live : Totals → ℕ → Totals
with_live t n = record t { live = n }

sent_kept : (totals : ℕ → Totals) (p n a b : ℕ) → (with_entry totals p (with_live (totals p) n) a).sent b ≡ (totals a).sent b
sent_kept totals p n a b = at_entry (λ u. u.sent b ≡ (totals a).sent b) totals p a (with_live (totals p) n)
    (λ same. ap (λ x. (totals x).sent b) (sym same)) (λ other. refl)

received_kept : (totals : ℕ → Totals) (p n a b : ℕ) → (with_entry totals p (with_live (totals p) n) b).received a ≡ (totals b).received a
received_kept totals p n a b = at_entry (λ u. u.received a ≡ (totals b).received a) totals p b (with_live (totals p) n)
    (λ same. ap (λ x. (totals x).received a) (sym same)) (λ other. refl)

pub conserved_kept : (places home : ℕ) (s : Counting) (p n : ℕ) → IsCounted places home s → (a b : ℕ) → a < places → b < places
    → (with_entry s.totals p (with_live (s.totals p) n) a).sent b ≡ (with_entry s.totals p (with_live (s.totals p) n) b).received a + s.flying a b
conserved_kept places home s p n i a b la lb = sent_kept s.totals p n a b ∙ i.conserved a b la lb
    ∙ ap (λ (x : ℕ). x + s.flying a b) (sym (received_kept s.totals p n a b))

pub begins : (places home : ℕ) (s : Counting) (p : ℕ) → IsCounted places home s → IsAtWork home s p → IsCounted places home (after home s (Begins p))
begins places home s p i work =
    worked places home s p (begins_one (s.totals p)) s.flying i work (below_itself (entry_of (s.totals p))) (inl (omega arith))
    (conserved_kept places home s p ((s.totals p).live + 1) i)
