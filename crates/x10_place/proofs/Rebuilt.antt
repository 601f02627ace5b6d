-- A place that takes a message in: what it stands for then, if each stay stands.
use Rattle.std.proofs.Common.{◌≡◌, ℕ, ◌≤◌, ◌^◌, Option, Some, None, refl, sym, subst, ◌∙◌, inl, inr}
use Rattle.std.specs.Prelude.{map}
use Rattle.std.proofs.lemmas.Bool.{cases_eq}
use Rattle.slab.specs.Slab.{Slab, get, Updates}
use Rattle.x10_heap.specs.Words.{Context, HoldsHeap}
use Rattle.x10_heap.proofs.GrownHeaps.{Grows}
use Rattle.x10_model.specs.Maps.{with_entry}
use Rattle.x10_model.specs.Modules.{Module}
use Rattle.x10_model.specs.Places as machine
use Rattle.x10_model.specs.Places.{Message, Stay}
use Rattle.x10_model.specs.Deliveries.{Receives}
use Rattle.x10_model.proofs.Maps.{at_key, off_key}
use Rattle.x10_finish.proofs.Tallied.{received_tallied}
use Rattle.x10_place.specs.Receiving.{Admits, IsCountedIn, IsVacantFor}
use Rattle.x10_place.specs.Stays.{StayState, StoreState, totals_in, books_of}
use Rattle.x10_place.specs.StandsFor.{Far, context, context_of, PlaceState, store_of, with_stays, line_as, Assigned, StandsForStay, HoldsExports, StandsFor, AreBooked, setting_of}
use Rattle.x10_place.proofs.GrownFrames.{stay_kept}

-- a stay of the program, or none, stands for what the machine has under the same key
abbrev pub Keyed : (program : Module) → Assigned program → Context → Option StayState → Option Stay → Type 0
Keyed program assigned x None o = o ≡ None
Keyed program assigned x (Some a) o = (s : Stay) × (o ≡ Some s) × StandsForStay program assigned x a s

keyed_none : (program : Module) (assigned : Assigned program) (x : Context) (o : Option StayState) (s : Option Stay) → Keyed program assigned x o s
    → o ≡ None → s ≡ None
keyed_none program assigned x o s h e = subst (λ q. Keyed program assigned x q s) e h

keyed_some : (program : Module) (assigned : Assigned program) (x : Context) (o : Option StayState) (s : Option Stay) (a : StayState)
    → Keyed program assigned x o s → o ≡ Some a → (t : Stay) × (s ≡ Some t) × StandsForStay program assigned x a t
keyed_some program assigned x o s a h e = subst (λ q. Keyed program assigned x q s) e h

keyed_kept : (x y : Context) (grows : Grows x y) (program : Module) (assigned : Assigned program) (o : Option StayState) (s : Option Stay)
    → Keyed program assigned x o s → Keyed program assigned y o s
keyed_kept x y grows program assigned None s h = h
keyed_kept x y grows program assigned (Some a) s h = (h.0, h.1, stay_kept x y grows program assigned a h.0 h.2)

module _ (far : Far) (p : PlaceState) (m : machine.Place) (h : StandsFor far p m) (slab : Slab StayState) (t : StoreState) where
  -- what the machine has under each key
  keyed_of : (k : ℕ) (o : Option StayState) → get p.stays k ≡ o → Keyed p.program h.assigned (context_of far p) o (m.stays k)
  keyed_of k None e = h.none k e
  keyed_of k (Some a) e = h.some k a e

  abbrev after : Context
  after = context (setting_of p) p.id t.heap far

  -- the stay under a key is another one, and stands
  module _ (key : ℕ) (a : StayState) (s : Stay) (up : Updates p.stays slab key (Some a)) (grows : Grows (context_of far p) after)
      (stands : StandsForStay p.program h.assigned after a s) where
    keyed_now : (k : ℕ) → Keyed p.program h.assigned after (get slab k) (with_entry m.stays key (Some s) k)
    keyed_now k = elim (cases_eq k key) [
      | inl e ↦ subst (λ q. Keyed p.program h.assigned after (get slab q) (with_entry m.stays key (Some s) q)) (sym e)
          (subst (λ o. Keyed p.program h.assigned after o (with_entry m.stays key (Some s) key)) (sym up.changed)
          (subst (λ o. Keyed p.program h.assigned after (Some a) o) (sym (at_key m.stays key (Some s))) (s, refl, stands)))
      | inr ne ↦ subst (λ o. Keyed p.program h.assigned after o (with_entry m.stays key (Some s) k)) (sym (up.others k ne))
          (subst (λ o. Keyed p.program h.assigned after (get p.stays k) o) (sym (off_key m.stays key k (Some s) ne))
          (keyed_kept (context_of far p) after grows p.program h.assigned (get p.stays k) (m.stays k) (keyed_of k (get p.stays k) refl)))
    ]

    none_above : (2 ^ 32 ≤ key → ⊥) → (k : ℕ) → 2 ^ 32 ≤ k → get slab k ≡ None
    none_above low k le = elim (cases_eq k key) [
      | inl e ↦ absurd (low (subst (λ n. 2 ^ 32 ≤ n) e le))
      | inr ne ↦ up.others k ne ∙ h.keys k le
    ]

    pub admitted : (message : Message) (next : machine.Place) → (2 ^ 32 ≤ key → ⊥) → IsVacantFor p message key
        → Receives (setting_of p) p.id m message key next
        → next.stays ≡ with_entry m.stays key (Some s) → HoldsHeap after next.cells → HoldsExports t.heap next.exports
        → next.opened ≡ t.opened → next.lines ≡ map line_as t.lines → IsCountedIn (store_of p) message t
        → AreBooked p.id next.stays t.opened (books_of t.books) → Admits far p m message (with_stays p slab t)
    admitted message next low vacant receives same holds exports opened lines counted booked = record {
      key = key;
      new = next;
      receives = receives;
      stands = record {
        assigned = h.assigned;
        none = λ k e. keyed_none p.program h.assigned after (get slab k) (next.stays k) (keyed_next k) e;
        keys = none_above low;
        some = λ k b e. keyed_some p.program h.assigned after (get slab k) (next.stays k) b (keyed_next k) e;
        site = h.site;
        heap = holds;
        exports = exports;
        opened = opened;
        lines = lines;
        tallied = received_tallied (setting_of p) p.id key m next message (totals_in (store_of p)) (totals_in t) h.tallied receives counted.totals;
        booked = booked;
      };
      counted = record { here = refl; places = refl; totals = counted.totals; kept = counted.kept };
      vacant = vacant;
    }
      where
        keyed_next : (k : ℕ) → Keyed p.program h.assigned after (get slab k) (next.stays k)
        keyed_next k = subst (λ (stays : ℕ → Option Stay). Keyed p.program h.assigned after (get slab k) (stays k)) (sym same) (keyed_now k)
