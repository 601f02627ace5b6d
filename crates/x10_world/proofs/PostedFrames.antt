-- The frames that a move puts out: afterwards they fly with the others.
use Rattle.std.proofs.Common.{◌≡◌, ◌≢◌, ◌⊎◌, ℕ, ◌<◌, ◌&&◌, Bool, true, false, if◌then◌else◌, Option, Some, None, refl, sym, ap, subst, ◌∙◌, inl, inr, arith, eq-eqb}
use Rattle.std.specs.Prelude.{IsTrue, slice_get, map}
use Rattle.std.proofs.lemmas.Bool.{cases_Bool, cases_eq, ne_eqb}
use Rattle.x10_model.specs.Maps.{with_entry}
use Rattle.x10_model.specs.Modules.{Module}
use Rattle.x10_model.specs.Frames.{to_of}
use Rattle.x10_model.specs.Places as machine
use Rattle.x10_model.specs.declared.finish.Finish.{Finish}
use Rattle.x10_model.specs.Places.{Message, Effect, Waits, Works, Begins, Spawns, Shifts, Opens, Closes, Ends, receiver}
use Rattle.x10_model.specs.Totals.{Totals, Did, is_reported, reported}
use Rattle.x10_model.specs.Worlds.{World, Flying, posts_after, same_finish}
use Rattle.x10_model.specs.Wrong.{graph_of}
use Rattle.x10_model.proofs.Maps.{at_key, off_key}
use Rattle.x10_heap.specs.Words.{export_as, has_class, is_named}
use Rattle.x10_copy.proofs.TestLemmas.{named_tells}
use Rattle.x10_finish.specs.Detection.{Told}
use Rattle.x10_finish.specs.Telling.{GoesTo}
use Rattle.x10_model.proofs.SameFinishes.{same_is, same_self}
use Rattle.x10_place.specs.declared.sent.Outgoing.{Outgoing}
use Rattle.x10_place.specs.Messages.{Carries, CarriesReport, SendsMessage, IsReportSent}
use Rattle.x10_place.specs.Stays.{StoreState}
use Rattle.x10_place.specs.StandsFor.{PlaceState, Far, context_of}
use Rattle.x10_flights.specs.Flights.{FlightsState}
use Rattle.x10_world.specs.StandsForWorld.{is_export, exported_at, far_in, Flies, with_posted}
use Rattle.x10_flights.proofs.FlightsLookups.{among_none}
use Rattle.x10_place.proofs.KnownExports.{IsKnown, receiver_is}
use Rattle.x10_world.proofs.FlightLemmas.{references_on, flies_on, flies_more}

-- ---- what a place takes for the name of an object is one in the world

module _ (w : World) (p : PlaceState) (m : machine.Place) (there : w.net.places p.id ≡ Some m)
    (exports : m.exports ≡ map export_as p.heap.exports) where
  named_here : (home id class : ℕ) → home ≡ p.id → IsTrue (has_class (slice_get p.heap.exports id) class) → IsTrue (far_in w home id class)
  named_here home id class e h =
      let t = (named_tells p.heap.exports id class).0 h in
      let found : slice_get m.exports id ≡ Some (record { class = class; object = t.0 }) = ap (λ es. slice_get es id) exports ∙ t.1 in
      let place : w.net.places home ≡ Some m = ap w.net.places e ∙ there in
      subst (λ o. IsTrue (exported_at o id class)) (sym place) (subst (λ o. IsTrue (is_export o class)) (sym found) (eq-eqb class class refl))

  pub named_in : (home id class : ℕ) → IsTrue (is_named (context_of (far_in w) p) home id class) → IsTrue (far_in w home id class)
  named_in home id class h = elim (cases_eq home p.id) [
    | inl e ↦ named_here home id class e (subst (λ b. IsTrue (if b then has_class (slice_get p.heap.exports id) class else far_in w home id class))
        (eq-eqb home p.id e) h)
    | inr n ↦ subst (λ b. IsTrue (if b then has_class (slice_get p.heap.exports id) class else far_in w home id class)) (ne_eqb home p.id n) h
  ]

-- ---- a message

pub goes_to : (places : ℕ) (p : PlaceState) (far : Far) (program : Module) (out : Option Outgoing) (sent : Option Message) → p.places ≡ places
    → SendsMessage program (context_of far p) out sent → GoesTo places sent
goes_to places p far program None sent e h = subst (λ m. GoesTo places m) (sym h) tt
goes_to places p far program (Some o) sent e h =
    let c = h.2.carries in
    subst (λ m. GoesTo places m) (sym h.1) (subst (λ k. k < places) (sym (receiver_is c.frame h.0 c.message_is))
    (subst (λ k. to_of c.frame < k) e c.fits.to))

pub message_posted : (program : Module) (places : ℕ) (flights : FlightsState) (w v : World) (p : PlaceState) (told : Finish → ℕ → Option Told)
    (out : Option Outgoing) (sent : Option Message) → IsKnown (far_in w) (far_in v)
    → ((home id class : ℕ) → IsTrue (is_named (context_of (far_in w) p) home id class) → IsTrue (far_in w home id class)) → p.places ≡ places
    → p.program ≡ program → v.net.posts ≡ posts_after w.net.posts flights.posted sent
    → SendsMessage p.program (context_of (far_in w) p) out sent → Flies program places flights w told
    → Flies program places (with_posted flights out) v told
message_posted program places flights w v p told None sent known named places-are program-is posts sends h =
    flies_on program places w v told told known flights (λ n. ap (λ f. f n) posts ∙ ap (λ o. posts_after w.net.posts flights.posted o n) sends)
    (λ n f. refl) h
message_posted program places flights w v p told (Some o) sent known named places-are program-is posts sends h =
    flies_more program places w v told told known flights o.to o.bytes.items (λ n ne. at n ∙ off_key w.net.posts flights.posted n (Flying message) ne)
    (λ n ne f. refl) h (inl (record {
      message = message;
      flying = at flights.posted ∙ at_key w.net.posts flights.posted (Flying message);
      to_is = sends.2.to_is;
      carries = subst (λ m. Carries m places o.bytes.items message) program-is
          (subst (λ n. Carries p.program n o.bytes.items message) places-are sends.2.carries);
      named = references_on (λ home id class. IsTrue (is_named (context_of (far_in w) p) home id class))
          (λ home id class. IsTrue (far_in v home id class)) (λ home id class x. known home id class (named home id class x))
          (graph_of message) sends.2.named;
      untold = λ f. (h.none flights.posted (among_none 0 flights.flying flights.posted flights.posted h.rising (omega arith))).1 f;
    }))
  where
    message : Message
    message = sends.0

    at : (n : ℕ) → v.net.posts n ≡ posts_after w.net.posts flights.posted (Some message) n
    at n = ap (λ f. f n) posts ∙ ap (λ o. posts_after w.net.posts flights.posted o n) sends.1

-- ---- a report

-- what is told once the report of a finish has a number, if one is due
abbrev pub retold : (Finish → Bool) → (Finish → Told) → ℕ → (Finish → ℕ → Option Told) → Finish → ℕ → Option Told
retold due is number told f = if due f then with_entry (told f) number (Some (is f)) else told f

pub not_due : (b : Bool) (x y : ℕ → Option Told) → b ≡ false → (if b then x else y) ≡ y
not_due true x y e = absurd cc
not_due false x y e = refl

pub due_at : (b : Bool) (x y : ℕ → Option Told) → b ≡ true → (if b then x else y) ≡ x
due_at true x y e = refl
due_at false x y e = absurd cc

due_off : (b : Bool) (told : ℕ → Option Told) (number n : ℕ) (t : Told) → n ≢ number
    → (if b then with_entry told number (Some t) else told) n ≡ told n
due_off true told number n t ne = off_key told number n (Some t) ne
due_off false told number n t ne = refl

both_left : (a b : Bool) → (a && b) ≡ true → a ≡ true
both_left true b e = refl
both_left false b e = absurd cc

not_both : (b : Bool) → b ≡ true → b ≡ false → ⊥
not_both b e f = cc

-- a move has one report at most
reported_once : (here : ℕ) (effect : Effect) (f g : Finish) (t u : Totals) → is_reported here f t (Did effect) ≡ true
    → is_reported here g u (Did effect) ≡ true → f ≡ g
reported_once here (Waits number) f g t u d e = absurd cc
reported_once here Works f g t u d e = absurd cc
reported_once here (Begins key function under) f g t u d e = absurd cc
reported_once here (Spawns message function under) f g t u d e = absurd cc
reported_once here (Shifts message under) f g t u d e = absurd cc
reported_once here (Opens number inside) f g t u d e = absurd cc
reported_once here (Closes number) f g t u d e = absurd cc
reported_once here (Ends under back) f g t u d e = same_is f under (both_left (same_finish f under) _ d)
    ∙ sym (same_is g under (both_left (same_finish g under) _ e))

module _ (program : Module) (places : ℕ) (flights : FlightsState) (v : World) (here : ℕ) (effect : Effect) (totals : Finish → Totals)
    (is : Finish → Told) (told : Finish → ℕ → Option Told) where
  abbrev due : Finish → Bool
  due f = is_reported here f (totals f) (Did effect)

  abbrev then_told : Finish → ℕ → Option Told
  then_told = retold due is flights.posted told

  pub none_reported : ((f : Finish) → due f ≡ false) → Flies program places flights v told → Flies program places flights v then_told
  none_reported none h = flies_on program places v v told then_told (λ home id class x. x) flights (λ n. refl)
      (λ n f. ap (λ g. g n) (not_due (due f) _ (told f) (none f))) h

  pub one_reported : (o : Outgoing) (s : StoreState) (f : Finish) (r : IsReportSent s f o) → due f ≡ true → s.places ≡ places
      → is f ≡ record { place = r.report.place; entry = reported r.report } → Flies program places flights v told
      → Flies program places (with_posted flights (Some o)) v then_told
  one_reported o s f r d places-are is-it h =
      flies_more program places v v told then_told (λ home id class x. x) flights o.to o.bytes.items (λ n ne. refl)
      (λ n ne g. due_off (due g) (told g) flights.posted n (is g) ne) h (inr (record {
        report = r.report;
        unused = h.unused flights.posted (omega arith);
        carries = subst (λ k. CarriesReport places o.bytes.items k r.report) (sym r.to_is)
            (subst (λ n. CarriesReport n o.bytes.items f.home r.report) places-are r.carries);
        told_is = ap (λ g. then_told g flights.posted) same ∙ ap (λ g. g flights.posted)
            (due_at (due f) (with_entry (told f) flights.posted (Some (is f))) (told f) d) ∙ at_key (told f) flights.posted (Some (is f))
            ∙ ap (λ t. Some t) is-it;
        others = λ g ne. others g ne (cases_Bool (due g));
      }))
    where
      it : Finish
      it = record { home = o.to; number = r.report.number }

      same : it ≡ f
      same = ap (λ k. record { home = k; number = r.report.number }) r.to_is ∙ ap (λ k. record { home = f.home; number = k }) r.number_is

      others : (g : Finish) → same_finish g it ≡ false → (due g ≡ true) ⊎ (due g ≡ false) → then_told g flights.posted ≡ None
      others g ne (inl so) = absurd (not_both (same_finish g it)
          (same_self g it (reported_once here effect g f (totals g) (totals f) so d ∙ sym same)) ne)
      others g ne (inr not-so) = ap (λ k. k flights.posted) (not_due (due g) _ (told g) not-so)
          ∙ (h.none flights.posted (among_none 0 flights.flying flights.posted flights.posted h.rising (omega arith))).1 g
