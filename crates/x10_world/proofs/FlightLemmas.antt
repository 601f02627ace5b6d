-- Frames in flight, as some are posted and taken: they are still the messages that fly, and reports.
use Rattle.std.proofs.Common.{◌≡◌, ◌≢◌, ◌⊎◌, ℕ, ◌≤◌, List, [], ◌∷◌, ◌++◌, Option, Some, None, refl, sym, ap, subst, ◌∙◌, inl, inr, arith}
use Rattle.std.specs.Prelude.{IsTrue, slice_get}
use Rattle.std.proofs.lemmas.Option.{same_Some}
use Rattle.std.proofs.lemmas.Bool.{cases_eq}
use Rattle.x10_model.specs.Maps.{with_entry}
use Rattle.x10_model.specs.Modules.{Module}
use Rattle.x10_model.specs.Values.{Value, Int, Place, Text, Rail, Object, Null, Ref}
use Rattle.x10_model.specs.Copies.{Snapshot}
use Rattle.x10_model.specs.Places as machine
use Rattle.x10_model.specs.declared.finish.Finish.{Finish}
use Rattle.x10_model.specs.Places.{Message, receiver}
use Rattle.x10_model.specs.Worlds.{World, Unused, Flying}
use Rattle.x10_model.specs.Wrong.{graph_of}
use Rattle.x10_model.proofs.Lists.{none_some}
use Rattle.x10_model.proofs.Maps.{at_key, off_key}
use Rattle.x10_copy.specs.References.{OfReference, OfReferences}
use Rattle.x10_finish.specs.Detection.{Told}
use Rattle.x10_flights.specs.Flights.{Flight, FlightsState, flight_among, flight_of, posted_to, taken_from, without}
use Rattle.x10_world.specs.StandsForWorld.{is_export, exported_at, far_in, FliesAsMessage, FliesAsReport, Flies}
use Rattle.x10_flights.proofs.RisingKeys.{rising_push, rising_filter}
use Rattle.x10_flights.proofs.FlightsLookups.{among_push, among_new, among_none, among_without, among_others}
use Rattle.x10_world.proofs.ExportLemmas.{AreExported, exports_same}
use Rattle.x10_place.proofs.KnownExports.{IsKnown}

-- ---- exports of a world

export_on : (o : Option machine.Export) (new : machine.Place) (id class : ℕ) → ((e : machine.Export) → o ≡ Some e → slice_get new.exports id ≡ Some e)
    → IsTrue (is_export o class) → IsTrue (is_export (slice_get new.exports id) class)
export_on None new id class keeps h = absurd cc
export_on (Some e) new id class keeps h = subst (λ o. IsTrue (is_export o class)) (sym (keeps e refl)) h

exported_on : (o : Option machine.Place) (places : ℕ → Option machine.Place) (home id class : ℕ)
    → ((m : machine.Place) → o ≡ Some m → (n : machine.Place) × (places home ≡ Some n) × AreExported m n) → IsTrue (exported_at o id class)
    → IsTrue (exported_at (places home) id class)
exported_on None places home id class keeps h = absurd cc
exported_on (Some m) places home id class keeps h =
    let k = keeps m refl in
    subst (λ o. IsTrue (exported_at o id class)) (sym k.1) (export_on (slice_get m.exports id) k.0 id class (k.2 id) h)

-- where one place changes and keeps its exports, all are known still
pub far_after : (w v : World) (here : ℕ) (old new : machine.Place) → w.net.places here ≡ Some old
    → v.net.places ≡ with_entry w.net.places here (Some new) → AreExported old new → IsKnown (far_in w) (far_in v)
far_after w v here old new there changed exported home id class h =
    exported_on (w.net.places home) v.net.places home id class (λ m e. at m e (cases_eq home here)) h
  where
    at : (m : machine.Place) → w.net.places home ≡ Some m → (home ≡ here) ⊎ (home ≢ here)
        → (n : machine.Place) × (v.net.places home ≡ Some n) × AreExported m n
    at m e (inl same) =
        let m-is : m ≡ old = same_Some m old (sym e ∙ ap w.net.places same ∙ there) in (
          new,
          ap v.net.places same ∙ ap (λ f. f here) changed ∙ at_key w.net.places here (Some new),
          subst (λ k. AreExported k new) (sym m-is) exported,
        )
    at m e (inr ne) = (m, ap (λ f. f home) changed ∙ off_key w.net.places here home (Some new) ne ∙ e, exports_same m m refl)

-- ---- references

pub reference_on : (P Q : ℕ → ℕ → ℕ → Type 0) → ((home id class : ℕ) → P home id class → Q home id class) → (v : Value) → OfReference P v
    → OfReference Q v
reference_on P Q f (Int z) h = tt
reference_on P Q f (Place p) h = tt
reference_on P Q f (Text t) h = tt
reference_on P Q f (Rail r) h = tt
reference_on P Q f (Object r) h = tt
reference_on P Q f Null h = tt
reference_on P Q f (Ref home id class) h = f home id class h

pub references_on : (P Q : ℕ → ℕ → ℕ → Type 0) → ((home id class : ℕ) → P home id class → Q home id class) → (s : Snapshot) → OfReferences P s
    → OfReferences Q s
references_on P Q f s h = record {
  roots = λ v is. reference_on P Q f v (h.roots v is);
  fields = λ k node v there is. reference_on P Q f v (h.fields k node v there is);
}

-- ---- frames that fly on

abbrev IsTold : (Finish → ℕ → Option Told) → (Finish → ℕ → Option Told) → ℕ → Type 0
IsTold old new n = (f : Finish) → new f n ≡ old f n

module _ (program : Module) (places : ℕ) (w v : World) (old new : Finish → ℕ → Option Told) (known : IsKnown (far_in w) (far_in v)) where
  message_on : (n : ℕ) (flight : Flight) → v.net.posts n ≡ w.net.posts n → IsTold old new n → FliesAsMessage program places w old n flight
      → FliesAsMessage program places v new n flight
  message_on n flight same told h = record {
    message = h.message;
    flying = same ∙ h.flying;
    to_is = h.to_is;
    carries = h.carries;
    named = references_on (λ home id class. IsTrue (far_in w home id class)) (λ home id class. IsTrue (far_in v home id class)) known
        (graph_of h.message) h.named;
    untold = λ f. told f ∙ h.untold f;
  }

  report_on : (n : ℕ) (flight : Flight) → v.net.posts n ≡ w.net.posts n → IsTold old new n → FliesAsReport places w old n flight
      → FliesAsReport places v new n flight
  report_on n flight same told h = record {
    report = h.report;
    unused = same ∙ h.unused;
    carries = h.carries;
    told_is = told (record { home = flight.to; number = h.report.number }) ∙ h.told_is;
    others = λ f ne. told f ∙ h.others f ne;
  }

  either_on : (n : ℕ) (flight : Flight) → v.net.posts n ≡ w.net.posts n → IsTold old new n
      → FliesAsMessage program places w old n flight ⊎ FliesAsReport places w old n flight
      → FliesAsMessage program places v new n flight ⊎ FliesAsReport places v new n flight
  either_on n flight same told (inl h) = inl (message_on n flight same told h)
  either_on n flight same told (inr h) = inr (report_on n flight same told h)

  none_on : (n : ℕ) → v.net.posts n ≡ w.net.posts n → IsTold old new n
      → ((message : Message) → w.net.posts n ≡ Flying message → ⊥) × ((f : Finish) → old f n ≡ None)
      → ((message : Message) → v.net.posts n ≡ Flying message → ⊥) × ((f : Finish) → new f n ≡ None)
  none_on n same told h = (λ message e. h.0 message (sym same ∙ e), λ f. told f ∙ h.1 f)

  -- nothing is posted
  pub flies_on : (flights : FlightsState) → ((n : ℕ) → v.net.posts n ≡ w.net.posts n) → ((n : ℕ) → IsTold old new n)
      → Flies program places flights w old → Flies program places flights v new
  flies_on flights same told h = record {
    rising = h.rising;
    each = λ n flight e. either_on n flight (same n) (told n) (h.each n flight e);
    none = λ n e. none_on n (same n) (told n) (h.none n e);
    unused = λ n le. same n ∙ h.unused n le;
  }

  -- a frame more is posted, which is one of the two
  pub flies_more : (flights : FlightsState) (to : ℕ) (bytes : List ℕ) → ((n : ℕ) → n ≢ flights.posted → v.net.posts n ≡ w.net.posts n)
      → ((n : ℕ) → n ≢ flights.posted → IsTold old new n) → Flies program places flights w old
      → FliesAsMessage program places v new flights.posted (record { number = flights.posted; to = to; bytes = bytes })
      ⊎ FliesAsReport places v new flights.posted (record { number = flights.posted; to = to; bytes = bytes })
      → Flies program places (posted_to flights to bytes) v new
  flies_more flights to bytes same told h new-one = record {
    rising = rising_push (λ (f : Flight). f.number) 0 flights.flying flights.posted one (omega arith) refl h.rising;
    each = λ n flight e. each n flight e (cases_eq n flights.posted);
    none = λ n e. none n e (cases_eq n flights.posted);
    unused = λ n le. let ne : n ≢ flights.posted = λ e. omega (arith, le, e) in same n ne ∙ h.unused n (omega (arith, le));
  }
    where
      one : Flight
      one = record { number = flights.posted; to = to; bytes = bytes }

      found : flight_among (flights.flying ++ one ∷ []) flights.posted ≡ Some one
      found = among_new 0 flights.flying one h.rising

      each : (n : ℕ) (flight : Flight) → flight_of (posted_to flights to bytes) n ≡ Some flight → (n ≡ flights.posted) ⊎ (n ≢ flights.posted)
          → FliesAsMessage program places v new n flight ⊎ FliesAsReport places v new n flight
      each n flight e (inl at) =
          let is : one ≡ flight = same_Some one flight (sym found ∙ ap (flight_among (flights.flying ++ one ∷ [])) (sym at) ∙ e) in
          subst (λ k. FliesAsMessage program places v new k flight ⊎ FliesAsReport places v new k flight) (sym at)
          (subst (λ x. FliesAsMessage program places v new flights.posted x ⊎ FliesAsReport places v new flights.posted x) is new-one)
      each n flight e (inr ne) = either_on n flight (same n ne) (told n ne)
          (h.each n flight (sym (among_push flights.flying one n (λ x. ne (sym x))) ∙ e))

      none : (n : ℕ) → flight_of (posted_to flights to bytes) n ≡ None → (n ≡ flights.posted) ⊎ (n ≢ flights.posted)
          → ((message : Message) → v.net.posts n ≡ Flying message → ⊥) × ((f : Finish) → new f n ≡ None)
      none n e (inl at) = absurd (none_some (flight_among (flights.flying ++ one ∷ []) n) one e
          (ap (flight_among (flights.flying ++ one ∷ [])) at ∙ found))
      none n e (inr ne) = none_on n (same n ne) (told n ne) (h.none n (sym (among_push flights.flying one n (λ x. ne (sym x))) ∙ e))

  -- a frame is taken
  pub flies_fewer : (flights : FlightsState) (number : ℕ) (flight : Flight) → flight_of flights number ≡ Some flight
      → ((n : ℕ) → n ≢ number → v.net.posts n ≡ w.net.posts n) → ((n : ℕ) → n ≢ number → IsTold old new n)
      → ((message : Message) → v.net.posts number ≡ Flying message → ⊥) → ((f : Finish) → new f number ≡ None) → Flies program places flights w old
      → Flies program places (taken_from flights number) v new
  flies_fewer flights number flight is same told gone none-told h = record {
    rising = rising_filter (λ (f : Flight). f.number) _ 0 flights.flying flights.posted h.rising;
    each = λ n f e. each n f e (cases_eq n number);
    none = λ n e. none n e (cases_eq n number);
    unused = λ n le. unused n le (cases_eq n number);
  }
    where
      each : (n : ℕ) (f : Flight) → flight_of (taken_from flights number) n ≡ Some f → (n ≡ number) ⊎ (n ≢ number)
          → FliesAsMessage program places v new n f ⊎ FliesAsReport places v new n f
      each n f e (inl at) = absurd (none_some (flight_among (without number flights.flying) n) f
          (ap (flight_among (without number flights.flying)) at ∙ among_without number flights.flying) e)
      each n f e (inr ne) = either_on n f (same n ne) (told n ne) (h.each n f (sym (among_others number flights.flying n ne) ∙ e))

      none : (n : ℕ) → flight_of (taken_from flights number) n ≡ None → (n ≡ number) ⊎ (n ≢ number)
          → ((message : Message) → v.net.posts n ≡ Flying message → ⊥) × ((f : Finish) → new f n ≡ None)
      none n e (inl at) = subst (λ k. ((message : Message) → v.net.posts k ≡ Flying message → ⊥) × ((f : Finish) → new f k ≡ None)) (sym at)
          (gone, none-told)
      none n e (inr ne) = none_on n (same n ne) (told n ne) (h.none n (sym (among_others number flights.flying n ne) ∙ e))

      unused : (n : ℕ) → flights.posted ≤ n → (n ≡ number) ⊎ (n ≢ number) → v.net.posts n ≡ Unused
      unused n le (inl at) = absurd (none_some (flight_among flights.flying n) flight (among_none 0 flights.flying flights.posted n h.rising le)
          (ap (flight_among flights.flying) at ∙ is))
      unused n le (inr ne) = same n ne ∙ h.unused n le
