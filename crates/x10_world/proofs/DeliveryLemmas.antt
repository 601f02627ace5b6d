-- A frame in flight that its receiver takes in is a delivery of the world's message, or a report, which changes no world.
use Rattle.std.proofs.Common.{◌≡◌, ◌≢◌, ◌⊎◌, ℕ, true, false, if◌then◌else◌, List, length, Option, Some, None, Ok, refl, sym, ap, subst, ◌∙◌, inl, inr}
use Rattle.std.specs.Prelude.{IsTrue, slice_get, slice_set}
use Rattle.std.proofs.lemmas.Bool.{cases_Bool, cases_eq}
use Rattle.std.proofs.lemmas.Option.{same_Some, slice_get_within}
use Rattle.std.proofs.lemmas.List.{length-set}
use Rattle.x10_model.specs.declared.event.Event.TheVariants.{Deliver}
use Rattle.x10_model.specs.Maps.{with_entry}
use Rattle.x10_model.specs.Modules.{Module}
use Rattle.x10_model.specs.Structure.{bounds_of}
use Rattle.x10_model.specs.Frames as frames
use Rattle.x10_model.specs.declared.version.FrameVersion.TheVariants.{Wide}
use Rattle.x10_model.specs.Frames.{Frame, FitsFrame}
use Rattle.x10_model.specs.Marshalling.{message_of}
use Rattle.x10_model.specs.Places as machine
use Rattle.x10_model.specs.declared.finish.Finish.{Finish}
use Rattle.x10_model.specs.Places.{Message, root}
use Rattle.x10_model.specs.Deliveries.{Receives}
use Rattle.x10_model.specs.Totals.{Cut, Took, totals_after, reported}
use Rattle.x10_model.specs.Worlds.{World, Flying, Taken, same_finish, book_with, Ideal, Happens, delivers, idle, not_flying, Delivers}
use Rattle.x10_model.specs.Wrong as wrong
use Rattle.x10_model.proofs.Lists.{none_some, set_off}
use Rattle.x10_model.proofs.Maps.{at_key, off_key}
use Rattle.x10_copy.specs.References.{AreNamedElsewhere}
use Rattle.x10_finish.specs.Detection.{Told, taken}
use Rattle.x10_finish.specs.Nesting.{stays_in, stays_of, IsHeld}
use Rattle.x10_finish.specs.Watching.{IsWatched, IsDelivered, IsSame, IsTakenIn}
use Rattle.x10_finish.proofs.WorldLemmas.{deliveries_are_watched, reports_are_watched}
use Rattle.x10_place.specs.Messages.{report_frame}
use Rattle.x10_place.specs.Receiving.{Admits, TakesMessage, TakesReport, TakesFrame, IsTaken, merged_in}
use Rattle.x10_place.specs.Stays.{HasBook, books_of, kept_in}
use Rattle.x10_place.specs.StandsFor as place
use Rattle.x10_place.specs.StandsFor.{PlaceState, Far, store_of, context_of, AreBooked, StandsFor}
use Rattle.x10_place.proofs.Received.{report_stands}
use Rattle.x10_flights.specs.Flights.{Flight, FlightsState, flight_of, taken_from}
use Rattle.x10_world.specs.Links.{AreAnswered}
use Rattle.x10_world.specs.Prompt.{IsPrompt}
use Rattle.x10_world.specs.StandsForWorld.{BelongsTo, BelongTo, setting_in, totals_at, kept_at, counts_in, far_in, FliesAsMessage, FliesAsReport, Flies, AllStandFor, DeliveryLeads}
use Rattle.x10_world.proofs.BudgetDeliveries.{budget_after_delivery}
use Rattle.x10_world.proofs.ExportLemmas.{delivery_exports}
use Rattle.x10_world.proofs.FlightLemmas.{far_after, references_on, flies_fewer}
use Rattle.x10_place.proofs.KnownExports.{IsKnown, far_grows}
use Rattle.x10_world.proofs.LinkDeliveries.{answered_after_delivery}
use Rattle.x10_world.proofs.Lists.{set_here, set_either}
use Rattle.x10_model.proofs.SameFinishes.{same_self}
use Rattle.x10_world.proofs.PostedFrames.{not_due, due_at}

-- ---- what a frame brings

-- the frame of a message brings that message
takes_message : (p q : PlaceState) (f : Frame) (message : Message) → message_of f ≡ Some message → TakesFrame p f q → TakesMessage p message q
takes_message p q (frames.Spawn from to home number function graph) message e t =
    subst (λ m. TakesMessage p m q) (same_Some t.0 message (sym t.1 ∙ e)) t.2
takes_message p q (frames.Shift from to waiting home number function graph) message e t =
    subst (λ m. TakesMessage p m q) (same_Some t.0 message (sym t.1 ∙ e)) t.2
takes_message p q (frames.Back from to waiting graph) message e t = subst (λ m. TakesMessage p m q) (same_Some t.0 message (sym t.1 ∙ e)) t.2
takes_message p q (frames.Report from to number sent received) message e t = absurd cc

-- ---- a finish that is held has a book at its home

pub held_book : (w : World) (far : Far) (p : PlaceState) (m : machine.Place) (here number : ℕ) → w.net.places here ≡ Some m → p.id ≡ here
    → StandsFor far p m → IsHeld (stays_of w.net) (record { home = here; number = number }) → HasBook (books_of p.books) number
held_book w far p m here number there id-is stands (inl is) =
    let home : here ≡ 0 = ap (λ (f : Finish). f.home) is in
    let zero-is : number ≡ 0 = ap (λ (f : Finish). f.number) is in
    subst (λ n. HasBook (books_of p.books) n) (sym zero-is) (stands.booked.root (id-is ∙ home))
held_book w far p m here number there id-is stands (inr (key, i, s, at, nth-is)) =
    stands.booked.booked key i number s (ap (λ o. stays_in o key) (sym there) ∙ at) nth-is

-- ---- a delivery to one place

module _ (program : Module) (bounds : List ℕ) (places : List PlaceState) (flights : FlightsState) (w : World) (number : ℕ) (flight : Flight)
    (p q : PlaceState) (bounds-are : bounds_of program ≡ Ok bounds)
    (belong : BelongTo program bounds (length places) places) (stand : AllStandFor program bounds places flights w)
    (flies : flight_of flights number ≡ Some flight) (is : slice_get places flight.to ≡ Some p) where
  abbrev here : ℕ
  here = flight.to

  belongs : BelongsTo program bounds (length places) here p
  belongs = belong here p is

  abbrev LeadsOn : Type 0
  LeadsOn = (v : World) × (h : Happens Ideal (setting_in program places) w (Deliver number) v)
      × IsPrompt Ideal (setting_in program places) w (Deliver number) v h
      × AllStandFor program bounds (slice_set places here q) (taken_from flights number) v

  module _ (told : Finish → ℕ → Option Told) (v : World) (m new : machine.Place) (there : w.net.places here ≡ Some m)
      (changed : v.net.places ≡ with_entry w.net.places here (Some new)) (known : IsKnown (far_in w) (far_in v))
      (stands : StandsFor (far_in v) q new) where
    some_after : (id : ℕ) (r : PlaceState) → slice_get (slice_set places here q) id ≡ Some r
        → (o : machine.Place) × (v.net.places id ≡ Some o) × StandsFor (far_in v) r o
    some_after id r e = elim (set_either places here id q r p is e) [
      | inl at ↦ (
        new,
        ap v.net.places at.0 ∙ ap (λ f. f here) changed ∙ at_key w.net.places here (Some new),
        subst (λ t. StandsFor (far_in v) t new) at.1 stands,
      )
      | inr off ↦ let old = stand.some id r off.1 in (
        old.0,
        ap (λ f. f id) changed ∙ off_key w.net.places here id (Some new) off.0 ∙ old.1,
        far_grows (far_in w) (far_in v) r old.0 known old.2,
      )
    ]

    none_after : (id : ℕ) → slice_get (slice_set places here q) id ≡ None → v.net.places id ≡ None
    none_after id e = elim (cases_eq id here) [
      | inl same ↦ absurd (none_some (slice_get (slice_set places here q) id) q e
          (ap (λ i. slice_get (slice_set places here q) i) same ∙ set_here places here q p is))
      | inr ne ↦ ap (λ f. f id) changed ∙ off_key w.net.places here id (Some new) ne ∙ stand.none id (sym (set_off places here id q ne) ∙ e)
    ]

  -- ---- a message

  module _ (h : FliesAsMessage program (length places) w stand.told number flight) (m : machine.Place) (there : w.net.places here ≡ Some m)
      (a : Admits (far_in w) p m h.message q) where
    receives : Receives (setting_in program places) here m h.message a.key a.new
    receives =
        subst (λ g. Receives (record { program = g; places = length places }) here m h.message a.key a.new) belongs.program_is
        (subst (λ n. Receives (record { program = p.program; places = n }) here m h.message a.key a.new) belongs.places_are
        (subst (λ i. Receives (place.setting_of p) i m h.message a.key a.new) belongs.id_is a.receives))

    abbrev after : World
    after = record {
      net = record { places = with_entry w.net.places here (Some a.new); posts = with_entry w.net.posts number Taken; enclosing = w.net.enclosing };
      book = book_with w.book (w.book.carries number) here a.key h.message;
    }

    abbrev delivery : Delivers (setting_in program places) w number after
    delivery = record {
      message = h.message;
      here = here;
      key = a.key;
      old = m;
      new = a.new;
      flying = h.flying;
      place_is = there;
      receives = receives;
      net_is = refl;
      book_is = refl;
    }

    known : IsKnown (far_in w) (far_in after)
    known = far_after w after here m a.new there refl (delivery_exports (setting_in program places) here a.key m a.new h.message receives)

    kept_here : (f : Finish) → f.home ≡ here → kept_at (slice_get (slice_set places here q) f.home) f.number
        ≡ kept_at (slice_get places f.home) f.number
    kept_here f home-is =
        ap (λ i. kept_at (slice_get (slice_set places here q) i) f.number) home-is ∙ ap (λ o. kept_at o f.number) (set_here places here q p is)
        ∙ ap kept_in (a.counted.kept f.number)
        ∙ sym (ap (λ o. kept_at o f.number) (ap (slice_get places) home-is ∙ is))

    delivered : (f : Finish) → IsDelivered here h.message (counts_in places stand.told) (counts_in (slice_set places here q) stand.told) f
    delivered f = record {
      here_is = ap (λ o. totals_at o f) (set_here places here q p is) ∙ a.counted.totals f
          ∙ sym (ap (λ o. totals_after f (totals_at o f) (Took h.message)) is);
      others = λ r ne. ap (λ o. totals_at o f) (set_off places here r q ne);
      kept = elim (cases_eq f.home here) [
        | inl same ↦ kept_here f same
        | inr ne ↦ ap (λ o. kept_at o f.number) (set_off places here f.home q ne)
      ];
      told = refl;
    }

    watched : IsWatched (length places) after (counts_in (slice_set places here q) stand.told)
    watched = deliveries_are_watched (setting_in program places) w after (counts_in places stand.told)
        (counts_in (slice_set places here q) stand.told) number delivery stand.watched (slice_get_within places here p is) delivered

    gone : (message : Message) → after.net.posts number ≡ Flying message → ⊥
    gone message e = (let t : Taken ≡ Flying message = sym (at_key w.net.posts number Taken) ∙ e in absurd cc)

    flies_after : Flies program (length places) (taken_from flights number) after stand.told
    flies_after = flies_fewer program (length places) w after stand.told stand.told known flights number flight flies
        (λ n ne. off_key w.net.posts number n Taken ne) (λ n ne f. refl) gone h.untold stand.flies

    message_leads : LeadsOn
    message_leads = (
      after,
      delivers number after delivery,
      tt,
      record {
        some = some_after stand.told after m a.new there refl known (far_grows (far_in w) (far_in after) q a.new known a.stands);
        none = none_after stand.told after m a.new there refl known (far_grows (far_in w) (far_in after) q a.new known a.stands);
        told = stand.told;
        watched = subst (λ n. IsWatched n after (counts_in (slice_set places here q) stand.told)) (sym (length-set places here q)) watched;
        answered = subst (λ n. AreAnswered (record { program = program; places = n }) after.net) (sym (length-set places here q))
            (answered_after_delivery (setting_in program places) w after number stand.watched.sound stand.answered delivery);
        budget = budget_after_delivery (setting_in program places) bounds w after number bounds-are stand.watched.sound stand.budget delivery;
        flies = subst (λ n. Flies program n (taken_from flights number) after stand.told) (sym (length-set places here q)) flies_after;
      },
    )

  -- ---- a report

  module _ (h : FliesAsReport (length places) w stand.told number flight) (m : machine.Place) (there : w.net.places here ≡ Some m)
      (old : StandsFor (far_in w) p m) (t : TakesReport p here h.report q) where
    abbrev of : Finish
    of = record { home = here; number = h.report.number }

    abbrev told_then : Finish → ℕ → Option Told
    told_then f = if same_finish f of then with_entry (stand.told f) number None else stand.told f

    totals_same : (f : Finish) (r : ℕ) → totals_at (slice_get (slice_set places here q) r) f ≡ totals_at (slice_get places r) f
    totals_same f r = elim (cases_eq r here) [
      | inl same ↦ ap (λ i. totals_at (slice_get (slice_set places here q) i) f) same ∙ ap (λ o. totals_at o f) (set_here places here q p is)
          ∙ ap (λ x. totals_at (Some x) f) t.rest ∙ sym (ap (λ o. totals_at o f) (ap (slice_get places) same ∙ is))
      | inr ne ↦ ap (λ o. totals_at o f) (set_off places here r q ne)
    ]

    kept_with : (o : Option Cut) (n : Option Told) → HasBook (λ k. o) 0 → n ≡ Some (record { place = h.report.place; entry = reported h.report })
        → kept_in (merged_in h.report o) ≡ taken (kept_in o) n
    kept_with o n (cut, e) f =
        ap (λ x. kept_in (merged_in h.report x)) e ∙ sym (ap (λ x. taken (kept_in x) n) e ∙ ap (taken cut) f)

    taken_in : IsHeld (stays_of w.net) of → IsTakenIn number (counts_in places stand.told) (counts_in (slice_set places here q) told_then) of
    taken_in held =
        let book = held_book w (far_in w) p m here h.report.number there belongs.id_is old held in
        record {
          totals = totals_same of;
          kept = ap (λ o. kept_at o h.report.number) (set_here places here q p is) ∙ ap kept_in t.this
              ∙ kept_with (books_of p.books h.report.number) (stand.told of number) book h.told_is
              ∙ sym (ap (λ o. taken (kept_at o h.report.number) (stand.told of number)) is);
          told = due_at (same_finish of of) (with_entry (stand.told of) number None) (stand.told of) (same_self of of refl);
        }

    kept_others : (g : Finish) → same_finish g of ≡ false → kept_at (slice_get (slice_set places here q) g.home) g.number
        ≡ kept_at (slice_get places g.home) g.number
    kept_others g apart = elim (cases_eq g.home here) [
      | inl same ↦
          let ne : g.number ≢ h.report.number = λ e. (let f : true
          ≡ false = sym (same_self g of (λ i. record { home = same i; number = e i })) ∙ apart in absurd cc) in
          ap (λ i. kept_at (slice_get (slice_set places here q) i) g.number) same ∙ ap (λ o. kept_at o g.number) (set_here places here q p is)
          ∙ ap kept_in (t.others g.number ne)
          ∙ sym (ap (λ o. kept_at o g.number) (ap (slice_get places) same ∙ is))
      | inr ne ↦ ap (λ o. kept_at o g.number) (set_off places here g.home q ne)
    ]

    same : (g : Finish) → same_finish g of ≡ false → IsSame (counts_in places stand.told) (counts_in (slice_set places here q) told_then) g
    same g apart = record {
      totals = totals_same g;
      kept = kept_others g apart;
      told = not_due (same_finish g of) (with_entry (stand.told g) number None) (stand.told g) apart;
    }

    watched_too : IsWatched (length places) w (counts_in (slice_set places here q) told_then)
    watched_too = reports_are_watched (length places) w (counts_in places stand.told) (counts_in (slice_set places here q) told_then) of number
        (record { place = h.report.place; entry = reported h.report }) stand.watched h.told_is (record { this = taken_in; others = same })

    none_flying : (message : Message) → w.net.posts number ≡ Flying message → ⊥
    none_flying message e = (let t = sym h.unused ∙ e in absurd cc)

    told_off : (n : ℕ) → n ≢ number → (f : Finish) → told_then f n ≡ stand.told f n
    told_off n ne f = elim (cases_Bool (same_finish f of)) [
      | inl so ↦ ap (λ g. g n) (due_at (same_finish f of) (with_entry (stand.told f) number None) (stand.told f) so)
          ∙ off_key (stand.told f) number n None ne
      | inr not-so ↦ ap (λ g. g n) (not_due (same_finish f of) (with_entry (stand.told f) number None) (stand.told f) not-so)
    ]

    told_none : (f : Finish) → told_then f number ≡ None
    told_none f = elim (cases_Bool (same_finish f of)) [
      | inl so ↦ ap (λ g. g number) (due_at (same_finish f of) (with_entry (stand.told f) number None) (stand.told f) so)
          ∙ at_key (stand.told f) number None
      | inr not-so ↦ ap (λ g. g number) (not_due (same_finish f of) (with_entry (stand.told f) number None) (stand.told f) not-so) ∙ h.others f not-so
    ]

    flies_too : Flies program (length places) (taken_from flights number) w told_then
    flies_too = flies_fewer program (length places) w w stand.told told_then (λ home id class x. x) flights number flight flies
        (λ n ne. refl) told_off none_flying told_none stand.flies

    some_too : (id : ℕ) (r : PlaceState) → slice_get (slice_set places here q) id ≡ Some r
        → (o : machine.Place) × (w.net.places id ≡ Some o) × StandsFor (far_in w) r o
    some_too id r e = elim (set_either places here id q r p is e) [
      | inl at ↦ (m, ap w.net.places at.0 ∙ there, subst (λ x. StandsFor (far_in w) x m) at.1 (report_stands (far_in w) p here h.report q m t old))
      | inr off ↦ stand.some id r off.1
    ]

    none_too : (id : ℕ) → slice_get (slice_set places here q) id ≡ None → w.net.places id ≡ None
    none_too id e = elim (cases_eq id here) [
      | inl at ↦ absurd (none_some (slice_get (slice_set places here q) id) q e
          (ap (λ i. slice_get (slice_set places here q) i) at ∙ set_here places here q p is))
      | inr ne ↦ stand.none id (sym (set_off places here id q ne) ∙ e)
    ]

    report_leads : LeadsOn
    report_leads = (
      w,
      idle (Deliver number) (not_flying number none_flying),
      tt,
      record {
        some = some_too;
        none = none_too;
        told = told_then;
        watched = subst (λ n. IsWatched n w (counts_in (slice_set places here q) told_then)) (sym (length-set places here q)) watched_too;
        answered = subst (λ n. AreAnswered (record { program = program; places = n }) w.net) (sym (length-set places here q)) stand.answered;
        budget = stand.budget;
        flies = subst (λ n. Flies program n (taken_from flights number) w told_then) (sym (length-set places here q)) flies_too;
      },
    )

  -- ---- either

  fits_here : (f : Frame) → FitsFrame Wide (length places) f → FitsFrame Wide p.places f
  fits_here f fits = subst (λ n. FitsFrame Wide n f) (sym belongs.places_are) fits

  admitted : (taken-in : IsTaken p flight.bytes q) (h : FliesAsMessage program (length places) w stand.told number flight) (m : machine.Place)
      → StandsFor (far_in w) p m → Admits (far_in w) p m h.message q
  admitted taken-in h m old =
      let f = h.carries.frame in
      let elsewhere : AreNamedElsewhere (context_of (far_in w) p) (wrong.graph_of h.message) =
      references_on (λ home id class. IsTrue (far_in w home id class)) (λ home id class. (home ≡ p.id → ⊥) → IsTrue (far_in w home id class))
      (λ home id class x n. x) (wrong.graph_of h.message) h.named in
      takes_message p q f h.message h.carries.message_is (taken-in.takes f
      (record { version = Wide; fits = fits_here f h.carries.fits; is = h.carries.spelled })) (far_in w) m old elsewhere

  pub delivery_from : IsTaken p flight.bytes q → FliesAsMessage program (length places) w stand.told number flight
      ⊎ FliesAsReport (length places) w stand.told number flight → LeadsOn
  delivery_from taken-in (inl h) =
      let old = stand.some here p is in
      message_leads h old.0 old.1 (admitted taken-in h old.0 old.2)
  delivery_from taken-in (inr h) =
      let old = stand.some here p is in
      report_leads h old.0 old.1 old.2 (taken-in.takes (report_frame here h.report)
      (record { version = Wide; fits = fits_here (report_frame here h.report) h.carries.fits; is = h.carries.spelled }))

pub delivery_leads : DeliveryLeads
delivery_leads program bounds places flights w number flight p q bounds-are belong stand flies is taken-in =
    delivery_from program bounds places flights w number flight p q bounds-are belong stand flies is taken-in (stand.flies.each number flight flies)
