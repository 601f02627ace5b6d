-- A frame in flight is refused only where memory is refused, or at a limit: it is one of its receiver's, and all that it
-- names is there.
use Rattle.std.proofs.Common.{◌≡◌, ◌⊎◌, ℕ, ◌<◌, ◌≤◌, ◌^◌, List, length, Option, Some, None, Ok, refl, sym, ap, subst, ◌∙◌, inl, inr, arith}
use Rattle.std.specs.Prelude.{slice_get}
use Rattle.std.proofs.lemmas.Option.{same_Some}
use Rattle.x10_kinds.specs.declared.limit.Limit.{Limit}
use Rattle.x10_model.specs.declared.slot.Slot.{Slot}
use Rattle.x10_model.specs.Modules.{Module}
use Rattle.x10_model.specs.Places as machine
use Rattle.x10_model.specs.declared.finish.Finish.{Finish}
use Rattle.x10_model.specs.Places.{Message, receiver}
use Rattle.x10_model.specs.Frames as frames
use Rattle.x10_model.specs.declared.version.FrameVersion.TheVariants.{Wide}
use Rattle.x10_model.specs.Frames.{Frame, Graph, FitsFrame, IsSpelled, to_of}
use Rattle.x10_model.specs.ReadingFrames as reading
use Rattle.x10_model.specs.ReadingFrames.{frame_at}
use Rattle.x10_model.specs.Marshalling.{snapshot_of, message_of}
use Rattle.x10_model.specs.Deliveries.{FitsClasses}
use Rattle.x10_model.specs.Worlds.{World}
use Rattle.x10_model.specs.Wrong as wrong
use Rattle.x10_model.proofs.FrameLaws.{frame_again}
use Rattle.x10_model.proofs.Lists.{none_some}
use Rattle.x10_frame.specs.Heads.{graph_of}
use Rattle.x10_frame.specs.Faults.{named, IsFault}
use Rattle.x10_heap.specs.Heaps.{HeapState}
use Rattle.x10_copy.specs.declared.refusal.Refusal.{Refusal}
use Rattle.x10_copy.specs.declared.refusal.Refusal.TheVariants as refusal
use Rattle.x10_copy.specs.Arrived.{FitsArrival, PassesLimit}
use Rattle.x10_copy.proofs.Lawful.{fitting_is_taken}
use Rattle.x10_finish.specs.Nesting.{stays_of, opened_in, IsHeld}
use Rattle.x10_place.specs.Messages.{report_frame}
use Rattle.x10_place.specs.Stays.{HasBook, books_of}
use Rattle.x10_place.specs.StandsFor.{PlaceState, setting_of, StandsFor}
use Rattle.x10_place.specs.Receiving.{Seat, IsSeat, LacksSeat, IsShut, IsUnopened, OverfillsArrival, IsRefusedFrame, IsRefusedBytes}
use Rattle.x10_place.specs.Sending.{slots_of}
use Rattle.x10_flights.specs.Flights.{Flight, FlightsState}
use Rattle.x10_world.specs.Links.{AreAnswered}
use Rattle.x10_world.specs.StandsForWorld.{BelongsTo, BelongTo, far_in, FliesAsMessage, FliesAsReport, AllStandFor, IsDeliveryLimit, IsWantOfRoom, NoneIsRefused}
use Rattle.x10_world.proofs.DeliveryLemmas.{held_book}
use Rattle.x10_world.proofs.MessageFits.{IsFor, spawn_fits, shift_fits, awaited, back_fits}

-- ---- limits

passes_limit : (h : HeapState) (g : Graph) (limit : Limit) → PassesLimit h g limit → IsDeliveryLimit limit
passes_limit h g limit (inl l) = inl l.0
passes_limit h g limit (inr (inl l)) = inr (inl l.0)
passes_limit h g limit (inr (inr l)) = inr (inr (inl l.0))

overfills_limit : (p : PlaceState) (f : Frame) (limit : Limit) → OverfillsArrival p f limit → IsDeliveryLimit limit
overfills_limit p (frames.Spawn from to home number function g) limit (inl h) = passes_limit p.heap g limit h
overfills_limit p (frames.Spawn from to home number function g) limit (inr (inl h)) = inr (inr (inr (inr h.0)))
overfills_limit p (frames.Spawn from to home number function g) limit (inr (inr h)) = inr (inr (inr (inl h.0)))
overfills_limit p (frames.Shift from to waiting home number function g) limit (inl h) = passes_limit p.heap g limit h
overfills_limit p (frames.Shift from to waiting home number function g) limit (inr (inl h)) = inr (inr (inr (inr h.0)))
overfills_limit p (frames.Shift from to waiting home number function g) limit (inr (inr h)) = inr (inr (inr (inl h.0)))
overfills_limit p (frames.Back from to waiting g) limit h = passes_limit p.heap g limit h
overfills_limit p (frames.Report from to number sent received) limit h = absurd h

-- ---- a frame of which nothing is wrong

-- it is for the place, its seat is there, what it brings fits each seat that it may have, and its finish is open
record IsRight (p : PlaceState) (f : Frame) : Type 0 where
  to_is : to_of f ≡ p.id
  seated : (why : Refusal) → LacksSeat p f why → ⊥
  fits : (seat : Seat) → IsSeat p f seat → FitsArrival p.program p.id seat.home p.heap seat.slots (snapshot_of (graph_of f))
  not_shut : IsShut p f → ⊥
  not_unopened : IsUnopened p f → ⊥

right_for_room : (p : PlaceState) (f : Frame) → IsRight p f → (why : Refusal) → IsRefusedFrame p f why → IsWantOfRoom why
right_for_room p f r refusal.NotHere h = absurd (h r.to_is)
right_for_room p f r refusal.Function h = absurd (r.seated refusal.Function h.1)
right_for_room p f r refusal.Segment h = absurd (r.seated refusal.Segment h.1)
right_for_room p f r refusal.Kind h = absurd (fitting_is_taken p.program p.id h.seat.home p.heap h.seat.slots (graph_of f) refusal.Kind
    (r.fits h.seat h.seat_is) h.misfit)
right_for_room p f r refusal.Home h = absurd (fitting_is_taken p.program p.id h.seat.home p.heap h.seat.slots (graph_of f) refusal.Home
    (r.fits h.seat h.seat_is) h.misfit)
right_for_room p f r refusal.Ref h = absurd (fitting_is_taken p.program p.id h.seat.home p.heap h.seat.slots (graph_of f) refusal.Ref
    (r.fits h.seat h.seat_is) h.misfit)
right_for_room p f r refusal.Finish (inl h) = absurd (r.not_shut h.1)
right_for_room p f r refusal.Finish (inr h) = absurd (r.not_unopened h)
right_for_room p f r (refusal.Limit limit) h = inr (limit, refl, overfills_limit p f limit h.2)
right_for_room p f r refusal.Memory h = inl refl
right_for_room p f r refusal.Stopped h = absurd h
right_for_room p f r (refusal.Frame fault) h = absurd h

no_fault : {Y : Type 0} (o : Option reading.FrameFault) (read : _) (y : Y) → read ≡ Ok y → IsFault o read → ⊥
no_fault None read y e h = h
no_fault (Some f) read y e h = (let x = sym e ∙ h in absurd cc)

bytes_for_room : (p : PlaceState) (bytes : List ℕ) (f : Frame) → p.places < 2 ^ 16 → IsSpelled p.places f bytes → IsRight p f → (why : Refusal)
    → IsRefusedBytes p bytes why → IsWantOfRoom why
bytes_for_room p bytes f few spelled r (refusal.Frame fault) h =
    absurd (no_fault (named fault) (frame_at p.places bytes) f
    (ap (frame_at p.places) spelled.is ∙ frame_again spelled.version p.places few f spelled.fits) h)
bytes_for_room p bytes f few spelled r refusal.NotHere h = right_for_room p f r refusal.NotHere (h f spelled)
bytes_for_room p bytes f few spelled r refusal.Function h = right_for_room p f r refusal.Function (h f spelled)
bytes_for_room p bytes f few spelled r refusal.Segment h = right_for_room p f r refusal.Segment (h f spelled)
bytes_for_room p bytes f few spelled r refusal.Kind h = right_for_room p f r refusal.Kind (h f spelled)
bytes_for_room p bytes f few spelled r refusal.Home h = right_for_room p f r refusal.Home (h f spelled)
bytes_for_room p bytes f few spelled r refusal.Ref h = right_for_room p f r refusal.Ref (h f spelled)
bytes_for_room p bytes f few spelled r refusal.Finish h = right_for_room p f r refusal.Finish (h f spelled)
bytes_for_room p bytes f few spelled r (refusal.Limit limit) h = right_for_room p f r (refusal.Limit limit) (h f spelled)
bytes_for_room p bytes f few spelled r refusal.Memory h = right_for_room p f r refusal.Memory (h f spelled)
bytes_for_room p bytes f few spelled r refusal.Stopped h = right_for_room p f r refusal.Stopped (h f spelled)

-- ---- nothing is wrong of a message that flies

module _ (w : World) (p : PlaceState) (m : machine.Place) (there : w.net.places p.id ≡ Some m) (old : StandsFor (far_in w) p m) where
  open_here : (home number : ℕ) → IsHeld (stays_of w.net) (record { home = home; number = number }) → home ≡ p.id
      → (HasBook (books_of p.books) number → ⊥) → ⊥
  open_here home number held e shut = shut (held_book w (far_in w) p m p.id number there refl old
      (subst (λ h. IsHeld (stays_of w.net) (record { home = h; number = number })) e held))

  abbrev seat_at : ℕ → List Slot → Seat
  seat_at home slots = record { home = home; slots = slots }

  message_right : (f : Frame) (message : Message) → message_of f ≡ Some message → IsFor w p message → IsRight p f
  message_right (frames.Spawn from to home number function g) message e i =
      let under : Finish = record { home = home; number = number } in
      let h = subst (IsFor w p) (sym (same_Some (machine.Spawn from to under function (snapshot_of g)) message e)) i in
      record {
        to_is = h.to_is;
        seated = λ why lacks. lacks.1 (seat_at p.id h.fits.0.parameters) (h.fits.0, h.fits.1.callee_is, h.fits.2, refl);
        fits = λ seat s. subst (λ t. FitsArrival p.program p.id t.home p.heap t.slots (snapshot_of g)) (sym s.3)
            (spawn_fits w p m there old from to function under (snapshot_of g) s.0 h s.1);
        not_shut = λ s. open_here home number (h.held under refl) s.0 s.1;
        not_unopened = λ u. u;
      }
  message_right (frames.Shift from to waiting home number function g) message e i =
      let under : Finish = record { home = home; number = number } in
      let h = subst (IsFor w p) (sym (same_Some (machine.Shift from to waiting under function (snapshot_of g)) message e)) i in
      record {
        to_is = h.to_is;
        seated = λ why lacks. lacks.1 (seat_at p.id h.fits.0.parameters) (h.fits.0, h.fits.1.callee_is, refl);
        fits = λ seat s. subst (λ t. FitsArrival p.program p.id t.home p.heap t.slots (snapshot_of g)) (sym s.2)
            (shift_fits w p m there old from to waiting function under (snapshot_of g) s.0 h s.1);
        not_shut = λ s. open_here home number (h.held under refl) s.0 s.1;
        not_unopened = λ u. u;
      }
  message_right (frames.Back from to waiting g) message e i =
      let h = subst (IsFor w p) (sym (same_Some (machine.Back from to waiting (snapshot_of g)) message e)) i in
      record {
        to_is = h.to_is;
        seated = λ why lacks. lacks.1 (seat_at from (slots_of h.fits.1.result))
            (slots_of h.fits.1.result, awaited w p m there old from to waiting (snapshot_of g) h, refl);
        fits = λ seat s. subst (λ t. FitsArrival p.program p.id t.home p.heap t.slots (snapshot_of g)) (sym s.2)
            (back_fits w p m there old from to waiting (snapshot_of g) h s.0 s.1);
        not_shut = λ s. s;
        not_unopened = λ u. u;
      }
  message_right (frames.Report from to number sent received) message e i = absurd cc

-- ---- in a world

module _ (program : Module) (bounds : List ℕ) (places : List PlaceState) (flights : FlightsState) (w : World) (number : ℕ) (flight : Flight)
    (p : PlaceState) (belong : BelongTo program bounds (length places) places)
    (stand : AllStandFor program bounds places flights w) (is : slice_get places flight.to ≡ Some p) where
  belongs : BelongsTo program bounds (length places) flight.to p
  belongs = belong flight.to p is

  answered : AreAnswered (setting_of p) w.net
  answered =
      subst (λ g. AreAnswered (record { program = g; places = p.places }) w.net) (sym belongs.program_is)
      (subst (λ n. AreAnswered (record { program = program; places = n }) w.net) (sym belongs.places_are) stand.answered)

  is_for : (h : FliesAsMessage program (length places) w stand.told number flight) → IsFor w p h.message
  is_for h = record {
    to_is = sym h.to_is ∙ sym belongs.id_is;
    classes = subst (λ g. FitsClasses g (wrong.graph_of h.message)) (sym belongs.program_is) h.carries.classes;
    named = h.named;
    fits = answered.posts number h.message h.flying;
    held = λ f under. stand.watched.sound.nested.carried number h.message f h.flying under;
  }

  -- its frame fits the place's run
  fits_here : (f : Frame) → FitsFrame Wide (length places) f → FitsFrame Wide p.places f
  fits_here f fits = subst (λ n. FitsFrame Wide n f) (sym belongs.places_are) fits

  report_right : (h : FliesAsReport (length places) w stand.told number flight) (m : machine.Place) → w.net.places flight.to ≡ Some m
      → StandsFor (far_in w) p m → IsRight p (report_frame flight.to h.report)
  report_right h m there old = record {
    to_is = sym belongs.id_is;
    seated = λ why lacks. lacks;
    fits = λ seat s. absurd s;
    not_shut = λ s. s;
    not_unopened = λ u.
        let opened : opened_in (w.net.places flight.to) ≤ h.report.number =
        subst (λ o. opened_in o ≤ h.report.number) (sym there) (subst (λ n. n ≤ h.report.number) (sym old.opened) u.1) in
        let none = (stand.watched.fresh (record { home = flight.to; number = h.report.number }) opened).told number in
        none_some (stand.told (record { home = flight.to; number = h.report.number }) number) _ none h.told_is;
  }

  few : (m : machine.Place) → StandsFor (far_in w) p m → p.places < 2 ^ 16
  few m old = omega (arith, old.site.few)

  pub refused_from : FliesAsMessage program (length places) w stand.told number flight ⊎ FliesAsReport (length places) w stand.told number flight
      → (why : Refusal) → IsRefusedBytes p flight.bytes why → IsWantOfRoom why
  refused_from (inl h) why refused =
      let old = stand.some flight.to p is in
      let there : w.net.places p.id ≡ Some old.0 = ap w.net.places belongs.id_is ∙ old.1 in
      bytes_for_room p flight.bytes h.carries.frame (few old.0 old.2)
      (record { version = Wide; fits = fits_here h.carries.frame h.carries.fits; is = h.carries.spelled })
      (message_right w p old.0 there old.2 h.carries.frame h.message h.carries.message_is (is_for h)) why refused
  refused_from (inr h) why refused =
      let old = stand.some flight.to p is in
      bytes_for_room p flight.bytes (report_frame flight.to h.report) (few old.0 old.2)
      (record { version = Wide; fits = fits_here (report_frame flight.to h.report) h.carries.fits; is = h.carries.spelled })
      (report_right h old.0 old.1 old.2) why refused

pub none_is_refused : NoneIsRefused
none_is_refused program bounds places flights w number flight p why belong stand flies is refused =
    refused_from program bounds places flights w number flight p belong stand is (stand.flies.each number flight flies) why refused
