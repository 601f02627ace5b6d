-- What a place does with bytes: it stands as before, or takes them in and stands for what the machine's place is then.
use Rattle.std.proofs.Common.{◌≡◌, ℕ, Bool, true, false, List, Option, Some, None, Result, Ok, Err, OnOk, OnErr, IfErr, refl, sym, ap, subst, ◌∙◌, inl, inr, arith}
use Rattle.std.proofs.lemmas.Bool.{cases_eq}
use Rattle.slab.specs.Slab.{Slab}
use Rattle.x10_model.specs.Frames as frames
use Rattle.x10_model.specs.declared.version.FrameVersion.TheVariants.{Wide}
use Rattle.x10_model.specs.Frames.{Frame, FitsFrame, IsSpelled}
use Rattle.x10_model.specs.Places as machine
use Rattle.x10_model.specs.Places.{Message, Stay}
use Rattle.x10_model.specs.Totals.{Cut, Report, merged}
use Rattle.x10_model.specs.Wrong as wrong
use Rattle.x10_model.specs.ReadingFrames as reading
use Rattle.x10_model.proofs.FrameLaws.{wider}
use Rattle.x10_frame.specs.declared.fault.FrameFault.{FrameFault}
use Rattle.x10_frame.specs.declared.fault.FrameFault.TheVariants as fault
use Rattle.x10_frame.specs.Faults.{named, IsFault, IsFaultOrMemory}
use Rattle.x10_copy.specs.declared.refusal.Refusal.{Refusal}
use Rattle.x10_copy.specs.declared.refusal.Refusal.TheVariants as refusal
use Rattle.x10_copy.proofs.ArrivedLemmas.{named_anywhere}
use Rattle.x10_verify.specs.Certified.{Certified}
use Rattle.x10_place.specs.Arrivals.{IsUnread, IsTakenFrame}
use Rattle.x10_place.specs.Receiving.{merged_in, TakesMessage, TakesReport, TakesFrame, IsTaken, IsRefusedFrame, IsRefusedBytes, IsOfFrame}
use Rattle.x10_place.specs.Stays.{StayState, StoreState, books_of, HasBook}
use Rattle.x10_place.specs.StandsFor.{Far, PlaceState, place_of, context_of, AreBooked, StandsFor, IsStanding}
use Rattle.x10_place.specs.Stretches.{IsUntouched}

-- ---- a report

-- each book is there still
book_kept : (p : PlaceState) (to : ℕ) (r : Report) (q : PlaceState) → TakesReport p to r q → (n : ℕ) → HasBook (books_of p.books) n
    → HasBook (books_of q.books) n
book_kept p to r q h n has = elim (cases_eq n r.number) [
  | inl e ↦ (merged has.0 r, ap (books_of q.books) e ∙ h.this ∙ ap (merged_in r) (sym (ap (books_of p.books) e) ∙ has.1))
  | inr ne ↦ (has.0, h.others n ne ∙ has.1)
]

was_merged : (r : Report) (o : Option Cut) (cut : Cut) → merged_in r o ≡ Some cut → (c : Cut) × (o ≡ Some c)
was_merged r None cut e = absurd cc
was_merged r (Some c) cut e = (c, refl)

-- and each was there
book_was : (p : PlaceState) (to : ℕ) (r : Report) (q : PlaceState) → TakesReport p to r q → (n : ℕ) → HasBook (books_of q.books) n
    → HasBook (books_of p.books) n
book_was p to r q h n has = elim (cases_eq n r.number) [
  | inl e ↦ was_merged r (books_of p.books n) has.0 (ap (λ k. merged_in r (books_of p.books k)) e ∙ sym h.this ∙ ap (books_of q.books) (sym e)
      ∙ has.1)
  | inr ne ↦ (has.0, sym (h.others n ne) ∙ has.1)
]

booked_still : (p : PlaceState) (to : ℕ) (r : Report) (q : PlaceState) (stays : ℕ → Option Stay) → TakesReport p to r q
    → AreBooked p.id stays p.opened (books_of p.books) → AreBooked p.id stays p.opened (books_of q.books)
booked_still p to r q stays h b = record {
  booked = λ k i n s is f. book_kept p to r q h n (b.booked k i n s is f);
  numbered = b.numbered;
  apart = b.apart;
  unopened = λ n le. h.others n (λ e. absurd (let lt = h.opened in omega (arith, lt, le, e))) ∙ b.unopened n le;
  first = b.first;
  root = λ e. book_kept p to r q h 0 (b.root e);
  only = λ n has. b.only n (book_was p to r q h n has);
}

-- a place that takes a report in stands for the same place of the machine
pub report_stands : (far : Far) (p : PlaceState) (to : ℕ) (r : Report) (q : PlaceState) (m : machine.Place) → TakesReport p to r q → StandsFor far p m
    → StandsFor far q m
report_stands far p to r q m h s = subst (λ (u : PlaceState). StandsFor far u m) (sym h.rest) (record {
  assigned = s.assigned;
  none = s.none;
  keys = s.keys;
  some = s.some;
  site = s.site;
  heap = s.heap;
  exports = s.exports;
  opened = s.opened;
  lines = s.lines;
  tallied = s.tallied;
  booked = booked_still p to r q m.stays h s.booked;
})

-- ---- a frame

abbrev any : Far
any home id class = true

message_standing : (p : PlaceState) (message : Message) (q : PlaceState) → IsStanding p → TakesMessage p message q → IsStanding q
message_standing p message q s takes = let a = takes any s.0 s.1
    (named_anywhere (context_of any p) (wrong.graph_of message) (λ home id class. refl)) in (a.new, a.stands)

pub taken_standing : (p : PlaceState) (f : Frame) (q : PlaceState) → IsStanding p → TakesFrame p f q → IsStanding q
taken_standing p (frames.Spawn from to home number function graph) q s h = message_standing p h.0 q s h.2
taken_standing p (frames.Shift from to waiting home number function graph) q s h = message_standing p h.0 q s h.2
taken_standing p (frames.Back from to waiting graph) q s h = message_standing p h.0 q s h.2
taken_standing p (frames.Report from to number sent received) q s h = (s.0, report_stands any p to _ q s.0 h s.1)

-- ---- bytes

-- a fault that isn't a refusal of memory is one of the bytes
pub fault_told : {Y : Type 0} (f : FrameFault) (read : Result Y reading.FrameFault) → (f ≡ fault.Memory → ⊥) → IsFaultOrMemory (named f) read
    → IsFault (named f) read
fault_told fault.Short read ne h = h
fault_told fault.Version read ne h = h
fault_told fault.FrameType read ne h = h
fault_told fault.Place read ne h = h
fault_told fault.Tag read ne h = h
fault_told fault.Text read ne h = h
fault_told fault.Order read ne h = h
fault_told fault.Trailing read ne h = h
fault_told fault.Memory read ne h = absurd (ne refl)

pub fits_wide : (places : ℕ) (f : Frame) (bytes : List ℕ) → IsSpelled places f bytes → FitsFrame Wide places f
fits_wide places f bytes s = wider s.version places f s.fits

module _ (v : Certified) (old : Slab StayState) (s : StoreState) (bytes : List ℕ) where
  pub taken_bytes : (new : Slab StayState) (t : StoreState) (f : Frame) → IsSpelled s.places f bytes
      → ((g : Frame) → IsSpelled s.places g bytes → f ≡ g) → IsTakenFrame v old s f new t → (stopped : Bool)
      → IsTaken (place_of v old s stopped) bytes (place_of v new t stopped)
  taken_bytes new t f spelled only h stopped = record {
    frame = f;
    spelled = spelled;
    is_open = h.is_open stopped;
    texts = h.texts;
    takes = λ g same. subst (λ q. TakesFrame (place_of v old s stopped) q (place_of v new t stopped)) (only g same) (h.takes stopped);
  }

  refused_as : (f : Frame) (why : Refusal) (stopped : Bool) → ((g : Frame) → IsSpelled s.places g bytes → f ≡ g)
      → IsRefusedFrame (place_of v old s stopped) f why → (g : Frame) → IsSpelled s.places g bytes → IsRefusedFrame (place_of v old s stopped) g why
  refused_as f why stopped only h g same = subst (λ q. IsRefusedFrame (place_of v old s stopped) q why) (only g same) h

  pub refused_bytes : (f : Frame) → ((g : Frame) → IsSpelled s.places g bytes → f ≡ g) → (why : Refusal)
      → ((stopped : Bool) → IsRefusedFrame (place_of v old s stopped) f why) → (stopped : Bool) → IsRefusedBytes (place_of v old s stopped) bytes why
  refused_bytes f only (refusal.Frame fault) h stopped = absurd (h stopped)
  refused_bytes f only refusal.NotHere h stopped = refused_as f refusal.NotHere stopped only (h stopped)
  refused_bytes f only refusal.Function h stopped = refused_as f refusal.Function stopped only (h stopped)
  refused_bytes f only refusal.Kind h stopped = refused_as f refusal.Kind stopped only (h stopped)
  refused_bytes f only refusal.Home h stopped = refused_as f refusal.Home stopped only (h stopped)
  refused_bytes f only refusal.Ref h stopped = refused_as f refusal.Ref stopped only (h stopped)
  refused_bytes f only refusal.Finish h stopped = refused_as f refusal.Finish stopped only (h stopped)
  refused_bytes f only refusal.Segment h stopped = refused_as f refusal.Segment stopped only (h stopped)
  refused_bytes f only refusal.Memory h stopped = refused_as f refusal.Memory stopped only (h stopped)
  refused_bytes f only (refusal.Limit limit) h stopped = refused_as f (refusal.Limit limit) stopped only (h stopped)
  refused_bytes f only refusal.Stopped h stopped = refused_as f refusal.Stopped stopped only (h stopped)

  pub unread_refused : (why : Refusal) → IsUnread s.places bytes why → (stopped : Bool) → IsRefusedBytes (place_of v old s stopped) bytes why
  unread_refused (refusal.Frame fault) h stopped = h
  unread_refused refusal.Memory h stopped = λ g same. tt
  unread_refused _ h stopped = absurd h

  pub unread_none : (why : Refusal) → IsUnread s.places bytes why → IsOfFrame s.places bytes why
  unread_none (refusal.Frame fault) h = tt
  unread_none refusal.Memory h = tt
  unread_none _ h = absurd h

  pub read_first : (f : Frame) → IsSpelled s.places f bytes → (why : Refusal) → IsOfFrame s.places bytes why
  read_first f h (refusal.Frame fault) = tt
  read_first f h refusal.Memory = tt
  read_first f h refusal.NotHere = (f, h)
  read_first f h refusal.Function = (f, h)
  read_first f h refusal.Kind = (f, h)
  read_first f h refusal.Home = (f, h)
  read_first f h refusal.Ref = (f, h)
  read_first f h refusal.Finish = (f, h)
  read_first f h refusal.Segment = (f, h)
  read_first f h (refusal.Limit limit) = (f, h)
  read_first f h refusal.Stopped = (f, h)

  pub read_before : {T : Type 0} (f : Frame) → IsSpelled s.places f bytes → (r : Result T Refusal) → IfErr r (IsOfFrame s.places bytes)
  read_before f h (Ok x) = tt
  read_before f h (Err why) = read_first f h why

  -- a place where nothing has changed stands as it did
  pub untouched_standing : (new : Slab StayState) (t : StoreState) → IsStanding (place_of v old s false) → IsUntouched old s new t
      → IsStanding (place_of v new t false)
  untouched_standing new t standing same =
      subst (λ (slab : Slab StayState). IsStanding (record (place_of v new t false) { stays = slab })) (sym same.stays)
      (subst (λ u. IsStanding (place_of v old u false)) (sym same.store) standing)

  pub standing_after : {A : Type 0} (new : Slab StayState) (t : StoreState) (f : Frame) (r : Result A Refusal) → IsStanding (place_of v old s false)
      → OnOk r (IsTakenFrame v old s f new t) → OnErr r (IsUntouched old s new t) → IsStanding (place_of v new t false)
  standing_after new t f (Ok x) standing h same = taken_standing (place_of v old s false) f (place_of v new t false) standing (h.takes false)
  standing_after new t f (Err why) standing h same = untouched_standing new t standing same

  pub here_after : {A : Type 0} (new : Slab StayState) (t : StoreState) (f : Frame) (r : Result A Refusal) → OnOk r (IsTakenFrame v old s f new t)
      → OnErr r (IsUntouched old s new t) → (t.here ≡ s.here) × (t.places ≡ s.places)
  here_after new t f (Ok x) h same = (h.here, h.places)
  here_after new t f (Err why) h same = (ap (λ (u : StoreState). u.here) same.store, ap (λ (u : StoreState). u.places) same.store)
