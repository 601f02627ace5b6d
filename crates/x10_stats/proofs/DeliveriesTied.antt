-- A tally and the machine's book stay tied where a frame is taken in.
use Rattle.std.proofs.Common.{◌≡◌, ◌≢◌, ℕ, ◌+◌, ◌<◌, ◌≤◌, ◌^◌, List, [], ◌++◌, length, Option, None, Some, refl, sym, ap, subst, ◌∙◌, inl, inr, arith, append-nil}
use Rattle.std.specs.Prelude.{IsTrue, slice_get, slice_set}
use Rattle.std.proofs.lemmas.Bool.{cases_eq}
use Rattle.std.proofs.lemmas.Option.{slice_get_within}
use Rattle.x10_model.specs.declared.version.FrameVersion.TheVariants.{Wide}
use Rattle.x10_model.specs.Maps.{with_entry}
use Rattle.x10_model.specs.Copies.{Snapshot}
use Rattle.x10_model.specs.Frames as frames
use Rattle.x10_model.specs.Frames.{Frame, FitsFrame}
use Rattle.x10_model.specs.Marshalling.{message_of}
use Rattle.x10_model.specs.Places as machine
use Rattle.x10_model.specs.declared.finish.Finish.{Finish}
use Rattle.x10_model.specs.Places.{Setting, Origin, Stay, Message, Spawn, Shift, Back, receiver}
use Rattle.x10_model.specs.Deliveries.{Begins, Receives}
use Rattle.x10_model.specs.Moves.{new_stay}
use Rattle.x10_model.specs.Worlds.{Flying, Taken, World, Net, Book, Delivers, book_with}
use Rattle.x10_model.specs.Wrong as wrong
use Rattle.x10_model.proofs.Events.{flying_is}
use Rattle.x10_model.proofs.Lists.{none_some, same_some}
use Rattle.x10_model.proofs.Maps.{at_key, off_key}
use Rattle.x10_copy.specs.References.{AreNamedElsewhere}
use Rattle.x10_finish.specs.Nesting.{stays_in, stays_of}
use Rattle.x10_place.specs.Receiving.{Admits, TakesFrame, TakesMessage}
use Rattle.x10_place.specs.Stays.{StayState}
use Rattle.x10_place.specs.StandsFor.{PlaceState, StandsFor, context_of, setting_of}
use Rattle.x10_world.specs.Happenings.{HasTaken}
use Rattle.x10_world.specs.StandsForWorld.{BelongsTo, WorldState, FliesAsMessage, FliesAsReport, StandsForWorld, far_in, setting_of_world}
use Rattle.x10_world.proofs.FlightLemmas.{references_on}
use Rattle.x10_world.proofs.Lists.{set_here}
use Rattle.x10_stats.specs.Entries.{Entry, entries_with}
use Rattle.x10_stats.specs.Tallies.{IsSeen, TallyState, activity_at, as_pair, begun_by, begun_from, next_one, stay_at, taken_over, vacant_at, vacant_in, with_rooms}
use Rattle.x10_stats.proofs.Slots.{slot_has_room}
use Rattle.x10_stats.proofs.StaysSeen.{IsSameStay, none_as, seen_as, unseen_as}
use Rattle.x10_stats.proofs.StepsSeen.{kept_of, stands_at}
use Rattle.x10_stats.proofs.StepsTied.{HaveRoom}
use Rattle.x10_stats.proofs.Tied.{Grows, HasAt, IsTied, grows_rooms, grows_set, next_after, tied_later, tied_rooms}
use Rattle.x10_stats.proofs.TiedDeliveries.{tied_entered, tied_result, tied_shifted}

-- ---- what a frame brings

takes_message : (p q : PlaceState) (f : Frame) (message : Message) → message_of f ≡ Some message → TakesFrame p f q → TakesMessage p message q
takes_message p q (frames.Spawn from to home number function graph) message e t =
    subst (λ m. TakesMessage p m q) (same_some (message_of (frames.Spawn from to home number function graph)) t.0 message t.1 e) t.2
takes_message p q (frames.Shift from to waiting home number function graph) message e t =
    subst (λ m. TakesMessage p m q) (same_some (message_of (frames.Shift from to waiting home number function graph)) t.0 message t.1 e) t.2
takes_message p q (frames.Back from to waiting graph) message e t =
    subst (λ m. TakesMessage p m q) (same_some (message_of (frames.Back from to waiting graph)) t.0 message t.1 e) t.2
takes_message p q (frames.Report from to number sent received) message e t = absurd cc

-- the place that takes a message in is its receiver
pub receiver_is : (setting : Setting) (here key : ℕ) (old new : machine.Place) (message : Message) → Receives setting here old message key new
    → receiver message ≡ here
receiver_is setting here key old new (Spawn from to under function graph) r = r.0
receiver_is setting here key old new (Shift from to waiting under function graph) r = r.0
receiver_is setting here key old new (Back from to waiting graph) r = r.0

module _ (made : ℕ) (x y : WorldState) (u v : World) (entries : List Entry) (t : TallyState) (number to : ℕ)
    (tied : IsTied made (length x.places) u.net.posts u.book entries t) (rooms : HaveRoom u.net t) (stand : StandsForWorld x u)
    (then : StandsForWorld y v) (little : made + 2 < 2 ^ 64) (d : HasTaken x.places x.flights number to y.places y.flights)
    (l : Delivers (setting_of_world x) u number v) (seen : IsSeen x l.here) (to_here : to ≡ l.here) where
  abbrev here : ℕ
  here = l.here

  abbrev a : ℕ
  a = u.book.carries number

  abbrev vacant : ℕ
  vacant = vacant_at x here

  abbrev at : TallyState
  at = with_rooms t here vacant

  -- what is counted after it
  abbrev told : TallyState
  told = begun_by at here vacant (stay_at y here vacant)

  tied_at : IsTied (made + 1) (length x.places) u.net.posts u.book entries at
  tied_at = tied_later made (length x.places) u.net.posts u.book entries at
      (tied_rooms made (length x.places) u.net.posts u.book entries t here vacant tied)

  rooms_at : HaveRoom u.net at
  rooms_at p k z is = grows_rooms t here vacant p k (rooms p k z is)

  place_there : slice_get x.places here ≡ Some d.place
  place_there = subst (λ i. slice_get x.places i ≡ Some d.place) to_here d.is_there

  belongs : BelongsTo x.program x.bounds (length x.places) here d.place
  belongs = seen.belongs d.place place_there

  new_place : v.net.places here ≡ Some l.new
  new_place = ap (λ (n : Net). n.places here) l.net_is ∙ at_key u.net.places here (Some l.new)

  next_there : slice_get y.places here ≡ Some d.next
  next_there = ap (λ ps. slice_get ps here) d.places_are ∙ ap (λ i. slice_get (slice_set x.places i d.next) here) to_here
      ∙ set_here x.places here d.next d.place place_there

  next_stands : StandsFor (far_in v) d.next l.new
  next_stands = stands_at y v here d.next l.new then next_there new_place

  -- ---- what the place says of the message

  admits : FliesAsMessage x.program (length x.places) u stand.told number d.flight → Admits (far_in u) d.place l.old l.message d.next
  admits h =
      let same : h.message ≡ l.message = flying_is h.message l.message (sym h.flying ∙ l.flying) in
      let elsewhere : AreNamedElsewhere (context_of (far_in u) d.place) (wrong.graph_of h.message) =
      references_on (λ home id class. IsTrue (far_in u home id class)) (λ home id class. (home ≡ d.place.id → ⊥) → IsTrue (far_in u home id class))
      (λ home id class is n. is) (wrong.graph_of h.message) h.named in
      let f = h.carries.frame in
      let fits : FitsFrame Wide d.place.places f = subst (λ n. FitsFrame Wide n f) (sym belongs.places_are) h.carries.fits in
      subst (λ m. Admits (far_in u) d.place l.old m d.next) same
      (takes_message d.place d.next f h.message h.carries.message_is (d.taken.takes f (record { version = Wide; fits = fits; is = h.carries.spelled }))
      (far_in u) l.old (stands_at x u here d.place l.old stand place_there l.place_is) elsewhere)

  no_report : FliesAsReport (length x.places) u stand.told number d.flight → ⊥
  no_report h = (let e = sym h.unused ∙ l.flying in absurd cc)

  admitted : Admits (far_in u) d.place l.old l.message d.next
  admitted = elim (stand.flies.each number d.flight d.flying) [ inl h ↦ admits h | inr h ↦ absurd (no_report h) ]

  -- ---- what is there then

  at_new : (k : ℕ) → stays_of v.net here k ≡ l.new.stays k
  at_new k = ap (λ o. stays_in o k) new_place

  free : l.old.stays vacant ≡ None
  free = sym (ap (λ o. stays_in o vacant) l.place_is) ∙ none_as x u stand here vacant seen.vacant

  -- the stay with the key is another or new, and there is room for it
  record Told (message : Message) : Type 0 where
    tied_told : IsTied (made + 1) (length x.places) (with_entry u.net.posts number Taken) (book_with u.book a here l.key message)
        (entries ++ entries_with a here message) told
    grows : Grows at told
    stay : Option Stay
    stays_are : l.new.stays ≡ with_entry l.old.stays l.key stay
    room : HasAt told here l.key

  -- ---- a stay begins

  module _ (function : ℕ) (under : Finish) (graph : Snapshot) (back : Option Origin)
      (b : Begins (setting_of_world x) here l.old function graph under back l.key l.new)
      (setting : Setting) (there : ℕ) (key : ℕ) (new : machine.Place) (c : Begins setting there l.old function graph under back key new)
      (stands : StandsFor (far_in u) d.next new) (key_is : key ≡ d.place.stays.vacant_key) where
    abbrev begun : Stay
    begun = new_stay function b.arguments under back

    stays_new : l.new.stays ≡ with_entry l.old.stays l.key (Some begun)
    stays_new = ap (λ (p : machine.Place). p.stays) b.new_is

    stay_new : l.new.stays l.key ≡ Some begun
    stay_new = ap (λ (f : ℕ → Option Stay). f l.key) stays_new ∙ at_key l.old.stays l.key (Some begun)

    its_key : l.key ≡ key
    its_key = elim (cases_eq l.key key) [
      | inl same ↦ same
      | inr apart ↦
          let q = kept_of (far_in v) d.next l.new l.key begun next_stands stay_new in
          let z = stands.some l.key q.0 q.1 in
          absurd (none_some (new.stays l.key) z.0
          (ap (λ (p : machine.Place). p.stays l.key) c.new_is ∙ off_key l.old.stays key l.key (Some (new_stay function c.arguments under back)) apart ∙ b.free) z.1)
    ]

    key_vacant : l.key ≡ vacant
    key_vacant = its_key ∙ key_is ∙ sym (ap vacant_in place_there)

    found : (q : StayState) × (stay_at y here l.key ≡ Some q) × IsSameStay q begun l.key
    found = seen_as y v then here l.key begun (at_new l.key ∙ stay_new)

    told_is : told ≡ begun_from at here l.key function (as_pair back)
    told_is =
        let q = found in
        (λ i. begun_by at here (sym key_vacant i) (stay_at y here (sym key_vacant i)))
        ∙ ap (begun_by at here l.key) q.1 ∙ (λ i. begun_from at here l.key (sym q.2.function_is i) (as_pair (sym q.2.back_is i)))

    here_below : here < length t.rows
    here_below =
        let lt = slice_get_within x.places here d.place place_there in
        let rows = tied.rows in
        omega (arith, lt, rows)

    room_there : HasAt at here l.key
    room_there = subst (HasAt at here) (sym key_vacant) (slot_has_room t.rows here vacant here_below
        (let few : vacant < 2 ^ 32 = subst (λ k. k < 2 ^ 32) key_vacant found.2.few in omega (arith, few)))

    unheld : stays_of u.net here l.key ≡ None
    unheld = ap (λ o. stays_in o l.key) l.place_is ∙ b.free

  -- no entry is added
  no_more : (book : Book) (z : TallyState) → told ≡ z → IsTied (made + 1) (length x.places) (with_entry u.net.posts number Taken) book entries z
      → IsTied (made + 1) (length x.places) (with_entry u.net.posts number Taken) book (entries ++ []) told
  no_more book z same h = subst (IsTied (made + 1) (length x.places) (with_entry u.net.posts number Taken) book (entries ++ [])) (sym same)
      (subst (λ es. IsTied (made + 1) (length x.places) (with_entry u.net.posts number Taken) book es z) (sym (append-nil entries)) h)

  short : length entries ≤ made + 1
  short = tied.short

  spawned : (from there : ℕ) (under : Finish) (function : ℕ) (graph : Snapshot) → l.message ≡ Spawn from there under function graph
      → Told (Spawn from there under function graph)
  spawned from there under function graph is =
      let r = subst (λ m. Receives (setting_of_world x) here l.old m l.key l.new) is l.receives in
      let m = subst (λ m. Admits (far_in u) d.place l.old m d.next) is admitted in
      let same = told_is function under graph None r.1 (setting_of d.place) d.place.id m.key m.new m.receives.1 m.stands m.vacant in
      let room = room_there function under graph None r.1 (setting_of d.place) d.place.id m.key m.new m.receives.1 m.stands m.vacant in
      let next = next_after t here vacant (let count = tied.tally.next in let few = short in omega (arith, count, few, little)) in
      let grows : Grows at told = subst (Grows at) (sym same) (λ p k has. grows_set at here l.key (next_one at here function) room p k has) in
      record {
        tied_told = subst (IsTied (made + 1) (length x.places) _ _ _) (sym same)
            (tied_entered (made + 1) (length x.places) u.net u.book entries at number tied_at stand.watched.sound short (omega (arith, little)) here l.key
            (unheld function under graph None r.1 (setting_of d.place) d.place.id m.key m.new m.receives.1 m.stands m.vacant) room from there under function
            graph next (l.flying ∙ ap Flying is));
        grows = grows;
        stay = Some (new_stay function r.1.arguments under None);
        stays_are = ap (λ (p : machine.Place). p.stays) r.1.new_is;
        room = grows here l.key room;
      }

  shifted : (from there waiting : ℕ) (under : Finish) (function : ℕ) (graph : Snapshot) → l.message ≡ Shift from there waiting under function graph
      → Told (Shift from there waiting under function graph)
  shifted from there waiting under function graph is =
      let back : Option Origin = Some (record { place = from; key = waiting }) in
      let r = subst (λ m. Receives (setting_of_world x) here l.old m l.key l.new) is l.receives in
      let m = subst (λ m. Admits (far_in u) d.place l.old m d.next) is admitted in
      let same = told_is function under graph back r.1 (setting_of d.place) d.place.id m.key m.new m.receives.1 m.stands m.vacant in
      let room = room_there function under graph back r.1 (setting_of d.place) d.place.id m.key m.new m.receives.1 m.stands m.vacant in
      let grows : Grows at told = subst (Grows at) (sym same) (λ p k has. grows_set at here l.key (activity_at at from waiting) room p k has) in
      record {
        tied_told = no_more _ (taken_over at here l.key from waiting) same
            (tied_shifted (made + 1) (length x.places) u.net u.book entries at number tied_at stand.watched.sound short (omega (arith, little)) here l.key
            (unheld function under graph back r.1 (setting_of d.place) d.place.id m.key m.new m.receives.1 m.stands m.vacant) room from there waiting under
            function graph (l.flying ∙ ap Flying is));
        grows = grows;
        stay = Some (new_stay function r.1.arguments under back);
        stays_are = ap (λ (p : machine.Place). p.stays) r.1.new_is;
        room = grows here l.key room;
      }

  -- ---- a stay goes on

  resumed : (from there waiting : ℕ) (graph : Snapshot) → l.message ≡ Back from there waiting graph → Told (Back from there waiting graph)
  resumed from there waiting graph is =
      let r = subst (λ m. Receives (setting_of_world x) here l.old m l.key l.new) is l.receives in
      let was = r.2.waits.is_there in
      let stays_are : l.new.stays ≡ with_entry l.old.stays l.key _ = ap (λ (p : machine.Place). p.stays) r.2.new_is in
      let apart : vacant ≢ l.key = λ same. none_some (l.old.stays vacant) r.2.stay free (ap l.old.stays same ∙ was) in
      let none : stay_at y here vacant ≡ None = unseen_as y v then here vacant (at_new vacant ∙ ap (λ (f : ℕ → Option Stay). f vacant) stays_are
      ∙ off_key l.old.stays l.key vacant _ apart ∙ free) in
      let same : told ≡ at = ap (begun_by at here vacant) none in
      record {
        tied_told = no_more _ at same
            (tied_result (made + 1) (length x.places) u.net u.book entries at number tied_at stand.watched.sound short (omega (arith, little)) from there
            waiting graph (l.flying ∙ ap Flying is));
        grows = subst (Grows at) (sym same) (λ p k has. has);
        stay = _;
        stays_are = stays_are;
        room = subst (λ z. HasAt z here l.key) (sym same) (rooms_at here l.key r.2.stay (ap (λ o. stays_in o l.key) l.place_is ∙ was));
      }

  -- ---- any of them

  any : (m : Message) → l.message ≡ m → Told m
  any (Spawn from there under function graph) is = spawned from there under function graph is
  any (Shift from there waiting under function graph) is = shifted from there waiting under function graph is
  any (Back from there waiting graph) is = resumed from there waiting graph is

  pub tied_delivery : IsTied (made + 1) (length x.places) v.net.posts v.book (entries ++ entries_with a here l.message) told
  tied_delivery =
      subst (λ f. IsTied (made + 1) (length x.places) f v.book (entries ++ entries_with a here l.message) told) (sym (ap (λ (n : Net). n.posts) l.net_is))
      (subst (λ b. IsTied (made + 1) (length x.places) (with_entry u.net.posts number Taken) b (entries ++ entries_with a here l.message) told)
      (sym l.book_is) (any l.message refl).tied_told)

  here_room : (k : ℕ) (z : Stay) → l.new.stays k ≡ Some z → HasAt told here k
  here_room k z is =
      let all = any l.message refl in
      elim (cases_eq k l.key) [
        | inl same ↦ subst (HasAt told here) (sym same) all.room
        | inr apart ↦ all.grows here k (rooms_at here k z (ap (λ o. stays_in o k) l.place_is ∙ sym (off_key l.old.stays l.key k all.stay apart)
            ∙ sym (ap (λ (f : ℕ → Option Stay). f k) all.stays_are) ∙ is))
      ]

  pub rooms_delivery : HaveRoom v.net told
  rooms_delivery p k z is = elim (cases_eq p here) [
    | inl same ↦ subst (λ i. HasAt told i k) (sym same) (here_room k z (sym (at_new k) ∙ ap (λ i. stays_of v.net i k) (sym same) ∙ is))
    | inr apart ↦ (any l.message refl).grows p k (rooms_at p k z (sym (ap (λ o. stays_in o k) (off_key u.net.places here p (Some l.new) apart))
        ∙ sym (ap (λ (n : Net). stays_of n p k) l.net_is) ∙ is))
  ]
