-- Along a run of the machine beside the events that are counted, the tally and the book are tied.
use Rattle.std.proofs.Common.{◌≡◌, ℕ, ◌+◌, ◌<◌, ◌^◌, true, false, List, [], ◌++◌, length, Some, refl, sym, ap, subst, ◌∙◌, inl, inr, arith, append-nil}
use Rattle.std.proofs.lemmas.List.{length-set}
use Rattle.x10_code.specs.declared.op.Op.{Op}
use Rattle.x10_model.specs.declared.event.Event.{Event}
use Rattle.x10_model.specs.declared.event.Event.TheVariants.{Step, Deliver}
use Rattle.x10_model.specs.Places as machine
use Rattle.x10_model.specs.Places.{IsFree, Stay, receiver}
use Rattle.x10_model.specs.Worlds.{World, Net, Happens, Ideal, IsIdle, no_place, no_stay, is_away, is_kept_out, steps, delivers, idle, Delivers, posts_after, book_after, sent}
use Rattle.x10_model.proofs.Events.{flying_is}
use Rattle.x10_model.proofs.Lists.{none_some, same_some}
use Rattle.x10_finish.specs.Nesting.{stays_in}
use Rattle.x10_finish.specs.Stays.{Changes}
use Rattle.x10_finish.proofs.WorldParts.{entry_self}
use Rattle.x10_place.specs.declared.sent.Sent.{Sent}
use Rattle.x10_world.specs.Happenings.{HasDone, HasMoved, HasTaken, IsMove, WasIdle, WasNowhere}
use Rattle.x10_world.specs.StandsForWorld.{WorldState, StandsForWorld, far_in, setting_of_world}
use Rattle.x10_world.specs.declared.done.Done.{Done}
use Rattle.x10_world.specs.declared.done.Done.TheVariants as done
use Rattle.x10_flights.specs.Flights.{flight_of}
use Rattle.x10_stats.specs.Counts.{Counted, CountsState}
use Rattle.x10_stats.specs.Counts.Counted.{begins, goes_on}
use Rattle.x10_stats.specs.Entries.{Entry, entries_by, entries_of}
use Rattle.x10_stats.specs.MachineRuns.{RunsBeside}
use Rattle.x10_stats.specs.Tallies.{IsSeen, IsSeenBefore, TallyState, arrived, begun_by, ready, sight_to, tallied, vacant_at, with_rooms}
use Rattle.x10_stats.proofs.DeliveriesTied.{receiver_is, rooms_delivery, tied_delivery}
use Rattle.x10_stats.proofs.EventsCounted.{one_longer}
use Rattle.x10_stats.proofs.StaysSeen.{none_as, unseen_as}
use Rattle.x10_stats.proofs.StepsSeen.{goes, its_change, pinned, waits_only}
use Rattle.x10_stats.proofs.StepsTied.{HaveRoom, rooms_step, tied_step}
use Rattle.x10_stats.proofs.Tied.{IsTied, grows_rooms, tied_later, tied_rooms}

-- a tally is tied to a world of the machine, and has room for each stay
pub record AreTied (made : ℕ) (x : WorldState) (u : World) (entries : List Entry) (t : TallyState) : Type 0 where
  pub tied : IsTied made (length x.places) u.net.posts u.book entries t
  pub rooms : HaveRoom u.net t

-- as many places
tied_at : (made : ℕ) (x y : WorldState) (u : World) (entries : List Entry) (t : TallyState) → length y.places ≡ length x.places
    → IsTied made (length x.places) u.net.posts u.book entries t → HaveRoom u.net t → AreTied made y u entries t
tied_at made x y u entries t count tied rooms = record {
  tied = subst (λ n. IsTied made n u.net.posts u.book entries t) (sym count) tied;
  rooms = rooms;
}

-- one event more, and nothing but more room
roomier : (made : ℕ) (x y : WorldState) (u : World) (entries : List Entry) (t : TallyState) (place key : ℕ) → length y.places ≡ length x.places
    → AreTied made x u entries t → AreTied (made + 1) y u (entries ++ []) (with_rooms t place key)
roomier made x y u entries t place key count h = subst (λ es. AreTied (made + 1) y u es (with_rooms t place key)) (sym (append-nil entries))
    (tied_at (made + 1) x y u entries (with_rooms t place key) count
    (tied_later made (length x.places) u.net.posts u.book entries (with_rooms t place key)
    (tied_rooms made (length x.places) u.net.posts u.book entries t place key h.tied))
    (λ p k s is. grows_rooms t place key p k (h.rooms p k s is)))

-- ---- steps

idle_apart : (u : World) (here key : ℕ) (m : machine.Place) (stay : Stay) → u.net.places here ≡ Some m → m.stays key ≡ Some stay → stay.away ≡ false
    → IsFree m.stays key → IsIdle u (Step here key) → ⊥
idle_apart u here key m stay there is ready free (no_place h k none) = none_some (u.net.places here) m none there
idle_apart u here key m stay there is ready free (no_stay h k place at none) =
    none_some (m.stays key) stay (ap (λ (p : machine.Place). p.stays key) (same_some (u.net.places here) m place there at) ∙ none) is
idle_apart u here key m stay there is ready free (is_away h k place other at found away) =
    let same = same_some (m.stays key) stay other is (ap (λ (p : machine.Place). p.stays key) (same_some (u.net.places here) m place there at) ∙ found) in
    (let e : false ≡ true = sym ready ∙ ap (λ (s : Stay). s.away) same ∙ away in cc)
idle_apart u here key m stay there is ready free (is_kept_out h k place other at found kept) =
    kept (subst (λ (p : machine.Place). IsFree p.stays key) (same_some (u.net.places here) m place there at) free)

not_idle : (x y : WorldState) (u : World) (here key : ℕ) (out : Sent) → StandsForWorld x u → HasMoved x.places x.flights here key out y.places y.flights
    → IsIdle u (Step here key) → ⊥
not_idle x y u here key out stand d i =
    let m = stand.some here d.place d.is_there in
    let led = d.leads (far_in u) m.0 m.2 in
    idle_apart u here key m.0 led.moves.stay m.1 led.moves.is_there led.moves.is_ready led.moves.is_free i

step_moved : (made : ℕ) (x y : WorldState) (u v : World) (entries : List Entry) (t : TallyState) (here key function pc : ℕ) (op : Op) (first count : ℕ)
    → StandsForWorld x u → StandsForWorld y v → AreTied made x u entries t → made + 2 < 2 ^ 64
    → IsMove x here key function pc op first count y → IsSeen x here → (h : Happens Ideal (setting_of_world x) u (Step here key) v)
    → AreTied (made + 1) y v (entries ++ entries_of Ideal (setting_of_world x) u (Step here key) v h)
    (tallied t x (Step here key) (done.Moved function pc op first count) y)
step_moved made x y u v entries t here key function pc op first count stand then before little m seen (steps p k w s) =
    let pin = pinned x y u v here key stand then seen s m.out m.moved in
    let go = goes x y u v here key stand then seen s m.out m.moved in
    tied_at (made + 1) x y v _ _ (ap length m.moved.places_are ∙ length-set x.places here m.moved.next)
    (tied_step made x y u v entries t here key before.tied before.rooms stand then seen little s pin go)
    (rooms_step made x y u v entries t here key before.tied before.rooms stand then seen little s pin go)
step_moved made x y u v entries t here key function pc op first count stand then before little m seen (idle e i) =
    absurd (not_idle x y u here key m.out stand m.moved i)

step_idle : (made : ℕ) (x y : WorldState) (u v : World) (entries : List Entry) (t : TallyState) (here key : ℕ) → StandsForWorld x u → StandsForWorld y v
    → AreTied made x u entries t → WasIdle x.places x.flights here key y.places y.flights → IsSeen x here
    → (h : Happens Ideal (setting_of_world x) u (Step here key) v)
    → AreTied (made + 1) y v (entries ++ entries_of Ideal (setting_of_world x) u (Step here key) v h) (tallied t x (Step here key) done.Idle y)
step_idle made x y u v entries t here key stand then before d seen (steps p k w s) =
    let wait = waits_only x y u v here key stand then seen s d in
    let c = its_change x y u v here key stand then seen s in
    let still : s.new ≡ s.old = subst (λ e. Changes here s.old key c.stay s.new e) wait.1 c.changes in
    let places_same : v.net.places ≡ u.net.places = ap (λ (n : Net). n.places) s.net_is
    ∙ entry_self u.net.places here (Some s.new) (s.place_is ∙ ap Some (sym still)) in
    let posts_same : v.net.posts ≡ u.net.posts = ap (λ (n : Net). n.posts) s.net_is ∙ ap (λ e. posts_after u.net.posts s.number (sent e)) wait.1 in
    let book_same : v.book ≡ u.book = s.book_is ∙ ap (λ e. book_after u.book (u.book.belongs here key) here e s.number) wait.1 in
    let none = ap (entries_by u.book here) wait.1 in
    let more = roomier made x y u entries t here (vacant_at x here) (ap length d.places_are) before in
    record {
      tied = subst (λ es. IsTied (made + 1) (length y.places) v.net.posts v.book (entries ++ es) (with_rooms t here (vacant_at x here))) (sym none)
          (subst (λ f. IsTied (made + 1) (length y.places) f v.book (entries ++ []) (with_rooms t here (vacant_at x here))) (sym posts_same)
          (subst (λ b. IsTied (made + 1) (length y.places) u.net.posts b (entries ++ []) (with_rooms t here (vacant_at x here))) (sym book_same) more.tied));
      rooms = λ q l z is. more.rooms q l z (ap (λ f. stays_in (f q) l) (sym places_same) ∙ is);
    }
step_idle made x y u v entries t here key stand then before d seen (idle e i) =
    roomier made x y u entries t here (vacant_at x here) (ap length d.places_are) before

-- ---- deliveries

deliver_idle : (made : ℕ) (x y : WorldState) (u v : World) (entries : List Entry) (t : TallyState) (number : ℕ) → StandsForWorld x u
    → AreTied made x u entries t → WasNowhere x.places x.flights number y.places y.flights
    → (h : Happens Ideal (setting_of_world x) u (Deliver number) v)
    → AreTied (made + 1) y v (entries ++ entries_of Ideal (setting_of_world x) u (Deliver number) v h) (tallied t x (Deliver number) done.Idle y)
deliver_idle made x y u v entries t number stand before d (delivers n w l) = absurd ((stand.flies.none number d.none).0 l.message l.flying)
deliver_idle made x y u v entries t number stand before d (idle e i) =
    roomier made x y u entries t (sight_to x (flight_of x.flights number)).place (sight_to x (flight_of x.flights number)).vacant
    (ap length d.places_are) before

-- where the frame of a message that is taken in goes
to_here : (x y : WorldState) (u v : World) (number to : ℕ) → StandsForWorld x u → (d : HasTaken x.places x.flights number to y.places y.flights)
    → (l : Delivers (setting_of_world x) u number v) → d.flight.to ≡ l.here
to_here x y u v number to stand d l = elim (stand.flies.each number d.flight d.flying) [
  | inl h ↦ h.to_is ∙ ap receiver (flying_is h.message l.message (sym h.flying ∙ l.flying))
      ∙ receiver_is (setting_of_world x) l.here l.key l.old l.new l.message l.receives
  | inr h ↦ absurd (let e = sym h.unused ∙ l.flying in cc)
]

-- what is counted after a frame was taken in at a place
abbrev told_at : TallyState → WorldState → WorldState → ℕ → TallyState
told_at t x y here = arrived (with_rooms t here (vacant_at x here)) y here (vacant_at x here)

deliver_taken : (made : ℕ) (x y : WorldState) (u v : World) (entries : List Entry) (t : TallyState) (number to : ℕ) → StandsForWorld x u
    → StandsForWorld y v → AreTied made x u entries t → made + 2 < 2 ^ 64 → (d : HasTaken x.places x.flights number to y.places y.flights)
    → IsSeen x d.flight.to → (h : Happens Ideal (setting_of_world x) u (Deliver number) v)
    → AreTied (made + 1) y v (entries ++ entries_of Ideal (setting_of_world x) u (Deliver number) v h) (told_at t x y d.flight.to)
deliver_taken made x y u v entries t number to stand then before little d seen (delivers n w l) =
    let at = to_here x y u v number to stand d l in
    let here = sym d.to_is ∙ at in
    let seen_here = subst (IsSeen x) at seen in
    subst (λ i. AreTied (made + 1) y v (entries ++ entries_of Ideal (setting_of_world x) u (Deliver number) v (delivers number v l)) (told_at t x y i))
    (sym at) (tied_at (made + 1) x y v _ _ (ap length d.places_are ∙ length-set x.places to d.next)
    (tied_delivery made x y u v entries t number to before.tied before.rooms stand then little d l seen_here here)
    (rooms_delivery made x y u v entries t number to before.tied before.rooms stand then little d l seen_here here))
deliver_taken made x y u v entries t number to stand then before little d seen (idle e i) =
    let vacant = vacant_at x d.flight.to in
    let none = unseen_as y u then d.flight.to vacant (none_as x u stand d.flight.to vacant seen.vacant) in
    subst (AreTied (made + 1) y u (entries ++ [])) (sym (ap (begun_by (with_rooms t d.flight.to vacant) d.flight.to vacant) none))
    (roomier made x y u entries t d.flight.to vacant (ap length d.places_are ∙ length-set x.places to d.next) before)

-- ---- any event

after_event : (made : ℕ) (x y : WorldState) (u v : World) (entries : List Entry) (t : TallyState) (event : Event) (did : Done) → StandsForWorld x u
    → StandsForWorld y v → AreTied made x u entries t → made + 2 < 2 ^ 64 → HasDone x event did y → IsSeenBefore x event
    → (h : Happens Ideal (setting_of_world x) u event v)
    → AreTied (made + 1) y v (entries ++ entries_of Ideal (setting_of_world x) u event v h) (tallied t x event did y)
after_event made x y u v entries t (Step here key) done.Idle stand then before little d seen h =
    step_idle made x y u v entries t here key stand then before d seen h
after_event made x y u v entries t (Step here key) (done.Moved function pc op first count) stand then before little d seen h =
    step_moved made x y u v entries t here key function pc op first count stand then before little d seen h
after_event made x y u v entries t (Step here key) (done.Taken to) stand then before little d seen h = absurd d
after_event made x y u v entries t (Deliver number) done.Idle stand then before little d seen h =
    deliver_idle made x y u v entries t number stand before d h
after_event made x y u v entries t (Deliver number) (done.Moved function pc op first count) stand then before little d seen h = absurd d
after_event made x y u v entries t (Deliver number) (done.Taken to) stand then before little d seen h =
    subst (AreTied (made + 1) y v (entries ++ entries_of Ideal (setting_of_world x) u (Deliver number) v h))
    (sym (ap (λ o. arrived (ready t (sight_to x o)) y (sight_to x o).place (sight_to x o).vacant) d.flying))
    (deliver_taken made x y u v entries t number to stand then before little d (seen d.flight d.flying) h)

-- and all of them
pub tied_along : (first : World) (entries : List Entry) (s : CountsState) (x : WorldState) (events : List Event) (t : CountsState) (y : WorldState)
    (counts : Counted s x events t y) (w : World) (es : List Entry) → RunsBeside first entries s x events t y counts w es
    → AreTied 0 x first entries s.tally → length events + 1 < 2 ^ 64 → AreTied (length events) y w es t.tally
tied_along first entries s x _ _ _ begins w es beside base few =
    subst (λ u. AreTied 0 x u es s.tally) (sym beside.0) (subst (λ xs. AreTied 0 x first xs s.tally) (sym beside.1) base)
tied_along first entries s x _ _ _ (goes_on y z events t event did before seen done makes) w es (u, old, beside, g) base few =
    let longer = one_longer events event (length events) refl in
    let so_far = tied_along first entries s x events t y before u old beside base (omega (arith, longer, few)) in
    let more = after_event (length events) y z u w old t.tally event did g.before g.after so_far (omega (arith, longer, few)) done seen g.happens in
    subst (λ n. AreTied n z w es (tallied t.tally y event did z)) (sym longer)
    (subst (λ xs. AreTied (length events + 1) z w xs (tallied t.tally y event did z)) (sym g.entries) more)

-- ---- there is such a run

pub runs_along : (first : World) (entries : List Entry) (s : CountsState) (x : WorldState) (events : List Event) (t : CountsState) (y : WorldState)
    (counts : Counted s x events t y) → StandsForWorld x first
    → (w : World) × (es : List Entry) × RunsBeside first entries s x events t y counts w es × StandsForWorld y w
runs_along first entries s x _ _ _ begins stand = (first, entries, (refl, refl), stand)
runs_along first entries s x _ _ _ (goes_on y z events t event did before seen done makes) stand =
    let so_far = runs_along first entries s x events t y before stand in
    let next = makes so_far.0 so_far.3 in
    let es = so_far.1 ++ entries_of Ideal (setting_of_world y) so_far.0 event next.0 next.1 in
    (next.0, es, (so_far.0, so_far.1, so_far.2, record { before = so_far.3; happens = next.1; after = next.3; entries = refl }), next.3)
