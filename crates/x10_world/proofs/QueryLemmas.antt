-- What a world answers of its places and frames, told of the machine's world.
use Rattle.std.proofs.Common.{◌≡◌, ◌⊎◌, ◌↔◌, ℕ, Bool, true, false, not, List, [], Option, Some, None, refl, sym, ap, subst, ◌∙◌, inl, inr, arith}
use Rattle.std.specs.Borrow.{Bor}
use Rattle.std.specs.Prelude.{IsTrue, MatchOption, IfSome, is_some, length, slice_get}
use Rattle.std.proofs.lemmas.Bool.{eq-eqb, both_ways}
use Rattle.std.proofs.lemmas.Option.{same_Some, slice_get_within, slice_get-get_or}
use Rattle.x10_model.specs.Modules.{Module}
use Rattle.x10_model.specs.declared.event.Event.{Event}
use Rattle.x10_model.specs.declared.event.Event.TheVariants.{Step, Deliver}
use Rattle.x10_model.specs.Places.{root}
use Rattle.x10_model.specs.Worlds.{World, IsOver}
use Rattle.x10_finish.specs.Watching.{NothingFlies}
use Rattle.x10_finish.proofs.WorldLemmas.{done_is_over, over_is_done}
use Rattle.x10_place.specs.Stays.{IsDoneHere}
use Rattle.x10_model.proofs.Lists.{none_some}
use Rattle.x10_place.specs.StandsFor.{PlaceState, store_of, IsIdleAt, IsFirstAble}
use Rattle.x10_flights.specs.Flights.{Flight, flight_of, flight_among, goes_to, flies_to, IsNext}
use Rattle.x10_flights.specs.PlaceSets.{has_place}
use Rattle.x10_world.specs.StandsForWorld.{WorldState, BelongsTo, BelongTo, counts_in, StandsForWorld}
use Rattle.x10_world.specs.Happenings.{CanHappen, AllIdle, NoneFlies, NothingCanHappen}
use Rattle.x10_world.specs.Queries.{IsFlyingTo, IsReportTo}
use Rattle.x10_world.proofs.Lists.{at_first}
use Rattle.x10_world.proofs.StepLemmas.{done_in, done_by}

-- where no frame flies, no message does
still_flies : (x : WorldState) (w : World) → StandsForWorld x w → x.flights.flying ≡ [] → (number : ℕ) → flight_of x.flights number ≡ None
still_flies x w stand still number = ap (λ fs. flight_among fs number) still

-- the home of the root is place 0
pub over_is : (x z : WorldState) (program : Module) (bounds : List ℕ) (p : PlaceState) (b : Bool) → x ≡ z
    → BelongTo program bounds (length x.places) x.places → slice_get x.places 0 ≡ Some p → IsTrue b ↔ ((p.id ≡ 0) × IsDoneHere (store_of p) 0)
    → (w : World) → StandsForWorld z w → (IsTrue b → IsOver w) × (IsOver w → z.flights.flying ≡ [] → IsTrue b)
over_is x z program bounds p b seen belong is closed w stands = (
  (λ t. done_is_over (length x.places) w (counts_in x.places stand.told) stand.watched (slice_get_within x.places 0 p is)
      (done_in x.places stand.told 0 0 p is belongs.id_is belongs.places_are (closed.0 t).1)),
  (λ over still. closed.1 (
    belongs.id_is,
    done_by x.places stand.told 0 0 p is belongs.id_is belongs.places_are
        (over_is_done (length x.places) w (counts_in x.places stand.told) stand.watched over (nothing still)
        (λ n. (stand.flies.none n (still_flies x w stand (quiet still) n)).1 root) (slice_get_within x.places 0 p is)),
  )),
)
  where
    stand : StandsForWorld x w
    stand = subst (λ t. StandsForWorld t w) (sym seen) stands

    belongs : BelongsTo program bounds (length x.places) 0 p
    belongs = belong 0 p is

    quiet : z.flights.flying ≡ [] → x.flights.flying ≡ []
    quiet still = subst (λ (t : WorldState). t.flights.flying ≡ []) (sym seen) still

    nothing : z.flights.flying ≡ [] → NothingFlies w.net
    nothing still n m e = (stand.flies.none n (still_flies x w stand (quiet still) n)).0 m e

-- a frame in flight carries a message for the place where it goes, or a report
pub frame_is : (x : WorldState) (w : World) (number to : ℕ) (flight : Flight) → StandsForWorld x w → flight_of x.flights number ≡ Some flight
    → flight.to ≡ to → IsFlyingTo w number to ⊎ IsReportTo w number to
frame_is x w number to flight stand is goes = elim (stand.flies.each number flight is) [
  | inl m ↦ inl (m.message, m.flying, sym m.to_is ∙ goes)
  | inr r ↦ inr (let at = slice_get-get_or x.places flight.to
      (at_first x.places (let less = r.carries.fits.to in omega (arith, less))).0 r.carries.fits.to in let old = stand.some flight.to _ at in
      subst (λ n. IsReportTo w number n) goes (r.unused, (old.0, old.1)))
]

pub frames_are : (x z : WorldState) (number : ℕ) (o : Option (ℕ × Bor (List ℕ))) → x ≡ z
    → MatchOption o (flight_of x.flights number ≡ None) (λ f. flight_of x.flights number
    ≡ Some (record { number = number; to = f.0; bytes = f.1.now }))
    → (w : World) → StandsForWorld z w → IfSome o (λ f. IsFlyingTo w number f.0 ⊎ IsReportTo w number f.0)
frames_are x z number None seen h w stand = tt
frames_are x z number (Some f) seen h w stand = frame_is x w number f.0 (record { number = number; to = f.0; bytes = f.1.now })
    (subst (λ t. StandsForWorld t w) (sym seen) stand) h refl

-- whether a step would do something
pub step_can : (x z : WorldState) (event : Event) (id key : ℕ) (p : PlaceState) (t : Bool) → x ≡ z → event ≡ Step id key
    → slice_get x.places id ≡ Some p → IsTrue t ↔ IsIdleAt p key → IsTrue (not t) ↔ CanHappen z event
step_can x z event id key p t seen is there idle = subst (λ y. IsTrue (not t) ↔ CanHappen y event) seen
    (subst (λ e. IsTrue (not t) ↔ CanHappen x e) (sym is) (by_answer t idle))
  where
    by_answer : (b : Bool) → IsTrue b ↔ IsIdleAt p key → IsTrue (not b) ↔ CanHappen x (Step id key)
    by_answer true h = ((λ y. absurd cc), (λ can. absurd (can.2 (subst (λ q. IsIdleAt q key) (same_Some p can.0 (sym there ∙ can.1)) (h.0 refl)))))
    by_answer false h = ((λ y. (p, there, (λ rests. absurd (let f = h.1 rests in cc)))), (λ can. refl))

-- whether a delivery would
pub delivery_can : (x z : WorldState) (event : Event) (number : ℕ) (o : Option (ℕ × Bor (List ℕ))) (t : Bool) → x ≡ z → event ≡ Deliver number
    → MatchOption o (flight_of x.flights number ≡ None) (λ f. flight_of x.flights number
    ≡ Some (record { number = number; to = f.0; bytes = f.1.now })) → t ≡ is_some o → IsTrue t ↔ CanHappen z event
delivery_can x z event number o t seen is answer e = subst (λ b. IsTrue b ↔ CanHappen z event) (sym e)
    (subst (λ y. IsTrue (is_some o) ↔ CanHappen y event) seen (subst (λ e. IsTrue (is_some o) ↔ CanHappen x e) (sym is) (by_answer o answer)))
  where
    by_answer : (a : Option (ℕ × Bor (List ℕ))) → MatchOption a (flight_of x.flights number ≡ None)
        (λ f. flight_of x.flights number ≡ Some (record { number = number; to = f.0; bytes = f.1.now }))
        → IsTrue (is_some a) ↔ CanHappen x (Deliver number)
    by_answer None h = ((λ y. absurd cc), (λ can. absurd (none_some (flight_of x.flights number) can.0 h can.1)))
    by_answer (Some f) h = ((λ y. (record { number = number; to = f.0; bytes = f.1.now }, h)), (λ can. refl))

-- ---- what can happen

-- a frame that flies to a place can be taken in
pub flies_can : (x : WorldState) (place number : ℕ) → flies_to x.flights.flying place number ≡ true → CanHappen x (Deliver number)
flies_can x place number flies = by_flight (flight_of x.flights number) refl flies
  where
    by_flight : (o : Option Flight) → flight_of x.flights number ≡ o → goes_to place o ≡ true → CanHappen x (Deliver number)
    by_flight None is goes = absurd cc
    by_flight (Some f) is goes = (f, is)

-- where none flies to any place, none flies
pub none_awaited : (x : WorldState) → ((place number : ℕ) → flies_to x.flights.flying place number ≡ false) → NoneFlies x
none_awaited x none number = by_flight (flight_of x.flights number) refl
  where
    by_flight : (o : Option Flight) → flight_of x.flights number ≡ o → flight_of x.flights number ≡ None
    by_flight None is = is
    by_flight (Some f) is = absurd (both_ways (flies_to x.flights.flying f.to number) (none f.to number)
        (ap (goes_to f.to) is ∙ eq-eqb f.to f.to refl))

-- where no activity can move and no frame flies
pub nothing_can : (x : WorldState) → ((id : ℕ) → AllIdle x id) → NoneFlies x → NothingCanHappen x
nothing_can x idle none (Step id key) can = can.2 (idle id can.0 can.1 key)
nothing_can x idle none (Deliver number) can = none_some (flight_of x.flights number) can.0 (none number) can.1

-- what a place answers of the first activity that can move
pub able_key_is : (x z : WorldState) (id : ℕ) (p : PlaceState) (o : Option ℕ) → x ≡ z → slice_get x.places id ≡ Some p
    → MatchOption o ((key : ℕ) → IsIdleAt p key) (IsFirstAble p) → MatchOption o (AllIdle z id) (λ key. CanHappen z (Step id key))
able_key_is x z id p None seen there idle = subst (λ y. AllIdle y id) seen
    (λ q at key. subst (λ r. IsIdleAt r key) (same_Some p q (sym there ∙ at)) (idle key))
able_key_is x z id p (Some key) seen there first = subst (λ y. CanHappen y (Step id key)) seen (p, there, first.able)

-- no place waits for a frame
pub no_frame : (x z : WorldState) (places : ℕ) → x ≡ z → ((id : ℕ) → has_place places id ≡ true ↔ ((n : ℕ) × (flies_to x.flights.flying id n ≡ true)))
    → IsNext (has_place places) 0 None → NoneFlies z
no_frame x z places seen waits none = subst NoneFlies seen (none_awaited x (λ id number. silent id number (flies_to x.flights.flying id number) refl))
  where
    silent : (id number : ℕ) (b : Bool) → flies_to x.flights.flying id number ≡ b → flies_to x.flights.flying id number ≡ false
    silent id number false is = is
    silent id number true is = absurd (both_ways (has_place places id) (none id (omega arith)) ((waits id).1 (number, is)))

-- where no activity can move, it is for the frames
pub event_is : (x : WorldState) (o : Option Event) → ((id : ℕ) → AllIdle x id) → MatchOption o (NoneFlies x) (CanHappen x)
    → MatchOption o (NothingCanHappen x) (CanHappen x)
event_is x None idle none = nothing_can x idle none
event_is x (Some event) idle can = can
