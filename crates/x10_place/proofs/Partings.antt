-- Steps that are for the place to make: what each of them does is a move of each place of the machine.
use Rattle.std.proofs.Common.{◌≡◌, ℕ, Bool, false, Option, Some, Result, Ok, Err, IfOk, IfErr, refl, sym, ap, subst, ◌∙◌, inl, inr, None}
use Rattle.std.specs.Prelude.{OnOk}
use Rattle.std.proofs.lemmas.Option.{same_Some}
use Rattle.slab.specs.Slab.{Slab, get, Updates}
use Rattle.x10_kinds.specs.declared.limit.Limit.{Limit}
use Rattle.x10_kinds.specs.declared.limit.Limit.TheVariants as limits
use Rattle.x10_kinds.specs.declared.stop.Stop.{Stop}
use Rattle.x10_kinds.specs.declared.stop.Stop.TheVariants as stop
use Rattle.x10_code.specs.declared.op.Op.TheVariants as op
use Rattle.x10_code.specs.declared.instr.Instr.{Instr}
use Rattle.x10_model.specs.Ranges.{instr_at, instr_in}
use Rattle.x10_verify.specs.Certified.{Certified}
use Rattle.x10_copy.specs.Captured.{kinds_of, Refuses}
use Rattle.x10_place.specs.declared.place.Stepped.TheVariants as stepped
use Rattle.x10_place.specs.declared.outcome.Deed.{Deed}
use Rattle.x10_place.specs.declared.outcome.Departure.{Departure}
use Rattle.x10_place.specs.declared.outcome.Departure.TheVariants as departure
use Rattle.x10_place.specs.declared.route.Route.{Route}
use Rattle.x10_place.specs.declared.sent.Sent.{Sent}
use Rattle.x10_place.specs.Routes.{route_of, op_going}
use Rattle.x10_place.specs.Messages.{no_sent}
use Rattle.x10_place.specs.Sending.{IsSending, slots_sent, words_sent}
use Rattle.x10_place.specs.Parting.{DepartsAt, LeavesAt}
use Rattle.x10_place.specs.Stays.{StayState, StoreState}
use Rattle.x10_place.specs.StandsFor.{PlaceState, place_of, plain, LeadsAll, Overfills, OverfillsBegin, OverfillsSend, IsOverfull, IsHindered}
use Rattle.x10_place.specs.Stretches.{BeginsAt, RefusesBegin, IsForPlace, IsMade}
use Rattle.x10_place.proofs.StandingFrames.{IsChecked}
use Rattle.x10_place.proofs.StandingStays.{outside_ends}
use Rattle.x10_place.proofs.Steps.{begin_leads}
use Rattle.x10_place.proofs.Departures.{depart_leads}
use Rattle.x10_place.proofs.Leavings.{leave_leads}
use Rattle.x10_place.proofs.StepsOfPlace.{seen_after, overfull}

plain_updates : {old new : Slab StayState} {key : ℕ} {o : Option StayState} → Updates old new key o → Updates (plain old) new key o
plain_updates up = record { changed = up.changed; others = up.others }

module _ (v : Certified) (old : Slab StayState) (s : StoreState) (key : ℕ) {todo : Deed} (i : Instr) (checks : IsChecked v.program)
    (h : IsForPlace v old s key todo i) where
  abbrev place : Bool → PlaceState
  place stopped = place_of v old s stopped

  ready_too : (a : StayState) → get old key ≡ Some a → a.away ≡ false
  ready_too a e = subst (λ (b : StayState). b.away ≡ false) (same_Some h.stay a (sym h.is_there ∙ e)) h.ready

  -- ---- what they do

  pub begun_made : (new : Slab StayState) (t : StoreState) (sent : Sent) → sent ≡ no_sent → BeginsAt v.program old s key new t
      → IsMade v old s key sent new t
  begun_made new t sent none b = subst (λ o. IsMade v old s key o new t) (sym none) (record {
    leads = λ stopped. subst (λ q. LeadsAll (place stopped) key (stepped.Moved no_sent) q)
        (seen_after v old new s t stopped b.store.here b.store.places_are)
        (begin_leads (place stopped) key new t checks plain_begins (ready_too b.stay b.is_there) h.outside);
    here = b.store.here;
    places = b.store.places_are;
    parts = λ stopped. inr (inl (record {
      free = subst (λ k. get old k ≡ None) b.vacant b.free;
      begun = (b.child, subst (λ k. get new k ≡ Some b.child) b.vacant b.now_child);
    }));
  })
    where
      plain_begins : BeginsAt v.program (plain old) s key new t
      plain_begins = record {
        stay = b.stay;
        is_there = b.is_there;
        instr = b.instr;
        fetched = b.fetched;
        is_async = b.is_async;
        next = b.next;
        goes = b.goes;
        rest = b.rest;
        other = b.other;
        vacant = b.vacant;
        few = b.few;
        free = b.free;
        child = b.child;
        begun = b.begun;
        now_next = b.now_next;
        now_child = b.now_child;
        number = b.number;
        others = b.others;
        store = b.store;
      }

  pub departed_made : (new : Slab StayState) (t : StoreState) (sent : Sent) → DepartsAt v.program old s key sent new t → IsMade v old s key sent new t
  departed_made new t sent d = record {
    leads = λ stopped. subst (λ q. LeadsAll (place stopped) key (stepped.Moved sent) q)
        (seen_after v old new s t stopped d.store.here d.store.places_are)
        (depart_leads (place stopped) key sent new t checks plain_departs (ready_too d.stay d.is_there) h.outside);
    here = d.store.here;
    places = d.store.places_are;
    parts = λ stopped. inr (inr (λ f. absurd (let g : Some d.message ≡ no_sent.message = ap (λ (o : Sent). o.message) (sym d.sent_is ∙ f) in cc)));
  }
    where
      plain_departs : DepartsAt v.program (plain old) s key sent new t
      plain_departs = record {
        stay = d.stay;
        is_there = d.is_there;
        instr = d.instr;
        fetched = d.fetched;
        departure = d.departure;
        is_going = d.is_going;
        next = d.next;
        number = d.number;
        departs = d.departs;
        updates = plain_updates d.updates;
        message = d.message;
        sent_is = d.sent_is;
        to_is = d.to_is;
        frame = d.frame;
        store = d.store;
      }

  pub left_made : (new : Slab StayState) (t : StoreState) (sent : Sent) → LeavesAt v.program old s key sent new t → IsMade v old s key sent new t
  left_made new t sent d = record {
    leads = λ stopped. subst (λ q. LeadsAll (place stopped) key (stepped.Moved sent) q)
        (seen_after v old new s t stopped d.store.here d.store.places_are)
        (leave_leads (place stopped) key sent new t checks plain_leaves (ready_too d.stay d.is_there) h.outside);
    here = d.store.here;
    places = d.store.places_are;
    parts = λ stopped. inl d.updates.changed;
  }
    where
      plain_leaves : LeavesAt v.program (plain old) s key sent new t
      plain_leaves = record {
        stay = d.stay;
        is_there = d.is_there;
        instr = d.instr;
        fetched = d.fetched;
        is_ret = d.is_ret;
        callers = d.callers;
        updates = plain_updates d.updates;
        result = d.result;
        report = d.report;
        store = d.store;
      }

  -- ---- why they are refused

  instr_is : instr_at v.program h.stay.top.function h.stay.top.pc ≡ Some i
  instr_is = subst (λ o. instr_in o h.stay.top.pc ≡ Some i) (sym h.fetched.is_function) h.fetched.is_instr

  -- what would be one too many
  pub overfills_there : (limit : Limit) → IsOverfull (place false) key limit → Overfills (route_of i.op) (place false) h.stay i limit
  overfills_there limit over =
      let same = same_Some over.stay h.stay (sym over.is_there ∙ h.is_there) in
      let at = subst (λ (c : StayState). instr_at v.program c.top.function c.top.pc ≡ Some over.instr) same over.instr_is in
      let instr = same_Some over.instr i (sym at ∙ instr_is) in
      subst (λ (j : Instr). Overfills (route_of j.op) (place false) h.stay j limit) instr
      (subst (λ c. Overfills (route_of over.instr.op) (place false) c over.instr limit) same over.overfills)

  pub begin_over : i.op ≡ op.Async → (limit : Limit) → IsOverfull (place false) key limit → OverfillsBegin (place false) h.stay limit
  begin_over e limit over = subst (λ o. Overfills (route_of o) (place false) h.stay i limit) e (overfills_there limit over)

  pub send_over : (w : Departure) → i.op ≡ op_going w → (limit : Limit) → IsOverfull (place false) key limit
      → OverfillsSend (place false) h.stay i limit
  send_over departure.At e limit over = subst (λ o. Overfills (route_of o) (place false) h.stay i limit) e (overfills_there limit over)
  send_over departure.Ata e limit over = subst (λ o. Overfills (route_of o) (place false) h.stay i limit) e (overfills_there limit over)

  pub end_over : i.op ≡ op.Ret → (limit : Limit) → IsOverfull (place false) key limit → ⊥
  end_over e limit over = subst (λ o. Overfills (route_of o) (place false) h.stay i limit) e (overfills_there limit over)

  pub begin_hindered : i.op ≡ op.Async → (why : Stop) → RefusesBegin v old s key why → IsHindered (place false) key why
  begin_hindered e why (inl memory) = inl memory
  begin_hindered e why (inr (limit, is, a, there, over)) =
      let same = same_Some a h.stay (sym there ∙ h.is_there) in
      inr (
        limit,
        is,
        inl (overfull (place false) key h.stay h.is_there h.ready h.outside i h.fetched limit
            (subst (λ o. Overfills (route_of o) (place false) h.stay i limit) (sym e) (subst (λ b. OverfillsBegin (place false) b limit) same over))),
      )

  send_overfills : (w : Departure) → OverfillsSend (place false) h.stay i limits.Activities
      → Overfills (route_of (op_going w)) (place false) h.stay i limits.Activities
  send_overfills departure.At over = over
  send_overfills departure.Ata over = over

  pub send_hindered : (why : Stop) (w : Departure) → i.op ≡ op_going w → (why ≡ stop.Limit limits.Activities)
      → OverfillsSend (place false) h.stay i limits.Activities → IsHindered (place false) key why
  send_hindered why w e is over = inr (
    limits.Activities,
    is,
    inl (overfull (place false) key h.stay h.is_there h.ready h.outside i h.fetched limits.Activities
        (subst (λ o. Overfills (route_of o) (place false) h.stay i limits.Activities) (sym e) (send_overfills w over))),
  )

  -- a frame can't take along what is sent
  pub frame_hindered : (why : Stop) (r : Route) → route_of i.op ≡ r → IsSending r h.stay
      → Refuses v.program.classes s.heap (kinds_of (slots_sent r v.program h.stay i)) (words_sent r (slots_sent r v.program h.stay i) h.stay i) why
      → IsHindered (place false) key why
  frame_hindered why r e sends refuses = by (subst (λ q. IsSending q h.stay) (sym e) sends)
      (subst (λ q. Refuses v.program.classes s.heap (kinds_of (slots_sent q v.program h.stay i))
      (words_sent q (slots_sent q v.program h.stay i) h.stay i) why) (sym e) refuses)
    where
      by : IsSending (route_of i.op) h.stay → Refuses v.program.classes s.heap (kinds_of (slots_sent (route_of i.op) v.program h.stay i))
          (words_sent (route_of i.op) (slots_sent (route_of i.op) v.program h.stay i) h.stay i) why → IsHindered (place false) key why
      by sending (inl memory) = inl memory
      by sending (inr (inl nodes)) = inr (
        limits.FrameObjects,
        nodes.0,
        inr (record {
          stay = h.stay;
          is_there = h.is_there;
          is_ready = h.ready;
          is_free = h.outside;
          instr = i;
          instr_is = instr_is;
          sends = sending;
          overloads = inl (refl, nodes.1);
        }),
      )
      by sending (inr (inr (inl texts))) = inr (
        limits.FrameTexts,
        texts.0,
        inr (record {
          stay = h.stay;
          is_there = h.is_there;
          is_ready = h.ready;
          is_free = h.outside;
          instr = i;
          instr_is = instr_is;
          sends = sending;
          overloads = inr (inl (refl, texts.1));
        }),
      )
      by sending (inr (inr (inr rails))) = inr (
        limits.FrameRails,
        rails.0,
        inr (record {
          stay = h.stay;
          is_there = h.is_there;
          is_ready = h.ready;
          is_free = h.outside;
          instr = i;
          instr_is = instr_is;
          sends = sending;
          overloads = inr (inr (refl, rails.1));
        }),
      )

-- ---- as the place's functions answer

module _ (v : Certified) (old : Slab StayState) (s : StoreState) (key : ℕ) {todo : Deed} (i : Instr) (checks : IsChecked v.program)
    (h : IsForPlace v old s key todo i) where
  abbrev now : PlaceState
  now = place_of v old s false

  pub begun_ok : (new : Slab StayState) (t : StoreState) (r : Result Sent Stop) → OnOk r (BeginsAt v.program old s key new t)
      → IfOk r (λ sent. sent ≡ no_sent) → IfOk r (λ sent. IsMade v old s key sent new t)
  begun_ok new t (Ok sent) begins none = begun_made v old s key i checks h new t sent none begins
  begun_ok new t (Err why) begins none = tt

  pub departed_ok : (new : Slab StayState) (t : StoreState) (r : Result Sent Stop) → IfOk r (λ sent. DepartsAt v.program old s key sent new t)
      → IfOk r (λ sent. IsMade v old s key sent new t)
  departed_ok new t (Ok sent) departs = departed_made v old s key i checks h new t sent departs
  departed_ok new t (Err why) departs = tt

  pub left_ok : (new : Slab StayState) (t : StoreState) (r : Result Sent Stop) → IfOk r (λ sent. LeavesAt v.program old s key sent new t)
      → IfOk r (λ sent. IsMade v old s key sent new t)
  left_ok new t (Ok sent) leaves = left_made v old s key i checks h new t sent leaves
  left_ok new t (Err why) leaves = tt

  pub begin_refused : (r : Result Sent Stop) → i.op ≡ op.Async → IfErr r (RefusesBegin v old s key) → IfErr r (IsHindered now key)
  begin_refused (Ok sent) e refused = tt
  begin_refused (Err why) e refused = begin_hindered v old s key i checks h e why refused

  -- a stay that ends is inside no atomic region
  pub end_outside : i.op ≡ op.Ret → h.stay.inside ≡ false
  end_outside e = outside_ends v.program checks h.stay i (h.standing.1.some key h.stay h.is_there).2.placed h.fetched e
