-- What a step of the stay with a key does to a place, by what becomes of the stay.
use Rattle.std.proofs.Common.{◌≡◌, ◌≢◌, ◌↔◌, ℕ, Bool, true, false, IsTrue, List, ◌∷◌, Option, Some, None, Ok, Err, refl, sym, ap, ap₂, subst, ◌∙◌}
use Rattle.std.proofs.lemmas.Option.{same_Some}
use Rattle.slab.specs.Slab.{Slab, get, Updates, with_value}
use Rattle.x10_kinds.specs.declared.limit.Limit.{Limit}
use Rattle.x10_kinds.specs.declared.stop.Stop.{Stop}
use Rattle.x10_kinds.specs.declared.stop.Stop.TheVariants as stop
use Rattle.x10_code.specs.declared.op.Op.TheVariants as op
use Rattle.x10_code.specs.declared.instr.Instr.{Instr}
use Rattle.x10_model.specs.Modules.{Module}
use Rattle.x10_model.specs.Ranges.{instr_at, instr_in}
use Rattle.x10_model.proofs.Found.{head_is}
use Rattle.x10_model.proofs.Lists.{none_some}
use Rattle.x10_verify.specs.Certified.{Certified}
use Rattle.x10_place.specs.declared.place.Stepped.TheVariants as stepped
use Rattle.x10_place.specs.declared.route.Route.{Route}
use Rattle.x10_place.specs.declared.route.Route.TheVariants as route
use Rattle.x10_place.specs.declared.outcome.Deed.{Deed}
use Rattle.x10_place.specs.declared.outcome.Deed.TheVariants as deed
use Rattle.x10_place.specs.declared.outcome.Departure.TheVariants as departure
use Rattle.x10_place.specs.declared.outcome.Outcome.{Outcome}
use Rattle.x10_place.specs.declared.outcome.Outcome.TheVariants as outcome
use Rattle.x10_place.specs.declared.stay.Locality.{Locality}
use Rattle.x10_place.specs.Frames.{IsInside, IsFetchedFor}
use Rattle.x10_place.specs.Routes.{route_of}
use Rattle.x10_place.specs.Stays.{StayState, StoreState, IsDoneHere, ClosesFinish, WaitsAtFinish, HasFinish, location, ReadsStore, OverfillsBy, Refuses, Steps}
use Rattle.x10_place.specs.StandsFor.{PlaceState, place_of, plain, location_of, IsStanding, LeadsAll, IsIdleAt, nobody, away, waits, IsOverfull, IsHindered, Overfills, AreOutside, kept_out}
use Rattle.x10_place.specs.declared.sent.Sent.{Sent}
use Rattle.x10_place.specs.Messages.{no_sent}
use Rattle.x10_place.specs.Stretches.{still, IsUntouched, IsForPlace, IsMade, IsAdvanced}
use Rattle.x10_place.proofs.StandingFrames.{IsChecked}
use Rattle.x10_place.proofs.RoutesOfOne.{is_close_finish}
use Rattle.x10_place.proofs.HeapReads.{working_reads, has_finish}
use Rattle.x10_place.proofs.CountedStays.{registered_after}
use Rattle.x10_place.proofs.Steps.{step_leads, wait_leads, waits_by}
use Rattle.x10_place.proofs.StretchesOfStay.{left_unchanged, made_there}
use Rattle.x10_place.proofs.StepsOfPlace.{with_same, seen_after, standing_after, working_at, hindered, stopped_over, flagged_hindered}

pub untouched : (old : Slab StayState) (s : StoreState) → IsUntouched old s old s
untouched old s = record { stays = refl; store = refl }

-- a place where nothing has changed stands as it did
still_standing : (v : Certified) (old new : Slab StayState) (s t : StoreState) → IsUntouched old s new t → IsStanding (place_of v old s false)
    → IsStanding (place_of v new t false)
still_standing v old new s t same standing =
    subst (λ (slab : Slab StayState). IsStanding (record (place_of v new t false) { stays = slab })) (sym same.stays)
    (subst (λ u. IsStanding (place_of v old u false)) (sym same.store) standing)

-- how much room there is for stays changes nothing
pub plain_updates : {old new : Slab StayState} {key : ℕ} {o : Option StayState} → Updates old new key o → Updates (plain old) new key o
plain_updates up = record { changed = up.changed; others = up.others }

module _ (v : Certified) (old : Slab StayState) (s : StoreState) (key : ℕ) (standing : IsStanding (place_of v old s false))
    (checks : IsChecked v.program) where
  abbrev place : Bool → PlaceState
  place stopped = place_of v old s stopped

  pub advanced_nobody : get old key ≡ None → IsAdvanced v old s key (Ok stepped.Idle) old s
  advanced_nobody none = record {
    idle = λ stopped h. (refl, untouched old s);
    only = λ stopped e. nobody none;
    some = λ stopped a e ready. absurd (none_some (get old key) a none e);
    refused = λ stopped. tt;
    same = tt;
    full = λ stopped limit over. absurd (none_some (get old key) over.stay none over.is_there);
    standing = standing;
    here = refl;
    places = refl;
  }

  pub advanced_away : (a : StayState) → get old key ≡ Some a → a.away ≡ true → IsAdvanced v old s key (Ok stepped.Idle) old s
  advanced_away a e is = record {
    idle = λ stopped h. (refl, untouched old s);
    only = λ stopped f. away a e is;
    some = λ stopped b there ready. absurd (let same = same_Some a b (sym e ∙ there) in
        let f : true ≡ false = sym is ∙ ap (λ (c : StayState). c.away) same ∙ ready in cc);
    refused = λ stopped. tt;
    same = tt;
    full = λ stopped limit over. absurd (let same = same_Some a over.stay (sym e ∙ over.is_there) in
        let f : true ≡ false = sym is ∙ ap (λ (c : StayState). c.away) same ∙ over.is_ready in cc);
    standing = standing;
    here = refl;
    places = refl;
  }

  module _ (a : StayState) (e : get old key ≡ Some a) (ready : a.away ≡ false) (outside : AreOutside old key) (i : Instr)
      (fetched : IsFetchedFor v.program a.top i) where
    -- the instruction at which the stay stands
    instr_is : (j : Instr) → instr_at v.program a.top.function a.top.pc ≡ Some j → j ≡ i
    instr_is j at = same_Some j i (sym at ∙ subst (λ o. instr_in o a.top.pc ≡ Some i) (sym fetched.is_function) fetched.is_instr)

    -- where a step would find nothing to do, the stay waits at the end of a finish
    pub record IsWaiting : Type 0 where
      pub is_fine : i.op ≡ op.Fine
      pub number : ℕ
      pub outer : List ℕ
      pub innermost : a.finishes ≡ number ∷ outer
      pub not_done : IsDoneHere s number → ⊥

    idle_waits : (stopped : Bool) → IsIdleAt (place stopped) key → IsWaiting
    idle_waits stopped (nobody none) = absurd (none_some (get old key) a none e)
    idle_waits stopped (away b is gone) = absurd (let same = same_Some b a (sym is ∙ e) in
        let f : true ≡ false = sym gone ∙ subst (λ (c : StayState). c.away ≡ false) (sym same) ready in cc)
    idle_waits stopped (kept_out other inside apart) = absurd (apart (outside other inside))
    idle_waits stopped (waits b number outer is free fine innermost not_done) =
        let same = same_Some b a (sym is ∙ e) in
        let at = subst (λ (c : StayState). instr_at v.program c.top.function c.top.pc ≡ Some fine.0) same fine.1 in
        record {
          is_fine = subst (λ (j : Instr). j.op ≡ op.Fine) (instr_is fine.0 at) fine.2;
          number = number;
          outer = outer;
          innermost = subst (λ (c : StayState). c.finishes ≡ number ∷ outer) same innermost;
          not_done = not_done;
        }

    -- whether it does
    pub idle_is : (t : Bool) → (IsTrue t ↔ (i.op ≡ op.Fine) × WaitsAtFinish a s a s) → (stopped : Bool) → IsTrue t ↔ IsIdleAt (place stopped) key
    idle_is t is stopped = (
      λ yes. (let w = is.0 yes in waits a w.1.number w.1.outer e outside
          (i, subst (λ o. instr_in o a.top.pc ≡ Some i) (sym fetched.is_function) fetched.is_instr, w.0) w.1.innermost w.1.waits),
      λ idle. (let w = idle_waits stopped idle in is.1 (
        w.is_fine,
        record { number = w.number; outer = w.outer; innermost = w.innermost; waits = w.not_done; stay = refl; store = refl },
      )),
    )

    -- a step that closes a finish doesn't wait
    goes_on : (b : StayState) (t : StoreState) → IsWaiting → Steps (route_of i.op) (location_of (place false)) a s i outcome.Goes b t → ⊥
    goes_on b t w steps =
        let closes : ClosesFinish a s b t = subst (λ o. Steps (route_of o) (location_of (place false)) a s i outcome.Goes b t) w.is_fine steps in
        let same : closes.number ≡ w.number = head_is closes.number w.number b.finishes w.outer (sym closes.innermost ∙ w.innermost) in
        w.not_done (subst (λ n. IsDoneHere s n) same closes.done)

    -- a stay that would make too many of something, by its own instruction
    overfills : (stopped : Bool) (limit : Limit) → IsOverfull (place stopped) key limit → Overfills (route_of i.op) (place stopped) a i limit
    overfills stopped limit over =
        let same = same_Some over.stay a (sym over.is_there ∙ e) in
        let at = subst (λ (c : StayState). instr_at v.program c.top.function c.top.pc ≡ Some over.instr) same over.instr_is in
        subst (λ (j : Instr). Overfills (route_of j.op) (place stopped) a j limit) (instr_is over.instr at)
        (subst (λ c. Overfills (route_of over.instr.op) (place stopped) c over.instr limit) same over.overfills)

    -- of an operation that the stay makes by itself
    overfills_by : (stopped : Bool) (r : Route) → (r ≢ route.Async) → (r ≢ route.At) → (r ≢ route.Ata) → (limit : Limit)
        → Overfills r (place stopped) a i limit → OverfillsBy r a s i limit
    overfills_by stopped route.Async ne off far limit h = absurd (ne refl)
    overfills_by stopped route.At ne off far limit h = absurd (off refl)
    overfills_by stopped route.Ata ne off far limit h = absurd (far refl)
    overfills_by stopped (route.Local l) ne off far limit h = h
    overfills_by stopped (route.Make k) ne off far limit h = h
    overfills_by stopped (route.Site k) ne off far limit h = h
    overfills_by stopped route.Export ne off far limit h = h
    overfills_by stopped route.Call ne off far limit h = h
    overfills_by stopped route.Return ne off far limit h = h
    overfills_by stopped route.Print ne off far limit h = h
    overfills_by stopped (route.Region inside) ne off far limit h = h
    overfills_by stopped route.OpenFinish ne off far limit h = h
    overfills_by stopped route.CloseFinish ne off far limit h = h

    -- a step that the stay made by itself was not one too many
    not_placed : (o : Outcome) (b : StayState) (t : StoreState) (r : Route) → ((d : Deed) (j : Instr) → o ≢ outcome.ForPlace d j)
        → Steps r (location_of (place false)) a s i o b t → (r ≢ route.Async) × (r ≢ route.At) × (r ≢ route.Ata)
    not_placed o b t r ne steps = (
      (λ f. ne deed.Begin i (subst (λ q. Steps q (location_of (place false)) a s i o b t) f steps).0),
      (λ f. ne (deed.Depart departure.At) i (subst (λ q. Steps q (location_of (place false)) a s i o b t) f steps).0),
      (λ f. ne (deed.Depart departure.Ata) i (subst (λ q. Steps q (location_of (place false)) a s i o b t) f steps).0),
    )

    none_over : (o : Outcome) (b : StayState) (t : StoreState) → ((d : Deed) (j : Instr) → o ≢ outcome.ForPlace d j)
        → Steps (route_of i.op) (location_of (place false)) a s i o b t → ((limit : Limit) → OverfillsBy (route_of i.op) a s i limit → ⊥)
        → (stopped : Bool) (limit : Limit) → IsOverfull (place stopped) key limit → ⊥
    none_over o b t ne steps full stopped limit over = let off = not_placed o b t (route_of i.op) ne steps in
        full limit (overfills_by stopped (route_of i.op) off.0 off.1 off.2 limit (overfills stopped limit over))

    -- ---- the stay goes on

    pub advanced_goes : (new : Slab StayState) (b : StayState) (t : StoreState)
        → Steps (route_of i.op) (location_of (place false)) a s i outcome.Goes b t → Updates old new key (Some b)
        → ((limit : Limit) → OverfillsBy (route_of i.op) a s i limit → ⊥) → IsAdvanced v old s key (Ok (stepped.Moved no_sent)) new t
    advanced_goes new b t steps up full =
        let here = (registered_after (location_of (place false)) a b s t i (working_at (place false) key a standing e ready).registered steps).here in
        let places = (registered_after (location_of (place false)) a b s t i
        (working_at (place false) key a standing e ready).registered steps).places in
        let leads = λ (stopped : Bool). subst (λ q. LeadsAll (place stopped) key (stepped.Moved no_sent) q)
        (seen_after v old new s t stopped here places) (step_leads (place stopped) key a i e checks ready outside fetched new t b steps
        (plain_updates up)) in
        record {
          idle = λ stopped h. absurd (goes_on b t (idle_waits stopped h) steps);
          only = λ stopped f. absurd cc;
          some = λ stopped c is on. leads stopped;
          refused = λ stopped. tt;
          same = tt;
          full = λ stopped limit over. absurd (none_over outcome.Goes b t (λ d j f. absurd cc) steps full stopped limit over);
          standing = standing_after (place false) (place_of v new t false) key (stepped.Moved no_sent) standing (leads false);
          here = here;
          places = places;
        }

    -- ---- it waits at the end of a finish

    -- and has changed nothing
    pub waits_here : (new : Slab StayState) (b : StayState) (t : StoreState)
        → Steps (route_of i.op) (location_of (place false)) a s i outcome.Waits b t → (stopped : Bool) → IsIdleAt (place stopped) key
    waits_here new b t steps stopped =
        let by = waits_by (place false) key a i e checks ready outside fetched (route_of i.op) t b steps in
        waits a by.1.number by.1.outer e outside (
          i,
          subst (λ o. instr_in o a.top.pc ≡ Some i) (sym fetched.is_function) fetched.is_instr,
          is_close_finish i.op by.0,
        ) by.1.innermost by.1.waits

    pub advanced_waits : (new : Slab StayState) (b : StayState) (t : StoreState)
        → Steps (route_of i.op) (location_of (place false)) a s i outcome.Waits b t → plain new ≡ plain old → t ≡ s
        → ((limit : Limit) → OverfillsBy (route_of i.op) a s i limit → ⊥) → IsAdvanced v old s key (Ok stepped.Idle) new t
    advanced_waits new b t steps stays store full =
        let same : IsUntouched old s new t = record { stays = stays; store = store } in
        record {
          idle = λ stopped h. (refl, same);
          only = λ stopped f. waits_here new b t steps stopped;
          some = λ stopped c is on. subst (λ (slab : Slab StayState).
              LeadsAll (place stopped) key stepped.Idle (record (place_of v new t stopped) { stays = slab })) (sym stays)
              (subst (λ u. LeadsAll (place stopped) key stepped.Idle (place_of v old u stopped)) (sym store)
              (wait_leads (place stopped) key a i e checks ready outside fetched t b steps));
          refused = λ stopped. tt;
          same = tt;
          full = λ stopped limit over. absurd (none_over outcome.Waits b t (λ d j f. absurd cc) steps full stopped limit over);
          standing = still_standing v old new s t same standing;
          here = ap (λ (u : StoreState). u.here) store;
          places = ap (λ (u : StoreState). u.places) store;
        }

    -- it has changed nothing
    pub waits_same : (b : StayState) (t : StoreState) → Steps (route_of i.op) (location_of (place false)) a s i outcome.Waits b t
        → with_value old key b ≡ old
    waits_same b t steps = (let by = waits_by (place false) key a i e checks ready outside fetched (route_of i.op) t b steps in
        ap (with_value old key) by.1.stay ∙ with_same old key a e)

    -- as the stay leaves it
    pub advanced_left : (b : StayState) (t : StoreState) → Steps (route_of i.op) (location_of (place false)) a s i outcome.Waits b t
        → ((limit : Limit) → OverfillsBy (route_of i.op) a s i limit → ⊥) → IsAdvanced v old s key (Ok stepped.Idle) (with_value old key b) t
    advanced_left b t steps full =
        let by = waits_by (place false) key a i e checks ready outside fetched (route_of i.op) t b steps in
        advanced_waits (with_value old key b) b t steps (ap plain (ap (with_value old key) by.1.stay ∙ with_same old key a e)) by.1.store full

    -- ---- it is refused

    -- where a step would find nothing to do it isn't refused
    not_refused : (why : Stop) → IsWaiting → Refuses (route_of i.op) a s i why → ⊥
    not_refused why w refuses = subst (λ o. Refuses (route_of o) a s i why) w.is_fine refuses

    pub advanced_refused : (new : Slab StayState) (t : StoreState) (why : Stop) → plain new ≡ plain old → t ≡ s → Refuses (route_of i.op) a s i why
        → ((limit : Limit) → OverfillsBy (route_of i.op) a s i limit → why ≡ stop.Limit limit) → IsAdvanced v old s key (Err why) new t
    advanced_refused new t why stays store refuses full =
        let same : IsUntouched old s new t = record { stays = stays; store = store } in
        record {
          idle = λ stopped h. absurd (not_refused why (idle_waits stopped h) refuses);
          only = λ stopped f. absurd cc;
          some = λ stopped c is on. tt;
          refused = λ stopped. hindered (place stopped) key a e ready outside i fetched why refuses;
          same = same;
          full = λ stopped limit over. ap Err (full limit (overfills_by stopped (route_of i.op) (λ f. not_made route.Async f refuses)
              (λ f. not_made route.At f refuses) (λ f. not_made route.Ata f refuses) limit (overfills stopped limit over)));
          standing = still_standing v old new s t same standing;
          here = ap (λ (u : StoreState). u.here) store;
          places = ap (λ (u : StoreState). u.places) store;
        }
      where
        not_made : (r : Route) → route_of i.op ≡ r → Refuses (route_of i.op) a s i why → Refuses r a s i why
        not_made r f h = subst (λ q. Refuses q a s i why) f h

    -- ---- the step is for the place to make

    -- as the stay leaves it
    module _ (d : Deed) (j : Instr) (b : StayState) (t : StoreState)
        (steps : Steps (route_of i.op) (location_of (place false)) a s i (outcome.ForPlace d j) b t) where
      same_stay : (b ≡ a) × (t ≡ s)
      same_stay = left_unchanged (location_of (place false)) a a b s s t 0 i still
          (working_at (place false) key a standing e ready).typed.stands.placed fetched d j (route_of i.op) steps

      pub handed : (with_value old key b ≡ old) × (t ≡ s)
      handed = (ap (with_value old key) same_stay.0 ∙ with_same old key a e, same_stay.1)

      here_for : IsForPlace v old s key d i
      here_for = let made = made_there (location_of (place false)) a b s t i d j (route_of i.op) refl steps in
          record { standing = standing; stay = a; is_there = e; ready = ready; outside = outside; fetched = fetched; op_is = made.1; last = made.2 }

      pub for_place : IsForPlace v (with_value old key b) t key d j
      for_place = let made = made_there (location_of (place false)) a b s t i d j (route_of i.op) refl steps in
          subst (λ k. IsForPlace v (with_value old key b) t key d k) (sym made.0)
          (subst (λ (slab : Slab StayState). IsForPlace v slab t key d i) (sym handed.0)
          (subst (λ u. IsForPlace v old u key d i) (sym handed.1) here_for))

      not_waiting : IsWaiting → ⊥
      not_waiting w = subst (λ o. Steps (route_of o) (location_of (place false)) a s i (outcome.ForPlace d j) b t) w.is_fine steps

      over_again : (stopped : Bool) (limit : Limit) → IsOverfull (place stopped) key limit
          → IsOverfull (place_of v (with_value old key b) t false) key limit
      over_again stopped limit over =
          subst (λ (slab : Slab StayState). IsOverfull (place_of v slab t false) key limit) (sym handed.0)
          (subst (λ u. IsOverfull (place_of v old u false) key limit) (sym handed.1) (stopped_over (place stopped) false key limit over))

      pub advanced_placed : (new : Slab StayState) (u : StoreState) (sent : Sent) → IsMade v (with_value old key b) t key sent new u
          → ((limit : Limit) → IsOverfull (place_of v (with_value old key b) t false) key limit → ⊥)
          → IsAdvanced v old s key (Ok (stepped.Moved sent)) new u
      advanced_placed new u sent made full =
          let here : IsMade v old s key sent new u = subst (λ (slab : Slab StayState). IsMade v slab s key sent new u) handed.0
          (subst (λ q. IsMade v (with_value old key b) q key sent new u) handed.1 made) in
          record {
            idle = λ stopped h. absurd (not_waiting (idle_waits stopped h));
            only = λ stopped f. absurd cc;
            some = λ stopped c is on. here.leads stopped;
            refused = λ stopped. tt;
            same = tt;
            full = λ stopped limit over. absurd (full limit (over_again stopped limit over));
            standing = standing_after (place false) (place_of v new u false) key (stepped.Moved sent) standing (here.leads false);
            here = here.here;
            places = here.places;
          }

      pub hindered_placed : (new : Slab StayState) (u : StoreState) (why : Stop) → IsUntouched (with_value old key b) t new u
          → IsHindered (place_of v (with_value old key b) t false) key why
          → ((limit : Limit) → IsOverfull (place_of v (with_value old key b) t false) key limit → why ≡ stop.Limit limit)
          → IsAdvanced v old s key (Err why) new u
      hindered_placed new u why same hinders full =
          let here : IsUntouched old s new u = subst (λ (slab : Slab StayState). IsUntouched slab s new u) handed.0
          (subst (λ q. IsUntouched (with_value old key b) q new u) handed.1 same) in
          let by : IsHindered (place false) key why = subst (λ (slab : Slab StayState). IsHindered (place_of v slab s false) key why) handed.0
          (subst (λ q. IsHindered (place_of v (with_value old key b) q false) key why) handed.1 hinders) in
          record {
            idle = λ stopped h. absurd (not_waiting (idle_waits stopped h));
            only = λ stopped f. absurd cc;
            some = λ stopped c is on. tt;
            refused = λ stopped. flagged_hindered (place false) stopped key why by;
            same = here;
            full = λ stopped limit over. ap Err (full limit (over_again stopped limit over));
            standing = still_standing v old new s u here standing;
            here = ap (λ (q : StoreState). q.here) here.store;
            places = ap (λ (q : StoreState). q.places) here.store;
          }

-- the steps of a stay at the place that its place says it is
pub steps_as : (program : Module) (locality : Locality) (s : StoreState) (a : StayState) (i : Instr) (o p : Outcome) (b : StayState) (t : StoreState)
    → locality.here ≡ s.here → locality.places ≡ s.places → o ≡ p → Steps (route_of i.op) (location program locality) a s i o b t
    → Steps (route_of i.op) (record { program = program; here = s.here; places = s.places }) a s i p b t
steps_as program locality s a i o p b t here places same steps =
    subst (λ at. Steps (route_of i.op) at a s i p b t) (ap₂ (λ h k. location program (record { here = h; places = k })) here places)
    (subst (λ q. Steps (route_of i.op) (location program locality) a s i q b t) same steps)

-- a stay that can move stands at an instruction
pub inside_at : (v : Certified) (old : Slab StayState) (s : StoreState) (key : ℕ) (a : StayState) → IsStanding (place_of v old s false)
    → get old key ≡ Some a → a.away ≡ false → IsInside v.program a.top
inside_at v old s key a standing e ready = (working_at (place_of v old s false) key a standing e ready).typed.stands.placed.top

-- the finish at whose end it stands
pub finish_there : (v : Certified) (old : Slab StayState) (s : StoreState) (key : ℕ) (a : StayState) (i : Instr) → IsStanding (place_of v old s false)
    → IsChecked v.program → get old key ≡ Some a → a.away ≡ false → IsFetchedFor v.program a.top i → i.op ≡ op.Fine → HasFinish a s
finish_there v old s key a i standing checks e ready fetched fine =
    has_finish (location_of (place_of v old s false)) s a (working_at (place_of v old s false) key a standing e ready) checks i fetched fine

-- what it reads is there
pub reads_at : (v : Certified) (old : Slab StayState) (s : StoreState) (key : ℕ) (a : StayState) (locality : Locality) (i : Instr)
    → IsStanding (place_of v old s false) → IsChecked v.program → get old key ≡ Some a → a.away ≡ false → IsFetchedFor v.program a.top i
    → locality.here ≡ s.here → locality.places ≡ s.places
    → ReadsStore (route_of i.op) (location v.program locality) a s i
reads_at v old s key a locality i standing checks e ready fetched here places =
    subst (λ at. ReadsStore (route_of i.op) at a s i) (sym (ap₂ (λ h k. location v.program (record { here = h; places = k })) here places))
    (working_reads (location_of (place_of v old s false)) s a (working_at (place_of v old s false) key a standing e ready) checks i fetched)
