-- Steps of a stay are steps of its place, and a place stands for some place of the machine after each of them.
use Rattle.std.proofs.Common.{◌≡◌, ℕ, Bool, true, false, List, Option, Some, None, refl, sym, ap, ap₂, subst, ◌∙◌, inl, inr}
use Rattle.std.specs.Prelude.{slice_set}
use Rattle.std.proofs.lemmas.List.{set-get_or}
use Rattle.slab.specs.Slab.{Slab, get, Updates, with_value}
use Rattle.x10_code.specs.declared.instr.Instr.{Instr}
use Rattle.x10_kinds.specs.declared.limit.Limit.{Limit}
use Rattle.x10_kinds.specs.declared.limit.Limit.TheVariants as limits
use Rattle.x10_kinds.specs.declared.stop.Stop.{Stop}
use Rattle.x10_model.specs.Ranges.{instr_in}
use Rattle.x10_model.specs.Places as machine
use Rattle.x10_verify.specs.Certified.{Certified}
use Rattle.x10_place.specs.Frames.{IsFetchedFor}
use Rattle.x10_place.specs.Routes.{route_of}
use Rattle.x10_place.specs.declared.place.Stepped.{Stepped}
use Rattle.x10_place.specs.declared.place.Stepped.TheVariants as stepped
use Rattle.x10_place.specs.declared.sent.Sent.{Sent}
use Rattle.x10_place.specs.Messages.{no_sent}
use Rattle.x10_place.specs.declared.route.Route.{Route}
use Rattle.x10_place.specs.declared.route.Route.TheVariants as route
use Rattle.x10_place.specs.declared.outcome.Outcome.TheVariants as outcome
use Rattle.x10_place.specs.Stays.{StayState, StoreState, Location, OverfillsBy, Refuses}
use Rattle.x10_place.specs.StandsFor.{location_of, Far, Overfills, IsOverfull, IsHindered, PlaceState, place_of, plain, store_of, with_stays, StandsFor, IsStanding, LeadsAll, AreOutside}
use Rattle.x10_place.specs.WorkingStays.{IsWorking}
use Rattle.x10_place.specs.Stretches.{IsStep, Stretch, still, further, IsStride, Strides, at_once, onward, StridesTo, nowhere, finally}
use Rattle.x10_place.proofs.StandingFrames.{IsChecked}
use Rattle.x10_place.proofs.CountedStays.{registered_at}
use Rattle.x10_place.proofs.StretchesOfStay.{working_after}
use Rattle.x10_place.proofs.Steps.{step_leads}
use Rattle.x10_place.proofs.KeptStays.{written}
use Rattle.x10_place.proofs.Insides.{outside_after}

-- ---- slabs

pub with_same : (slab : Slab StayState) (key : ℕ) (a : StayState) → get slab key ≡ Some a → with_value slab key a ≡ slab
with_same slab key a e = ap (λ (slots : List (Option StayState)). record slab { slots = slots })
    (ap (slice_set slab.slots key) (sym e) ∙ set-get_or slab.slots key None)

-- another stay in place of the one written
rewritten : (slab : Slab StayState) (key : ℕ) (a b c : StayState) → get slab key ≡ Some a
    → Updates (with_value slab key b) (with_value slab key c) key (Some c)
rewritten slab key a b c e = record {
  changed = (written slab key a c e).changed;
  others = λ k ne. (written slab key a c e).others k ne ∙ sym ((written slab key a b e).others k ne);
}

-- how much room there is changes nothing
plain_rewritten : (slab : Slab StayState) (key : ℕ) (a b c : StayState) → get slab key ≡ Some a
    → Updates (plain (with_value slab key b)) (with_value slab key c) key (Some c)
plain_rewritten slab key a b c e = let r = rewritten slab key a b c e in record { changed = r.changed; others = r.others }

-- ---- strides

-- a place that is seen after a step, by its number and how many there are
pub seen_after : (v : Certified) (old new : Slab StayState) (s t : StoreState) (stopped : Bool) → t.here ≡ s.here → t.places ≡ s.places
    → with_stays (place_of v old s stopped) new t ≡ place_of v new t stopped
seen_after v old new s t stopped here places = ap₂ (λ h k. place_of v new (record t { here = h; places = k }) stopped) (sym here) (sym places)

-- what it keeps, seen in the same way
same_store : (v : Certified) (old new : Slab StayState) (s t : StoreState) (stopped : Bool) → t.here ≡ s.here → t.places ≡ s.places
    → store_of (with_stays (place_of v old s stopped) new t) ≡ t
same_store v old new s t stopped here places = ap₂ (λ h k. record t { here = h; places = k }) (sym here) (sym places)

a_stride : (p : PlaceState) (key : ℕ) (a b : StayState) (slab : Slab StayState) (t : StoreState) → IsChecked p.program → get p.stays key ≡ Some a
    → a.away ≡ false → AreOutside p.stays key → IsStep (location_of p) a (store_of p) outcome.Goes b t → Updates p.stays slab key (Some b)
    → IsStride key p no_sent (with_stays p slab t)
a_stride p key a b slab t checks e ready outside step up = record {
  there = (a, e);
  leads = step_leads p key a step.instr e checks ready outside step.fetched slab t b step.steps up;
  kept = record { program = refl; bounds = refl; id = refl; places = refl };
  stopped = refl;
}

module _ (v : Certified) (old : Slab StayState) (s : StoreState) (stopped : Bool) (checks : IsChecked v.program) (key : ℕ) (a : StayState)
    (e : get old key ≡ Some a) (outside : AreOutside old key) where
  abbrev place : PlaceState
  place = place_of v old s stopped

  abbrev at : Location
  at = location_of place

  -- the place with another stay under the key
  abbrev with_one : StayState → StoreState → PlaceState
  with_one b t = with_stays place (with_value old key b) t

  -- the steps of a stay are steps of its place
  strides : (n : ℕ) (b : StayState) (t : StoreState) → IsWorking at s a → Stretch at a s n b t → Strides key place n (with_one b t) × IsWorking at t b
  strides n b t w (still) = (subst (λ slab. Strides key place 0 (with_stays place slab s)) (sym (with_same old key a e)) at_once, w)
  strides n b t w (further k c d before after stretch step) =
      let r = strides k c before w stretch in
      let so_far = with_one c before in
      let seen = same_store v old (with_value old key c) s before stopped r.1.registered.here r.1.registered.places in (
        onward k so_far (with_one d after) r.0
            (a_stride so_far key c d (with_value old key d) after checks ((written old key a c e).changed) r.1.ready
            (outside_after old (with_value old key c) key (Some c) (written old key a c e) outside)
            (subst (λ u. IsStep at c u outcome.Goes d after) (sym seen) step) (plain_rewritten old key a c d e)),
        working_after at c d before after step.instr checks r.1 step.fetched step.steps,
      )

  -- the stay and the place after so many steps
  pub record Gone (n : ℕ) (b : StayState) (t : StoreState) : Type 0 where
    pub strides_are : Strides key place n (place_of v (with_value old key b) t stopped)
    pub working : IsWorking at t b
    pub here : t.here ≡ s.here
    pub places : t.places ≡ s.places

  pub gone : (n : ℕ) (b : StayState) (t : StoreState) → IsWorking at s a → Stretch at a s n b t → Gone n b t
  gone n b t w stretch =
      let r = strides n b t w stretch in
      record {
        strides_are = subst (λ q. Strides key place n q) (seen_after v old
            (with_value old key b) s t stopped r.1.registered.here r.1.registered.places) r.0;
        working = r.1;
        here = r.1.registered.here;
        places = r.1.registered.places;
      }

-- ---- some place of the machine is stood for

abbrev any : Far
any home id class = true

pub standing_after : (p q : PlaceState) (key : ℕ) (answer : Stepped) → IsStanding p → LeadsAll p key answer q → IsStanding q
standing_after p q key answer s leads = let led = leads any s.0 s.1 in (led.new, led.stands)

pub strides_standing : (p : PlaceState) (key n : ℕ) (q : PlaceState) → IsStanding p → Strides key p n q → IsStanding q
strides_standing p key n q s (at_once) = s
strides_standing p key n q s (onward k r t far stride) = standing_after r q key (stepped.Moved no_sent)
    (strides_standing p key k r s far) stride.leads

pub to_standing : (p : PlaceState) (key n : ℕ) (sent : Sent) (q : PlaceState) → IsStanding p → StridesTo key p n sent q → IsStanding q
to_standing p key n sent q s (nowhere) = s
to_standing p key n sent q s (finally k r out t far stride) =
    standing_after r q key (stepped.Moved out) (strides_standing p key k r s far) stride.leads

-- steps of which each puts out nothing
pub silent_to : (p : PlaceState) (key n : ℕ) (q : PlaceState) → Strides key p n q → StridesTo key p n no_sent q
silent_to p key n q (at_once) = nowhere
silent_to p key n q (onward k r t far stride) = finally k r no_sent t far stride

-- whether the place has stopped is nothing to the machine
pub stopped_stands : (far : Far) (p : PlaceState) (m : machine.Place) (b : Bool) → StandsFor far p m → StandsFor far (record p { stopped = b }) m
stopped_stands far p m b s = record {
  assigned = s.assigned;
  none = s.none;
  keys = s.keys;
  some = s.some;
  site = s.site;
  heap = s.heap;
  exports = s.exports;
  opened = s.opened;
  lines = s.lines;
  tallied = s.tallied;
  booked = s.booked;
}

pub stopped_standing : (p : PlaceState) (b : Bool) → IsStanding p → IsStanding (record p { stopped = b })
stopped_standing p b s = (s.0, stopped_stands any p s.0 b s.1)

-- a place that has stopped
pub same_stopped : (p : PlaceState) → p.stopped ≡ true → p ≡ record p { stopped = true }
same_stopped p e = ap (λ b. record p { stopped = b }) e

-- ---- each stay that isn't away can make steps

pub working_at : (p : PlaceState) (key : ℕ) (a : StayState) → IsStanding p → get p.stays key ≡ Some a → a.away ≡ false
    → IsWorking (location_of p) (store_of p) a
working_at p key a s e ready =
    let found = s.1.some key a e in
    record {
      ready = ready;
      typed = record {
        assigned = s.1.assigned;
        site = s.1.site;
        named = s.1.exports.named;
        far = any;
        stay = found.0;
        stands = found.2;
        cells = s.0.cells;
        holds = s.1.heap;
      };
      registered = registered_at any p s.0 key a s.1 e;
    }

-- ---- refusals

overfull_by : (r : Route) (p : PlaceState) (a : StayState) (i : Instr) (limit : Limit) → OverfillsBy r a (store_of p) i limit
    → Overfills r p a i limit
overfull_by route.Async p a i limit h = absurd h
overfull_by (route.Local l) p a i limit h = h
overfull_by (route.Make k) p a i limit h = h
overfull_by (route.Site k) p a i limit h = h
overfull_by route.Export p a i limit h = h
overfull_by route.Call p a i limit h = h
overfull_by route.Return p a i limit h = h
overfull_by route.Print p a i limit h = h
overfull_by (route.Region inside) p a i limit h = h
overfull_by route.OpenFinish p a i limit h = h
overfull_by route.CloseFinish p a i limit h = h
overfull_by route.At p a i limit h = absurd h
overfull_by route.Ata p a i limit h = absurd h

module _ (p : PlaceState) (key : ℕ) (b : StayState) (there : get p.stays key ≡ Some b) (ready : b.away ≡ false) (outside : AreOutside p.stays key)
    (i : Instr) (fetched : IsFetchedFor p.program b.top i) where
  pub overfull : (limit : Limit) → Overfills (route_of i.op) p b i limit → IsOverfull p key limit
  overfull limit over = record {
    stay = b;
    is_there = there;
    is_ready = ready;
    is_free = outside;
    instr = i;
    instr_is = subst (λ o. instr_in o b.top.pc ≡ Some i) (sym fetched.is_function) fetched.is_instr;
    overfills = over;
  }

  overfull_at : (r : Route) → route_of i.op ≡ r → (limit : Limit) → OverfillsBy r b (store_of p) i limit → IsOverfull p key limit
  overfull_at r e limit over = overfull limit (overfull_by (route_of i.op) p b i limit
      (subst (λ q. OverfillsBy q b (store_of p) i limit) (sym e) over))

  hindered_by : (r : Route) (why : Stop) → route_of i.op ≡ r → Refuses r b (store_of p) i why → IsHindered p key why
  hindered_by (route.Make m) why e (inl memory) = inl memory
  hindered_by (route.Make m) why e (inr limit) = inr (limit.0, limit.1, inl (overfull_at (route.Make m) e limit.0 limit.2))
  hindered_by route.Export why e (inl memory) = inl memory
  hindered_by route.Export why e (inr limit) = inr (limit.0, limit.1, inl (overfull_at route.Export e limit.0 (limit.2, limit.3)))
  hindered_by (route.Region inside) why e h = absurd h
  hindered_by route.OpenFinish why e (inl memory) = inl memory
  hindered_by route.OpenFinish why e (inr limit) = inr (
    limits.Finishes,
    limit.0,
    inl (overfull_at route.OpenFinish e limits.Finishes (refl, limit.1)),
  )
  hindered_by route.Call why e memory = inl memory
  hindered_by route.Print why e memory = inl memory
  hindered_by (route.Site k) why e h = absurd h
  hindered_by (route.Local l) why e h = absurd h
  hindered_by route.Return why e h = absurd h
  hindered_by route.CloseFinish why e h = absurd h
  hindered_by route.Async why e h = absurd h
  hindered_by route.At why e h = absurd h
  hindered_by route.Ata why e h = absurd h

  -- why a step at a place is refused
  pub hindered : (why : Stop) → Refuses (route_of i.op) b (store_of p) i why → IsHindered p key why
  hindered why refuses = hindered_by (route_of i.op) why refl refuses

-- whether a place has stopped is nothing to what a step would make
flagged_overfills : (r : Route) (p : PlaceState) (b : Bool) (a : StayState) (i : Instr) (limit : Limit) → Overfills r p a i limit
    → Overfills r (record p { stopped = b }) a i limit
flagged_overfills route.Async p b a i limit h = h
flagged_overfills route.At p b a i limit h = h
flagged_overfills route.Ata p b a i limit h = h
flagged_overfills (route.Make m) p b a i limit h = h
flagged_overfills route.Export p b a i limit h = h
flagged_overfills (route.Region inside) p b a i limit h = absurd h
flagged_overfills route.OpenFinish p b a i limit h = h
flagged_overfills (route.Site k) p b a i limit h = absurd h
flagged_overfills (route.Local l) p b a i limit h = absurd h
flagged_overfills route.Call p b a i limit h = absurd h
flagged_overfills route.Return p b a i limit h = absurd h
flagged_overfills route.Print p b a i limit h = absurd h
flagged_overfills route.CloseFinish p b a i limit h = absurd h

pub stopped_over : (p : PlaceState) (b : Bool) (key : ℕ) (limit : Limit) → IsOverfull p key limit → IsOverfull (record p { stopped = b }) key limit
stopped_over p b key limit h = record {
  stay = h.stay;
  is_there = h.is_there;
  is_ready = h.is_ready;
  is_free = h.is_free;
  instr = h.instr;
  instr_is = h.instr_is;
  overfills = flagged_overfills (route_of h.instr.op) p b h.stay h.instr limit h.overfills;
}

pub flagged_hindered : (p : PlaceState) (b : Bool) (key : ℕ) (why : Stop) → IsHindered p key why → IsHindered (record p { stopped = b }) key why
flagged_hindered p b key why (inl memory) = inl memory
flagged_hindered p b key why (inr (limit, is, inl h)) = inr (limit, is, inl (stopped_over p b key limit h))
flagged_hindered p b key why (inr (limit, is, inr h)) =
    inr (
      limit,
      is,
      inr (record {
        stay = h.stay;
        is_there = h.is_there;
        is_ready = h.is_ready;
        is_free = h.is_free;
        instr = h.instr;
        instr_is = h.instr_is;
        sends = h.sends;
        overloads = h.overloads;
      }),
    )

pub stopped_hindered : (p : PlaceState) (key : ℕ) (why : Stop) → IsHindered p key why → IsHindered (record p { stopped = true }) key why
stopped_hindered p key why h = flagged_hindered p true key why h
