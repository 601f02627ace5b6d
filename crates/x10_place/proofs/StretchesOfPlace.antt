-- Steps of the stay with a key at a stretch, as its place makes them.
use Rattle.std.proofs.Common.{◌≡◌, ℕ, ◌+◌, ◌<◌, ◌≤◌, Bool, true, false, Some, None, Result, Ok, Err, refl, sym, ap, ap₂, subst, ◌∙◌, inl, inr, arith}
use Rattle.slab.specs.Slab.{Slab, get, with_value}
use Rattle.x10_kinds.specs.declared.stop.Stop.{Stop}
use Rattle.x10_code.specs.declared.instr.Instr.{Instr}
use Rattle.x10_model.specs.Modules.{Module}
use Rattle.x10_verify.specs.Certified.{Certified}
use Rattle.x10_place.specs.declared.sent.Sent.{Sent}
use Rattle.x10_place.specs.declared.outcome.Deed.{Deed}
use Rattle.x10_place.specs.declared.outcome.Outcome.{Outcome}
use Rattle.x10_place.specs.declared.outcome.Outcome.TheVariants as outcome
use Rattle.x10_place.specs.declared.stay.Locality.{Locality}
use Rattle.x10_place.specs.Routes.{route_of}
use Rattle.x10_place.specs.Messages.{no_sent}
use Rattle.x10_place.specs.Stays.{StayState, StoreState, Location, location, Steps}
use Rattle.x10_place.specs.StandsFor.{PlaceState, place_of, location_of, IsStanding, IsHindered, nobody, away, AreOutside}
use Rattle.x10_place.specs.WorkingStays.{IsWorking}
use Rattle.x10_place.specs.Stretches.{IsStep, Stretch, IsStopped, Paused, Strides, StridesTo, nowhere, finally, IsUntouched, IsForPlace, IsMade, IsRun}
use Rattle.x10_place.proofs.KeptStays.{written}
use Rattle.x10_place.proofs.StandingFrames.{IsChecked}
use Rattle.x10_place.proofs.StretchesOfStay.{made_there}
use Rattle.x10_place.proofs.StepsOfPlace.{gone, strides_standing, to_standing, silent_to, working_at, hindered, flagged_hindered}
use Rattle.x10_place.proofs.StaySteps.{waits_here}
use Rattle.x10_place.proofs.Insides.{outside_after}

module _ (v : Certified) (old : Slab StayState) (s : StoreState) (key : ℕ) (standing : IsStanding (place_of v old s false))
    (checks : IsChecked v.program) where
  abbrev place : Bool → PlaceState
  place stopped = place_of v old s stopped

  -- no step is made where nobody is there
  pub run_nobody : (most : ℕ) → get old key ≡ None → IsRun v old s key most 0 (Ok no_sent) old s
  run_nobody most none = record {
    ran = λ stopped. nowhere;
    few = omega arith;
    all = λ lt stopped. inl (nobody none);
    refused = tt;
    standing = standing;
    here = refl;
    places = refl;
  }

  -- or where the activity is away
  pub run_away : (most : ℕ) (a : StayState) → get old key ≡ Some a → a.away ≡ true → IsRun v old s key most 0 (Ok no_sent) old s
  run_away most a e is = record {
    ran = λ stopped. nowhere;
    few = omega arith;
    all = λ lt stopped. inl (away a e is);
    refused = tt;
    standing = standing;
    here = refl;
    places = refl;
  }

  module _ (a : StayState) (e : get old key ≡ Some a) (ready : a.away ≡ false) (outside : AreOutside old key) where
    abbrev at : Location
    at = location_of (place false)

    working : IsWorking at s a
    working = working_at (place false) key a standing e ready

    -- the stays after so many steps of this one
    abbrev mid : StayState → Slab StayState
    mid c = with_value old key c

    mid_there : (c : StayState) → get (mid c) key ≡ Some c
    mid_there c = (written old key a c e).changed

    module _ (n most : ℕ) (c : StayState) (t : StoreState) (stretch : Stretch at a s n c t) (few : n ≤ most) where
      ran : (stopped : Bool) → Strides key (place stopped) n (place_of v (mid c) t stopped)
      ran stopped = (gone v old s stopped checks key a e outside n c t working stretch).strides_are

      here : t.here ≡ s.here
      here = (gone v old s false checks key a e outside n c t working stretch).here

      places : t.places ≡ s.places
      places = (gone v old s false checks key a e outside n c t working stretch).places

      stands : IsStanding (place_of v (mid c) t false)
      stands = strides_standing (place false) key n (place_of v (mid c) t false) standing (ran false)

      -- a step of the stay as it is now, at its place as it is now
      now : (i : Instr) (o : Outcome) (d : StayState) (u : StoreState) → Steps (route_of i.op) at c t i o d u
          → Steps (route_of i.op) (location_of (place_of v (mid c) t false)) c t i o d u
      now i o d u steps = subst (λ q. Steps (route_of i.op) q c t i o d u)
          (ap₂ (λ h k. record { program = v.program; here = h; places = k }) (sym here) (sym places)) steps

      still_ready : c.away ≡ false
      still_ready = (gone v old s false checks key a e outside n c t working stretch).working.ready

      still_outside : AreOutside (mid c) key
      still_outside = outside_after old (mid c) key (Some c) (written old key a c e) outside

      to : (stopped : Bool) → StridesTo key (place stopped) n no_sent (place_of v (mid c) t stopped)
      to stopped = silent_to (place stopped) key n (place_of v (mid c) t stopped) (ran stopped)

      pub run_goes : n ≡ most → IsRun v old s key most n (Ok no_sent) (mid c) t
      run_goes same = record {
        ran = to;
        few = few;
        all = λ lt stopped. absurd (omega (arith, same, lt));
        refused = tt;
        standing = stands;
        here = here;
        places = places;
      }

      pub run_waits : IsStep at c t outcome.Waits c t → IsRun v old s key most n (Ok no_sent) (mid c) t
      run_waits step = record {
        ran = to;
        few = few;
        all = λ lt stopped. inl (waits_here v (mid c) t key stands checks c (mid_there c) still_ready still_outside step.instr step.fetched
            (mid c) c t (now step.instr outcome.Waits c t step.steps) stopped);
        refused = tt;
        standing = stands;
        here = here;
        places = places;
      }

      pub run_refused : (why : Stop) → IsStopped at c t why → IsRun v old s key most n (Err why) (mid c) t
      run_refused why stop = record {
        ran = ran;
        few = few;
        all = tt;
        refused = λ stopped. hindered (place_of v (mid c) t stopped) key c
            (mid_there c) still_ready still_outside stop.instr stop.fetched why stop.refuses;
        standing = stands;
        here = here;
        places = places;
      }

      -- the place makes the next step
      pub run_for_place : (d : Deed) (i : Instr) → IsStep at c t (outcome.ForPlace d i) c t → IsForPlace v (mid c) t key d i
      run_for_place d i step =
          let made = made_there at c c t t step.instr d i (route_of step.instr.op) refl step.steps in
          subst (λ j. IsForPlace v (mid c) t key d j) (sym made.0)
          (record {
            standing = stands;
            stay = c;
            is_there = mid_there c;
            ready = still_ready;
            outside = still_outside;
            fetched = step.fetched;
            op_is = made.1;
            last = made.2;
          })

      pub run_placed : (new : Slab StayState) (u : StoreState) (sent : Sent) → n < most → IsMade v (mid c) t key sent new u
          → IsRun v old s key most (n + 1) (Ok sent) new u
      run_placed new u sent less made =
          let all_ran = λ (stopped : Bool). finally n (place_of v (mid c) t stopped) sent (place_of v new u stopped) (ran stopped)
          (record {
            there = (c, mid_there c);
            leads = made.leads stopped;
            kept = record { program = refl; bounds = refl; id = made.here; places = made.places };
            stopped = refl;
          }) in
          record {
            ran = all_ran;
            few = omega (arith, less);
            all = λ lt stopped. elim (made.parts stopped) [
              | inl none ↦ inl (nobody none)
              | inr (inl begun) ↦ inr (inl (record {
                before = n;
                count = refl;
                last = place_of v (mid c) t stopped;
                strides = ran stopped;
                begins = begun;
              }))
              | inr (inr some) ↦ inr (inr some)
            ];
            refused = tt;
            standing = to_standing (place false) key (n + 1) sent (place_of v new u false) standing (all_ran false);
            here = made.here ∙ here;
            places = made.places ∙ places;
          }

      pub run_not_placed : (new : Slab StayState) (u : StoreState) (why : Stop) → IsUntouched (mid c) t new u
          → IsHindered (place_of v (mid c) t false) key why → IsRun v old s key most n (Err why) new u
      run_not_placed new u why same hinders = record {
        ran = λ stopped. seen stopped (λ q. Strides key (place stopped) n q) (ran stopped);
        few = few;
        all = tt;
        refused = λ stopped. seen stopped (λ q. IsHindered q key why) (flagged_hindered (place_of v (mid c) t false) stopped key why hinders);
        standing = seen false IsStanding stands;
        here = ap (λ (q : StoreState). q.here) same.store ∙ here;
        places = ap (λ (q : StoreState). q.places) same.store ∙ places;
      }
        where
          seen : (stopped : Bool) (P : PlaceState → Type 0) → P (place_of v (mid c) t stopped) → P (place_of v new u stopped)
          seen stopped P h = subst (λ (slab : Slab StayState). P (record (place_of v new u stopped) { stays = slab })) (sym same.stays)
              (subst (λ q. P (place_of v (mid c) q stopped)) (sym same.store) h)

-- a pause at the place that the place says it is
pub paused_as : (program : Module) (locality : Locality) (s : StoreState) (a : StayState) (p q : Result Outcome Stop) (n : ℕ) (b : StayState)
    (t : StoreState) → locality.here ≡ s.here → locality.places ≡ s.places → p ≡ q → Paused p (location program locality) a s n b t
    → Paused q (record { program = program; here = s.here; places = s.places }) a s n b t
paused_as program locality s a p q n b t here places same ran =
    subst (λ at. Paused q at a s n b t) (ap₂ (λ h k. location program (record { here = h; places = k })) here places)
    (subst (λ r. Paused r (location program locality) a s n b t) same ran)

pub working_as : (v : Certified) (old : Slab StayState) (s : StoreState) (key : ℕ) (a : StayState) (locality : Locality)
    → IsStanding (place_of v old s false) → get old key ≡ Some a → a.away ≡ false → locality.here ≡ s.here → locality.places ≡ s.places
    → IsWorking (location v.program locality) s a
working_as v old s key a locality standing e ready here places =
    subst (λ at. IsWorking at s a) (sym (ap₂ (λ h k. location v.program (record { here = h; places = k })) here places))
    (working_at (place_of v old s false) key a standing e ready)
