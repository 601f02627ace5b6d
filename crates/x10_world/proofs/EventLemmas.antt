-- What a step does to places and frames in flight is an event of each world of the machine for which they stand.
use Rattle.std.proofs.Common.{◌≡◌, ◌≢◌, ℕ, Bool, true, false, List, [], length, Option, Some, None, Result, Ok, Err, refl, sym, ap, subst, ◌∙◌, inl, inr}
use Rattle.std.specs.Prelude.{slice_get, slice_set}
use Rattle.std.proofs.lemmas.Option.{same_Some}
use Rattle.slab.specs.Slab.{get}
use Rattle.x10_kinds.specs.declared.stop.Stop.{Stop}
use Rattle.x10_model.specs.Modules.{Module}
use Rattle.x10_model.specs.Structure.{bounds_of}
use Rattle.x10_model.specs.declared.event.Event.{Event}
use Rattle.x10_model.specs.declared.event.Event.TheVariants.{Step}
use Rattle.x10_model.specs.Places as machine
use Rattle.x10_model.specs.Places.{Waits}
use Rattle.x10_model.specs.Worlds.{World, Ideal, Happens, Steps, steps, idle, no_place, no_stay, is_away, is_kept_out}
use Rattle.x10_model.proofs.Lists.{none_some, set_same}
use Rattle.x10_verify.specs.Certified.{Certified}
use Rattle.x10_place.specs.declared.place.Stepped.{Stepped}
use Rattle.x10_place.specs.declared.place.Stepped.TheVariants as stepped
use Rattle.x10_place.specs.declared.sent.Outgoing.{Outgoing}
use Rattle.x10_place.specs.declared.sent.Sent.{Sent}
use Rattle.x10_place.specs.Stays.{StayState, finish_at}
use Rattle.x10_place.specs.StandsFor.{PlaceState, Far, StandsFor, Keeps, Answers, LeadsAll, IsHindered, IsIdleAt, nobody, away, context_of, store_of, inside_at, AreOutside, kept_out, waits}
use Rattle.x10_world.specs.Happenings.{AreUnchanged, Happened}
use Rattle.x10_flights.specs.Flights.{FlightsState, with_room}
use Rattle.x10_world.specs.Prompt.{MayEnd, IsPrompt}
use Rattle.x10_world.specs.StandsForWorld.{world_of, BelongTo, IsWorld, setting_in, far_in, AllStandFor, with_posted, with_sent, after_step, GoesBelow, IsMadeStep, IsStepped, StepsOne, IsRoomless}
use Rattle.x10_world.specs.Runs.{AreHalted}
use Rattle.x10_world.specs.EventAnswers.{Handles}
use Rattle.x10_place.proofs.KnownExports.{put_within}
use Rattle.x10_world.proofs.ChangedPlace.{ChangesOne, belong_after, none_stopped_after, length_after, few_after}
use Rattle.x10_world.proofs.StepLemmas.{step_leads}
use Rattle.x10_world.proofs.StoppedWorlds.{stand_stopped, stand_roomy}
use Rattle.x10_world.proofs.Courses.{unchanged_self, sent_same}
use Rattle.x10_world.proofs.WaitLemmas.{idle_prompt}
use Rattle.x10_place.proofs.Insides.{kept_out_of, outside_by}

-- ---- where frames go

pub goes_below : (p : PlaceState) (m : machine.Place) (far : Far) (key : ℕ) (out : Sent) (q : PlaceState) → StandsFor far p m
    → LeadsAll p key (stepped.Moved out) q → GoesBelow p.places out
goes_below p m far key out q stand leads =
    let led = leads far m stand in
    let within = put_within p.program (context_of far p) (store_of p) led.effect out refl led.answers.1 in
    record { message = within.message; report = within.report }

-- ---- a step that was made

-- an event of the machine, to a world for which the new places and frames stand
abbrev pub MakesIn : Module → List ℕ → List PlaceState → FlightsState → World → Event → List PlaceState → FlightsState → Type 0
MakesIn program bounds places flights w event new after = (v : World) × (h : Happens Ideal (setting_in program places) w event v)
    × (flights.flying ≡ [] → IsPrompt Ideal (setting_in program places) w event v h) × AllStandFor program bounds new after v

idle_not : (out : Sent) → stepped.Moved out ≡ stepped.Idle → ⊥
idle_not out e = cc

module _ (program : Module) (bounds : List ℕ) (places : List PlaceState) (flights : FlightsState) (w : World) (here key : ℕ) (p : PlaceState)
    (bounds-are : bounds_of program ≡ Ok bounds) (belong : BelongTo program bounds (length places) places)
    (stand : AllStandFor program bounds places flights w)
    (is : slice_get places here ≡ Some p) where
  -- where no frame flies, a step waits only where its place finds nothing to do
  step_prompt : (q : PlaceState) (answer : Stepped) (v : World) (s : Steps Ideal (setting_in program places) w here key v) → IsMadeStep p q key answer
      → Answers (far_in w) p answer s.effect → flights.flying ≡ [] → (number : ℕ) → s.effect ≡ Waits number → MayEnd w (finish_at here number) → ⊥
  step_prompt q (stepped.Moved out) v s made answers still number e may = answers.0 number e
  step_prompt q stepped.Idle v s made answers still number e may =
      idle_prompt program bounds places flights w here key number p s.old s.new s.effect belong stand still is
      (made.only refl) s.place_is s.moves e may

  -- nothing has changed
  still_stand : (q : PlaceState) (answer : Stepped) → (answer ≡ stepped.Idle) × (q ≡ p)
      → AllStandFor program bounds (slice_set places here q) (after_step flights answer) w
  still_stand q answer e =
      subst (λ x. AllStandFor program bounds (slice_set places here q) (after_step flights x) w) (sym e.0)
      (subst (λ ps. AllStandFor program bounds ps flights w) (sym (ap (λ r. slice_set places here r) e.1 ∙ set_same places here p is)) stand)

  -- another is inside an atomic region
  kept_makes : (q : PlaceState) (answer : Stepped) (a : StayState) (other : ℕ) → IsMadeStep p q key answer → get p.stays key ≡ Some a
      → inside_at p.stays other ≡ true → other ≢ key → MakesIn program bounds places flights w (Step here key) (slice_set places here q)
      (after_step flights answer)
  kept_makes q answer a other made there inside apart =
      let old = stand.some here p is in
      let s = old.2.some key a there in (
        w,
        idle (Step here key) (is_kept_out here key old.0 s.0 old.1 s.1 (kept_out_of (far_in w) p old.0 key other old.2 inside apart)),
        (λ still. tt),
        still_stand q answer (made.idle (kept_out other inside apart)),
      )

  -- none is
  free_makes : (q : PlaceState) (answer : Stepped) (a : StayState) → IsMadeStep p q key answer → get p.stays key ≡ Some a → a.away ≡ false
      → AreOutside p.stays key → MakesIn program bounds places flights w (Step here key) (slice_set places here q) (after_step flights answer)
  free_makes q answer a made there off outside =
      let v = step_leads program bounds places flights w here key p q answer bounds-are belong stand is (made.some a there off outside) in
      (v.0, steps here key v.0 v.1, step_prompt q answer v.0 v.1 made v.2, v.3)

  idle_makes : (q : PlaceState) (a : StayState) → IsMadeStep p q key stepped.Idle → get p.stays key ≡ Some a → a.away ≡ false → IsIdleAt p key
      → MakesIn program bounds places flights w (Step here key) (slice_set places here q) (after_step flights stepped.Idle)
  idle_makes q a made there off (nobody none) = absurd (none_some (get p.stays key) a none there)
  idle_makes q a made there off (away b is_there on) = absurd
      (let f : true ≡ false = sym on ∙ ap (λ (x : StayState). x.away) (same_Some b a (sym is_there ∙ there)) ∙ off in cc)
  idle_makes q a made there off (kept_out other inside apart) = kept_makes q stepped.Idle a other made there inside apart
  idle_makes q a made there off (waits b number outer is_there free fine innermost not) = free_makes q stepped.Idle a made there off free

  ready_makes : (q : PlaceState) (answer : Stepped) (a : StayState) → IsMadeStep p q key answer → get p.stays key ≡ Some a → a.away ≡ false
      → MakesIn program bounds places flights w (Step here key) (slice_set places here q) (after_step flights answer)
  ready_makes q stepped.Idle a made there off = idle_makes q a made there off (made.only refl)
  ready_makes q (stepped.Moved out) a made there off = free_makes q (stepped.Moved out) a made there off
      (outside_by p.stays key (λ other inside apart. idle_not out (made.idle (kept_out other inside apart)).0))

  -- the activity is there, and away or not
  stay_makes : (q : PlaceState) (answer : Stepped) (a : StayState) (b : Bool) → IsMadeStep p q key answer → get p.stays key ≡ Some a → a.away ≡ b
      → MakesIn program bounds places flights w (Step here key) (slice_set places here q) (after_step flights answer)
  stay_makes q answer a true made there off =
      let old = stand.some here p is in
      let s = old.2.some key a there in (
        w,
        idle (Step here key) (is_away here key old.0 s.0 old.1 s.1 (s.2.away ∙ off)),
        (λ still. tt),
        still_stand q answer (made.idle (away a there off)),
      )
  stay_makes q answer a false made there off = ready_makes q answer a made there off

  step_makes : (q : PlaceState) (answer : Stepped) (o : Option StayState) → IsMadeStep p q key answer → get p.stays key ≡ o
      → MakesIn program bounds places flights w (Step here key) (slice_set places here q) (after_step flights answer)
  step_makes q answer None made none = (let old = stand.some here p is in
      (w, idle (Step here key) (no_stay here key old.0 old.1 (old.2.none key none)), (λ still. tt), still_stand q answer (made.idle (nobody none))))
  step_makes q answer (Some a) made there = stay_makes q answer a a.away made there refl

idle_is : (answer : Stepped) → ◌≡◌ {A = Result Stepped Stop} (Ok answer) (Ok stepped.Idle) → answer ≡ stepped.Idle
idle_is answer e = cc

-- a step of the activity with a key at a place, that was made
one_makes : (program : Module) (bounds : List ℕ) (places new : List PlaceState) (flights : FlightsState) (w : World) (here key : ℕ) (answer : Stepped)
    (o : Option PlaceState) → bounds_of program ≡ Ok bounds → BelongTo program bounds (length places) places
    → AllStandFor program bounds places flights w
    → StepsOne places new here key (Ok answer) → slice_get places here ≡ o
    → MakesIn program bounds places flights w (Step here key) new (after_step flights answer)
one_makes program bounds places new flights w here key answer None bounds-are belong stand one none =
    let g = one.gone none in (
      w,
      idle (Step here key) (no_place here key (stand.none here none)),
      (λ still. tt),
      subst (λ x. AllStandFor program bounds new (after_step flights x) w) (sym (idle_is answer g.0))
          (subst (λ ps. AllStandFor program bounds ps flights w) (sym g.1) stand),
    )
one_makes program bounds places new flights w here key answer (Some p) bounds-are belong stand one is =
    let t = one.there p is in
    subst (λ ps. MakesIn program bounds places flights w (Step here key) ps (after_step flights answer)) (sym t.1)
    (step_makes program bounds places flights w here key p bounds-are belong stand is t.0 answer (get p.stays key) t.2.made refl)

-- ---- a step that was refused

err_is : (why : Stop) → ◌≡◌ {A = Result Stepped Stop} (Err why) (Ok stepped.Idle) → ⊥
err_is why e = cc

one_refused : (program : Module) (bounds : List ℕ) (places new : List PlaceState) (flights : FlightsState) (w : World) (here key : ℕ) (why : Stop)
    (o : Option PlaceState) → AllStandFor program bounds places flights w → StepsOne places new here key (Err why) → slice_get places here ≡ o
    → AllStandFor program bounds new flights w
one_refused program bounds places new flights w here key why None stand one none = absurd (err_is why (one.gone none).0)
one_refused program bounds places new flights w here key why (Some p) stand one is =
    let t = one.there p is in
    subst (λ ps. AllStandFor program bounds ps flights w) (sym (t.1 ∙ ap (λ r. slice_set places here r) t.2.stop))
    (stand_stopped program bounds places flights here p w is stand)

changes_by : (Q : PlaceState → PlaceState → Type 0) (old new : List PlaceState) (here key : ℕ) (result : Result Stepped Stop)
    → ((p q : PlaceState) → IsStepped p q key result → Q p q) → StepsOne old new here key result → ChangesOne Q old new here
changes_by Q old new here key result means one = record {
  gone = λ e. (one.gone e).1;
  there = λ p e. let t = one.there p e in (t.0, t.1, means p t.0 t.2);
}

made_goes : (p q : PlaceState) (key : ℕ) (answer : Stepped) → IsStepped p q key (Ok answer) → q.stopped ≢ true
made_goes p q key answer s = s.made.goes

-- ---- as the function answers it

-- whether a step did anything
abbrev pub did_of : Stepped → Bool
did_of stepped.Idle = false
did_of (stepped.Moved out) = true

moved_is : (out : Sent) → ◌≡◌ {A = Result Stepped Stop} (Ok (stepped.Moved out)) (Ok stepped.Idle) → ⊥
moved_is out e = cc

-- an activity that made a step was there, and could
moved_by : (p q : PlaceState) (key : ℕ) (out : Sent) → IsMadeStep p q key (stepped.Moved out)
    → LeadsAll p key (stepped.Moved out) q × (IsIdleAt p key → ⊥)
moved_by p q key out made = (at_stay (get p.stays key) refl, busy)
  where
    busy : IsIdleAt p key → ⊥
    busy still = idle_not out (made.idle still).0

    ready : (a : StayState) (b : Bool) → get p.stays key ≡ Some a → a.away ≡ b → LeadsAll p key (stepped.Moved out) q
    ready a true is off = absurd (busy (away a is off))
    ready a false is off = made.some a is off (outside_by p.stays key (λ other inside apart. busy (kept_out other inside apart)))

    at_stay : (o : Option StayState) → get p.stays key ≡ o → LeadsAll p key (stepped.Moved out) q
    at_stay None none = absurd (busy (nobody none))
    at_stay (Some a) is = ready a a.away is refl

pub places_posted : (s : FlightsState) (o : Option Outgoing) → (with_posted s o).places ≡ s.places
places_posted s None = refl
places_posted s (Some o) = refl

places_after : (s : FlightsState) (answer : Stepped) → (after_step s answer).places ≡ s.places
places_after s stepped.Idle = refl
places_after s (stepped.Moved out) = places_posted (with_posted s out.message) out.report ∙ places_posted s out.message

module _ (c : Certified) (places new : List PlaceState) (flights : FlightsState) (id key : ℕ) (bounds-are : bounds_of c.program ≡ Ok c.bounds)
    (world : IsWorld c.program c.bounds places flights false) where
  on : false ≢ true
  on e = cc

  -- there was no room
  pub handles_roomless : (after : FlightsState) (why : Stop) → after ≡ flights → IsRoomless flights why
      → Handles c places flights (Step id key) (Err why) places after
  handles_roomless after why same roomless = record {
    count = refl;
    world = subst (λ g. IsWorld c.program c.bounds places g true) (sym same)
        (record {
          belong = world.belong;
          places_are = world.places_are;
          none_stopped = λ off. absurd (off refl);
          few = world.few;
          world = world.world;
          stands = world.stands;
        });
    made = tt;
    told = tt;
    stops = record {
      hindered = inl roomless;
      places = inl refl;
      flights = subst (λ g. AreUnchanged flights g) (sym same) (unchanged_self flights);
      kept = record { program = refl; bounds = refl; count = refl };
      stopped = refl;
    };
  }

  -- what a step that was made did
  told_of : (answer : Stepped) (after : FlightsState) → StepsOne places new id key (Ok answer) → after ≡ after_step (with_room flights) answer
      → Happened places flights (Step id key) (did_of answer) new after
  told_of stepped.Idle after one same = record {
    idle = λ p is. (one.there p is).2.made.only refl;
    places_are = same_places (slice_get places id) refl;
    flights_are = record { posted = ap (λ (g : FlightsState). g.posted) same; flying = ap (λ (g : FlightsState). g.flying) same };
  }
    where
      same_places : (o : Option PlaceState) → slice_get places id ≡ o → new ≡ places
      same_places None none = (one.gone none).1
      same_places (Some p) is = let t = one.there p is in t.1 ∙ ap (λ r. slice_set places id r) (t.2.made.idle (t.2.made.only refl)).1
          ∙ set_same places id p is
  told_of (stepped.Moved out) after one same = at_place (slice_get places id) refl
    where
      at_place : (o : Option PlaceState) → slice_get places id ≡ o → Happened places flights (Step id key) true new after
      at_place None none = absurd (moved_is out (one.gone none).0)
      at_place (Some p) is =
          let t = one.there p is in
          let by = moved_by p t.0 key out t.2.made in (
            out,
            record {
              place = p;
              next = t.0;
              is_there = is;
              busy = by.1;
              leads = by.0;
              places_are = t.1;
              flights_are = subst (λ g. AreUnchanged (with_sent flights out) g) (sym same)
                  (sent_same flights (with_room flights) out (record { posted = refl; flying = refl }));
            },
          )

  pub handles_made : (answer : Stepped) (after : FlightsState) → StepsOne places new id key (Ok answer)
      → after ≡ after_step (with_room flights) answer → Handles c places flights (Step id key) (Ok (did_of answer)) new after
  handles_made answer after one same = record {
    count = length_after Keeps places new id keeps;
    world = record {
      belong = belong_after c.program c.bounds places new id world.belong keeps;
      places_are = ap (λ (g : FlightsState). g.places) same ∙ places_after (with_room flights) answer ∙ world.places_are
          ∙ sym (length_after Keeps places new id keeps);
      none_stopped = λ off. none_stopped_after places new id (world.none_stopped on)
          (changes_by (λ p q. q.stopped ≢ true) places new id key (Ok answer) (λ p q s. made_goes p q key answer s) one);
      few = few_after Keeps places new id keeps world.few;
      world = (makes world.world world.stands).0;
      stands = (makes world.world world.stands).3;
    };
    made = makes;
    told = told_of answer after one same;
    stops = tt;
  }
    where
      keeps : ChangesOne Keeps places new id
      keeps = changes_by Keeps places new id key (Ok answer) (λ p q s. s.kept) one

      makes : (w : World) → AllStandFor c.program c.bounds places flights w → MakesIn c.program c.bounds places flights w (Step id key) new after
      makes w stand = subst (λ g. MakesIn c.program c.bounds places flights w (Step id key) new g) (sym same)
          (one_makes c.program c.bounds places new (with_room flights) w id key answer (slice_get places id) bounds-are world.belong
          (stand_roomy c.program c.bounds places flights w stand) one refl)

  pub handles_refused : (after : FlightsState) (why : Stop) → StepsOne places new id key (Err why) → after ≡ with_room flights
      → Handles c places flights (Step id key) (Err why) new after
  handles_refused after why one same = record {
    count = length_after Keeps places new id keeps;
    world = record {
      belong = belong_after c.program c.bounds places new id world.belong keeps;
      places_are = ap (λ (g : FlightsState). g.places) same ∙ world.places_are ∙ sym (length_after Keeps places new id keeps);
      none_stopped = λ off. absurd (off refl);
      few = few_after Keeps places new id keeps world.few;
      world = world.world;
      stands = stands world.world world.stands;
    };
    made = tt;
    told = tt;
    stops = record {
      hindered = inr (at_place (slice_get places id) refl);
      places = halted (slice_get places id) refl;
      flights = subst (λ g. AreUnchanged flights g) (sym same) (record { posted = refl; flying = refl });
      kept = record { program = refl; bounds = refl; count = length_after Keeps places new id keeps };
      stopped = refl;
    };
  }
    where
      keeps : ChangesOne Keeps places new id
      keeps = changes_by Keeps places new id key (Err why) (λ p q s. s.kept) one

      stands : (w : World) → AllStandFor c.program c.bounds places flights w → AllStandFor c.program c.bounds new after w
      stands w stand = subst (λ g. AllStandFor c.program c.bounds new g w) (sym same)
          (one_refused c.program c.bounds places new (with_room flights) w id key why (slice_get places id)
          (stand_roomy c.program c.bounds places flights w stand) one refl)

      at_place : (o : Option PlaceState) → slice_get places id ≡ o → (p : PlaceState) × (slice_get places id ≡ Some p) × IsHindered p key why
      at_place None none = absurd (err_is why (one.gone none).0)
      at_place (Some p) there = (p, there, (one.there p there).2.hindered (world.none_stopped on id p there))

      halted : (o : Option PlaceState) → slice_get places id ≡ o → AreHalted (world_of c places flights false) (Step id key) new
      halted None none = absurd (err_is why (one.gone none).0)
      halted (Some p) there = let t = one.there p there in inr (id, p, refl, there, t.1 ∙ ap (λ r. slice_set places id r) t.2.stop)

  -- what a step puts out goes to places that there are
  pub sent_below : (out : Sent) → StepsOne places new id key (Ok (stepped.Moved out)) → GoesBelow flights.places out
  sent_below out one = at_place (slice_get places id) refl
    where
      at_place : (o : Option PlaceState) → slice_get places id ≡ o → GoesBelow flights.places out
      at_place None none = absurd (moved_is out (one.gone none).0)
      at_place (Some p) there =
          let t = one.there p there in
          let old = world.stands.some id p there in
          subst (λ n. GoesBelow n out) ((world.belong id p there).places_are ∙ sym world.places_are)
          (goes_below p old.0 (far_in world.world) key out t.0 old.2 (moved_by p t.0 key out t.2.made).0)
