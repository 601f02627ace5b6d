-- A step of each of several activities of a place is a run of each world of the machine that the world stands for.
use Rattle.std.proofs.Common.{◌≡◌, ℕ, ◌+◌, ◌<◌, Bool, true, false, List, length, ◌∷◌, [], ◌++◌, Some, Result, Ok, Err, refl, sym, ap, subst, ◌∙◌, inl, inr, arith}
use Rattle.std.specs.Prelude.{IfOk, MatchResult, slice_get, slice_set, take, get_or, option_map}
use Rattle.std.proofs.lemmas.List.{length-set, set-set, take_more}
use Rattle.std.proofs.lemmas.Option.{same_Some, slice_get-map, slice_get_within, slice_get-get_or}
use Rattle.x10_kinds.specs.declared.stop.Stop.{Stop}
use Rattle.x10_model.specs.Structure.{bounds_of}
use Rattle.x10_model.specs.declared.event.Event.{Event}
use Rattle.x10_model.specs.declared.event.Event.TheVariants.{Step}
use Rattle.x10_model.specs.Worlds.{World}
use Rattle.x10_model.proofs.Lists.{none_some, set_same}
use Rattle.x10_verify.specs.Certified.{Certified}
use Rattle.x10_flights.specs.Flights.{FlightsState, with_room}
use Rattle.x10_place.specs.declared.place.Stepped.{Stepped}
use Rattle.x10_place.specs.declared.place.Stepped.TheVariants as stepped
use Rattle.x10_place.specs.declared.sent.Sent.{Sent}
use Rattle.x10_place.specs.StandsFor.{PlaceState, Keeps}
use Rattle.x10_place.specs.Sweeps.{IsPace, IsQuiet, Sweeps, unswept, swept, SweepsTo, quietly, loudly, HasEndedIn, IsHaltedSweep}
use Rattle.x10_world.specs.StandsForWorld.{WorldState, world_of, IsWorld, StandsForWorld, IsStepped, StepsOne, after_step, with_sent, GoesBelow, IsRoomless}
use Rattle.x10_world.specs.EventAnswers.{Handles, AnswersEvent}
use Rattle.x10_world.specs.Runs.{IsSameWorld, RunsThrough, Runs, StopsAt, IsHaltedAt, IsHaltedRun, steps_at}
use Rattle.x10_world.proofs.CallAnswers.{answers_event}
use Rattle.x10_world.proofs.Courses.{unchanged_self}
use Rattle.x10_world.proofs.EventLemmas.{did_of, handles_made, handles_refused, sent_below}
use Rattle.x10_world.proofs.EventRuns.{follows_by, through_none, through_same, runs_more}
use Rattle.x10_world.proofs.Lists.{set_here}
use Rattle.x10_world.proofs.StoppedWorlds.{stand_roomy}
use Rattle.x10_world.proofs.WorldParts.{IsBegun, was_there}

-- ---- a step of one place

-- the steps of some activities, one more of them
next_step : (here : ℕ) (keys : List ℕ) (n key : ℕ) → slice_get keys n ≡ Some key → slice_get (steps_at here keys) n ≡ Some (Step here key)
next_step here keys n key is = slice_get-map (λ k. Step here k) keys n ∙ ap (option_map (λ k. Step here k)) is

take_next : (events : List Event) (n : ℕ) (event : Event) → slice_get events n ≡ Some event → take (n + 1) events ≡ take n events ++ event ∷ []
take_next events n event is =
    let within = slice_get_within events n event is in
    let same : get_or events n event ≡ event = same_Some _ event (sym (slice_get-get_or events n event within) ∙ is) in
    take_more events n event within ∙ ap (λ e. take n events ++ e ∷ []) same

one_of : (old : List PlaceState) (id key : ℕ) (p q : PlaceState) (result : Result Stepped Stop) → slice_get old id ≡ Some p
    → IsStepped p q key result → StepsOne old (slice_set old id q) id key result
one_of old id key p q result is step = record {
  gone = λ e. absurd (none_some (slice_get old id) p e is);
  there = λ r e. (q, refl, subst (λ x. IsStepped x q key result) (same_Some p r (sym is ∙ e)) step);
}

paced : (key : ℕ) (p q : PlaceState) (answer : Stepped) → IsPace key p answer q → IsStepped p q key (Ok answer)
paced key p q answer pace = record {
  kept = pace.kept;
  made = record { idle = pace.idle; only = pace.only; some = pace.some; goes = pace.goes };
  hindered = λ e. tt;
  stop = tt;
}

ok_is : (b : Bool) (why : Stop) → ◌≡◌ {A = Result Bool Stop} (Ok b) (Err why) → ⊥
ok_is b why e = absurd cc

module _ (c : Certified) (places : List PlaceState) (flights : FlightsState) (id : ℕ) (p : PlaceState) (keys : List ℕ)
    (bounds-are : bounds_of c.program ≡ Ok c.bounds) (is : slice_get places id ≡ Some p) where
  abbrev roomy : FlightsState
  roomy = with_room flights

  -- where they begin, and where they are with the place so
  abbrev from : WorldState
  from = world_of c places flights false

  abbrev at : PlaceState → FlightsState → WorldState
  at q g = world_of c (slice_set places id q) g false

  -- so many of the steps lead to a world
  pub record AreMade (n : ℕ) (q : PlaceState) (g : FlightsState) : Type 0 where
    pub world : IsWorld c.program c.bounds (slice_set places id q) g false
    pub runs : (w : World) → StandsForWorld from w → Runs from w n (steps_at id keys) (at q g)

  one_step : (q r : PlaceState) (key : ℕ) (answer : Stepped) → IsPace key q answer r
      → StepsOne (slice_set places id q) (slice_set (slice_set places id q) id r) id key (Ok answer)
  one_step q r key answer pace = one_of (slice_set places id q) id key q r (Ok answer) (set_here places id q p is) (paced key q r answer pace)

  -- one more
  one_more : (n key : ℕ) (q r : PlaceState) (g : FlightsState) (answer : Stepped) → slice_get keys n ≡ Some key → IsPace key q answer r
      → AreMade n q g → AreMade (n + 1) r (after_step (with_room g) answer)
  one_more n key q r g answer next pace before = record {
    world = subst (λ ps. IsWorld c.program c.bounds ps after false) (set-set places id q r) handled.world;
    runs = subst (λ ps. (w : World) → StandsForWorld from w → Runs from w (n + 1) (steps_at id keys) (world_of c ps after false))
        (set-set places id q r)
        (runs_more from (at q g) (world_of c new after false) (steps_at id keys) n (Step id key)
        (record { program = refl; bounds = refl; count = length-set places id q })
        (follows_by (at q g) (world_of c new after false) (Step id key) (Ok (did_of answer)) answers.told answers.kept answers.goes
        (λ why e. ok_is (did_of answer) why e))
        (take_next (steps_at id keys) n (Step id key) (next_step id keys n key next)) before.runs answers.ok);
  }
    where
      after : FlightsState
      after = after_step (with_room g) answer

      new : List PlaceState
      new = slice_set (slice_set places id q) id r

      handled : Handles c (slice_set places id q) g (Step id key) (Ok (did_of answer)) new after
      handled = handles_made c (slice_set places id q) new g id key bounds-are before.world answer after (one_step q r key answer pace) refl

      answers : AnswersEvent (at q g) (Step id key) (Ok (did_of answer)) (world_of c new after false)
      answers = answers_event c (slice_set places id q) g (at q g) refl (Step id key) new after false (Ok (did_of answer)) handled refl

  -- with more room
  none_made : IsWorld c.program c.bounds places flights false → AreMade 0 p roomy
  none_made world = record {
    world = subst (λ ps. IsWorld c.program c.bounds ps roomy false) (sym (set_same places id p is))
        (record {
          belong = world.belong;
          places_are = world.places_are;
          none_stopped = world.none_stopped;
          few = world.few;
          world = world.world;
          stands = stand_roomy c.program c.bounds places flights world.world world.stands;
        });
    runs = λ w stand. subst (λ ps. Runs from w 0 (steps_at id keys) (world_of c ps roomy false)) (sym (set_same places id p is))
        (through_same from from (world_of c places roomy false) w [] roomier (through_none from w stand));
  }
    where
      roomier : IsSameWorld from (world_of c places roomy false)
      roomier = record {
        places = refl;
        flights = record { posted = refl; flying = refl };
        kept = record { program = refl; bounds = refl; count = refl };
        stopped = refl;
      }

  quiet_flights : (answer : Stepped) → IsQuiet answer → after_step roomy answer ≡ roomy
  quiet_flights answer (inl e) = ap (after_step roomy) e
  quiet_flights answer (inr e) = ap (after_step roomy) e

  pub sweeps_made : (n m : ℕ) (q : PlaceState) → IsWorld c.program c.bounds places flights false → Sweeps keys p n m q → AreMade n q roomy
  sweeps_made n m q world (unswept) = none_made world
  sweeps_made n m q world (swept k l u key r s far next goes) =
      subst (λ g. AreMade (k + 1) s g) (quiet_flights goes.answer goes.quiet)
      (one_more k key r s roomy goes.answer next goes.pace (sweeps_made k l r world far))

  pub sweeps_to_made : (n m : ℕ) (sent : Sent) (q : PlaceState) → IsWorld c.program c.bounds places flights false → SweepsTo keys p n m sent q
      → AreMade n q (with_sent roomy sent)
  sweeps_to_made n m sent q world (quietly k l r far) = sweeps_made k l r world far
  sweeps_to_made n m sent q world (loudly k l u key out r s far next ends) =
      one_more k key r s roomy (stepped.Moved out) next ends.pace (sweeps_made k l r world far)

  -- what the last one puts out goes to places that there are
  pub sweep_below : (n m : ℕ) (sent : Sent) (q : PlaceState) → IsWorld c.program c.bounds places flights false → SweepsTo keys p n m sent q
      → GoesBelow flights.places sent
  sweep_below n m sent q world (quietly k l r far) = record { message = λ o e. absurd cc; report = λ o e. absurd cc }
  sweep_below n m sent q world (loudly k l u key out r s far next ends) =
      sent_below c (slice_set places id r) (slice_set (slice_set places id r) id s) roomy id key bounds-are (sweeps_made k l r world far).world out
      (one_step r s key (stepped.Moved out) ends.pace)

  -- one that was refused
  module _ (n m : ℕ) (why : Stop) (q : PlaceState) (world : IsWorld c.program c.bounds places flights false)
      (halted : IsHaltedSweep keys p n m why q) where
    before : AreMade n halted.last roomy
    before = sweeps_made n m halted.last world halted.sweeps

    abbrev new : List PlaceState
    new = slice_set (slice_set places id halted.last) id q

    handled : Handles c (slice_set places id halted.last) roomy (Step id halted.key) (Err why) new roomy
    handled = handles_refused c (slice_set places id halted.last) new roomy id halted.key bounds-are before.world roomy why
        (one_of (slice_set places id halted.last) id halted.key halted.last q (Err why) (set_here places id halted.last p is) (record {
          kept = subst (λ x. Keeps halted.last x) (sym halted.refused.stopped) (record { program = refl; bounds = refl; id = refl; places = refl });
          made = tt;
          hindered = halted.refused.hindered;
          stop = halted.refused.stopped;
        })) refl

    pub halted_world : IsWorld c.program c.bounds (slice_set places id q) roomy true
    halted_world = subst (λ ps. IsWorld c.program c.bounds ps roomy true) (set-set places id halted.last q) handled.world

    pub halted_at : IsHaltedAt from (steps_at id keys) n (world_of c (slice_set places id q) roomy true) why
    halted_at = record {
      event = Step id halted.key;
      is_next = next_step id keys n halted.key halted.is_next;
      state = at halted.last roomy;
      runs = before.runs;
      stops = subst (λ ps. StopsAt (at halted.last roomy) (Step id halted.key) why (world_of c ps roomy true)) (set-set places id halted.last q)
          handled.stops;
    }

-- there was no room for what they may put out
pub roomless_at : (c : Certified) (places : List PlaceState) (flights after : FlightsState) (id key : ℕ) (keys : List ℕ) (why : Stop)
    → slice_get keys 0 ≡ Some key → after ≡ flights → IsRoomless flights why
    → IsHaltedAt (world_of c places flights false) (steps_at id keys) 0 (world_of c places after true) why
roomless_at c places flights after id key keys why first same roomless = record {
  event = Step id key;
  is_next = next_step id keys 0 key first;
  state = world_of c places flights false;
  runs = λ w stand. through_none (world_of c places flights false) w stand;
  stops = subst (λ g. StopsAt (world_of c places flights false) (Step id key) why (world_of c places g true)) (sym same)
      (record {
        hindered = inl roomless;
        places = inl refl;
        flights = unchanged_self flights;
        kept = record { program = refl; bounds = refl; count = refl };
        stopped = refl;
      });
}

-- some were made
pub some_made : (keys : List ℕ) (p q : PlaceState) (n m : ℕ) (result : Result Sent Stop) (sent : Sent)
    → IfOk result (λ out. n < length keys → HasEndedIn keys p n m out q) → result ≡ Ok sent → 0 < length keys → n ≡ 0 → ⊥
some_made keys p q n m result sent ends made some none =
    let h = subst (λ r. IfOk r (λ out. n < length keys → HasEndedIn keys p n m out q)) made ends (omega (arith, some, none)) in
    omega (arith, h.count, none)

-- ---- as the world makes them

-- there is no such place
pub nowhere_runs : (c : Certified) (places : List PlaceState) (flights after : FlightsState) (b : Bool) (z : WorldState) (events : List Event)
    → IsBegun c places flights b z → after ≡ with_room flights → (w : World) → StandsForWorld z w → Runs z w 0 events (world_of c places after b)
nowhere_runs c places flights after b z events begins same w stand =
    subst (λ g. RunsThrough z w [] (world_of c places g b)) (sym same)
    (subst (λ d. RunsThrough z w [] (world_of c places (with_room flights) d)) (sym begins.off)
    (through_same z z (world_of c places (with_room flights) false) w [] (subst (λ x. IsSameWorld x (world_of c places (with_room flights) false))
    begins.seen (record {
      places = refl;
      flights = record { posted = refl; flying = refl };
      kept = record { program = refl; bounds = refl; count = refl };
      stopped = refl;
    })) (through_none z w stand)))

-- there was no room
pub roomless_run : (c : Certified) (places : List PlaceState) (flights after : FlightsState) (b : Bool) (z : WorldState) (id : ℕ) (keys : List ℕ)
    (why : Stop) → IsBegun c places flights b z → 0 < length keys → after ≡ flights → IsRoomless flights why
    → IsHaltedRun z (steps_at id keys) (world_of c places after true) why
roomless_run c places flights after b z id keys why begins some same roomless = (
  0,
  subst (λ x. IsHaltedAt x (steps_at id keys) 0 (world_of c places after true) why) begins.seen
      (roomless_at c places flights after id (get_or keys 0 0) keys why (slice_get-get_or keys 0 0 some) same roomless),
)

module _ (c : Certified) (places : List PlaceState) (flights : FlightsState) (b : Bool) (z : WorldState) (begins : IsBegun c places flights b z)
    (bounds-are : bounds_of c.program ≡ Ok c.bounds) (id at : ℕ) (p q : PlaceState) (keys : List ℕ) (here : at ≡ id) (within : at < length places)
    (is : p ≡ get_or places at p) (n m : ℕ) (result : Result Sent Stop)
    (ran : MatchResult result (λ sent. SweepsTo keys p n m sent q) (λ why. IsHaltedSweep keys p n m why q)) where
  there : slice_get places id ≡ Some p
  there = subst (λ k. slice_get places k ≡ Some p) here (was_there places at p within is)

  set_is : slice_set places id q ≡ slice_set places at q
  set_is = ap (λ k. slice_set places k q) (sym here)

  module _ (sent : Sent) (made : result ≡ Ok sent) where
    to : SweepsTo keys p n m sent q
    to = subst (λ r. MatchResult r (λ sent. SweepsTo keys p n m sent q) (λ why. IsHaltedSweep keys p n m why q)) made ran

    pub swept_below : (after : FlightsState) → after ≡ with_room flights → GoesBelow after.places sent
    swept_below after same = subst (λ k. GoesBelow k sent) (sym (ap (λ (g : FlightsState). g.places) same))
        (sweep_below c places flights id p keys bounds-are there n m sent q begins.world to)

    pub swept_world : (after : FlightsState) → after ≡ with_sent (with_room flights) sent → IsWorld c.program c.bounds (slice_set places at q) after b
    swept_world after same = subst (λ ps. IsWorld c.program c.bounds ps after b) set_is
        (subst (λ d. IsWorld c.program c.bounds (slice_set places id q) after d) (sym begins.off)
        (subst (λ g. IsWorld c.program c.bounds (slice_set places id q) g false) (sym same)
        (sweeps_to_made c places flights id p keys bounds-are there n m sent q begins.world to).world))

    pub swept_runs : (after : FlightsState) → after ≡ with_sent (with_room flights) sent → (w : World) → StandsForWorld z w
        → Runs z w n (steps_at id keys) (world_of c (slice_set places at q) after b)
    swept_runs after same w stand = subst (λ ps. Runs z w n (steps_at id keys) (world_of c ps after b)) set_is
        (subst (λ d. Runs z w n (steps_at id keys) (world_of c (slice_set places id q) after d)) (sym begins.off)
        (subst (λ g. Runs z w n (steps_at id keys) (world_of c (slice_set places id q) g false)) (sym same)
        (subst (λ x. Runs x w n (steps_at id keys) (world_of c (slice_set places id q) (with_sent (with_room flights) sent) false)) begins.seen
        ((sweeps_to_made c places flights id p keys bounds-are there n m sent q begins.world to).runs w
        (subst (λ x. StandsForWorld x w) (sym begins.seen) stand)))))

  module _ (why : Stop) (refused : result ≡ Err why) where
    halts : IsHaltedSweep keys p n m why q
    halts = subst (λ r. MatchResult r (λ sent. SweepsTo keys p n m sent q) (λ why. IsHaltedSweep keys p n m why q)) refused ran

    pub swept_halted_world : (after : FlightsState) → after ≡ with_room flights → IsWorld c.program c.bounds (slice_set places at q) after true
    swept_halted_world after same = subst (λ ps. IsWorld c.program c.bounds ps after true) set_is
        (subst (λ g. IsWorld c.program c.bounds (slice_set places id q) g true) (sym same)
        (halted_world c places flights id p keys bounds-are there n m why q begins.world halts))

    pub swept_halted : (after : FlightsState) → after ≡ with_room flights
        → IsHaltedRun z (steps_at id keys) (world_of c (slice_set places at q) after true) why
    swept_halted after same = (
      n,
      subst (λ ps. IsHaltedAt z (steps_at id keys) n (world_of c ps after true) why) set_is
          (subst (λ g. IsHaltedAt z (steps_at id keys) n (world_of c (slice_set places id q) g true) why) (sym same)
          (subst (λ x. IsHaltedAt x (steps_at id keys) n (world_of c (slice_set places id q) (with_room flights) true) why) begins.seen
          (halted_at c places flights id p keys bounds-are there n m why q begins.world halts))),
    )
