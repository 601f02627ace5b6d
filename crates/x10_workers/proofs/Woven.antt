-- What the turns of a log are, that are found in the trails of its places: turns that a world of the program plays.
use Rattle.std.proofs.Common.{◌≡◌, ℕ, zero, suc, ◌+◌, ◌<◌, false, List, [], ◌∷◌, ◌++◌, Option, Some, None, Ok, length, map, refl, sym, ap, subst, ◌∙◌, arith, set-set}
use Rattle.std.specs.Prelude.{slice_get, slice_set}
use Rattle.std.proofs.lemmas.List.{append-nil, append_assoc, map-append, length-append, length-set}
use Rattle.std.proofs.lemmas.Option.{same_Some}
use Rattle.slab.specs.Slab.{get}
use Rattle.x10_code.specs.declared.instr.Instr.{Instr}
use Rattle.x10_model.specs.Modules.{Module, Function}
use Rattle.x10_model.specs.Structure.{bounds_of}
use Rattle.x10_model.specs.Ranges.{function_at, instr_at, instr_in}
use Rattle.x10_model.specs.declared.event.Event.TheVariants.{Step}
use Rattle.x10_model.proofs.Lists.{none_some, below_some, set_same}
use Rattle.x10_verify.specs.Certified.{Certified}
use Rattle.x10_place.specs.declared.place.Stepped.{Stepped}
use Rattle.x10_place.specs.declared.place.Stepped.TheVariants as stepped
use Rattle.x10_place.specs.StandsFor.{PlaceState, Keeps, IsIdleAt, nobody}
use Rattle.x10_place.specs.Stays.{StayState}
use Rattle.x10_hall.specs.declared.turn.Taken.{Taken}
use Rattle.x10_hall.specs.declared.turn.Posted.{Posted}
use Rattle.x10_hall.specs.declared.turn.Turn.{Turn}
use Rattle.x10_hall.specs.Halls.{PostedFrame, Numbered, frame_of, told}
use Rattle.x10_world.specs.declared.done.Done.{Done}
use Rattle.x10_world.specs.declared.done.Done.TheVariants as done
use Rattle.x10_flights.specs.Flights.{Flight, FlightsState, flight_of, taken_from, with_room}
use Rattle.x10_world.specs.Happenings.{Happened, HasTaken, HasDone, StandsAtInstr, frame_count}
use Rattle.x10_world.specs.StandsForWorld as world
use Rattle.x10_world.specs.StandsForWorld.{WorldState, world_of, IsWorld, IsMadeStep, IsStepped, after_step, far_in}
use Rattle.x10_world.proofs.EventLemmas.{did_of, handles_made}
use Rattle.x10_world.proofs.DeliveryEvents.{handles_taken}
use Rattle.x10_world.proofs.Lists.{set_here}
use Rattle.x10_workers.specs.declared.trail.OwnTurn.{OwnTurn}
use Rattle.x10_workers.specs.Plays.{flight_as, TakesFrames, takes_none, takes_more, StepsAll, steps_none, steps_more, PlaysTurn}
use Rattle.x10_workers.specs.Trails.{frames_out, TakesFrame, TakesEach, StepsBy, by_step, by_stride, StepsEach, TurnLeads}
use Rattle.x10_workers.specs.Weaves.{TakesOff, TakesOffEach, IsTurnOf, all_flying}
use Rattle.x10_workers.proofs.WorkLemmas.{at_map}
use Rattle.x10_workers.proofs.StrideSteps.{stride_made}
use Rattle.x10_workers.proofs.FlightTables.{IsTable, table_flight, table_taken, table_stepped}

-- ---- where an activity stands

instr_there : (program : Module) (f pc : ℕ) (function : Function) → function_at program f ≡ Some function → pc < length function.code
    → (i : Instr) × (instr_at program f pc ≡ Some i)
instr_there program f pc function is lt = go (slice_get function.code pc) refl
  where
    go : (o : Option Instr) → slice_get function.code pc ≡ o → (i : Instr) × (instr_at program f pc ≡ Some i)
    go None none = absurd (below_some function.code pc none lt)
    go (Some i) there = (i, ap (λ o. instr_in o pc) is ∙ there)

-- ---- lists

append_at : {X : Type 0} (xs ys : List X) (n i : ℕ) → n ≡ length xs + i → slice_get (xs ++ ys) n ≡ slice_get ys i
append_at [] ys n i e = let same : n ≡ i = omega (arith, e) in ap (λ k. slice_get ys k) same
append_at (x ∷ xs) ys zero i e = absurd (omega (arith, e))
append_at (x ∷ xs) ys (suc n) i e = append_at xs ys n i (omega (arith, e))

module _ (c : Certified) (bounds-are : bounds_of c.program ≡ Ok c.bounds) where
  -- a world that goes on
  abbrev now : List PlaceState → FlightsState → WorldState
  now places flights = world_of c places flights false

  abbrev IsGoing : List PlaceState → FlightsState → Type 0
  IsGoing places flights = IsWorld c.program c.bounds places flights false

  -- an activity that isn't idle stands at an instruction
  stood : (places : List PlaceState) (flights : FlightsState) (here key : ℕ) (p : PlaceState) → IsGoing places flights
      → slice_get places here ≡ Some p → (IsIdleAt p key → ⊥) → (f : ℕ) × (pc : ℕ) × (i : Instr) × StandsAtInstr places here key f pc i.op
  stood places flights here key p w is busy = at_stay (get p.stays key) refl
    where
      at_stay : (o : Option StayState) → get p.stays key ≡ o → (f : ℕ) × (pc : ℕ) × (i : Instr) × StandsAtInstr places here key f pc i.op
      at_stay None none = absurd (busy (nobody none))
      at_stay (Some a) there =
          let old = w.stands.some here p is in
          let stay = old.2.some key a there in
          let inside = stay.2.placed.top in
          let i = instr_there p.program a.top.function a.top.pc inside.function inside.is_function inside.pc in
          (a.top.function, a.top.pc, i.0, record { place = p; is_there = is; at = (a, there, refl, refl); operation = (i.0, i.1, refl) })

  -- ---- frames that are taken in

  -- a world goes on with one place changed: frames with these numbers were taken in there
  record TakenTo (x : WorldState) (here : ℕ) (numbers : List ℕ) (places : List PlaceState) (table : List (Option PostedFrame)) : Type 0 where
    flights : FlightsState
    going : IsGoing places flights
    table_is : IsTable table flights
    takes : TakesFrames x here numbers (now places flights)

  take_more : (x : WorldState) (here : ℕ) (before : List ℕ) (places : List PlaceState) (table after : List (Option PostedFrame)) (f : Numbered)
      (p q : PlaceState) → TakenTo x here before places table → slice_get places here ≡ Some p → TakesOff table here f after → TakesFrame p f.bytes q
      → TakenTo x here (before ++ f.number ∷ []) (slice_set places here q) after
  take_more x here before places table after f p q t is off led =
      let flight : Flight = record { number = f.number; to = here; bytes = f.bytes } in
      let flies : flight_of t.flights f.number ≡ Some flight = table_flight table t.flights f.number
      (record { to = here; bytes = f.bytes }) t.table_is off.flies in
      let h = handles_taken c places t.flights f.number flight p q bounds-are t.going flies is led.kept led.taken led.goes in
      let did = h.told.1 in
      let to_is = sym did.to_is ∙ ap (λ (g : Flight). g.to) (same_Some did.flight flight (sym did.flying ∙ flies)) in
      record {
        flights = taken_from t.flights f.number;
        going = h.world;
        table_is = subst (λ ts. IsTable ts (taken_from t.flights f.number)) (sym off.after_is) (table_taken table t.flights f.number t.table_is);
        takes = takes_more before f.number (now places t.flights) (now (slice_set places here q) (taken_from t.flights f.number)) t.takes (record {
          done = subst (λ to. HasTaken places t.flights f.number to (slice_set places here q) (taken_from t.flights f.number)) to_is did;
          makes = h.made;
          kept = record { program = refl; bounds = refl; count = h.count };
        });
      }

  take_each : (x : WorldState) (here : ℕ) (before : List ℕ) (places : List PlaceState) (table after : List (Option PostedFrame)) (fs : List Numbered)
      (p q : PlaceState) → TakenTo x here before places table → slice_get places here ≡ Some p → TakesOffEach table here fs after → TakesEach p fs q
      → TakenTo x here (before ++ map (λ f. f.number) fs) (slice_set places here q) after
  take_each x here before places table after [] p q t is off led =
      subst (λ ns. TakenTo x here ns (slice_set places here q) after) (sym (append-nil before))
      (subst (λ ps. TakenTo x here before ps after) (sym (ap (λ r. slice_set places here r) led ∙ set_same places here p is))
      (subst (λ ts. TakenTo x here before places ts) (sym off) t))
  take_each x here before places table after (f ∷ fs) p q t is off led =
      subst (λ ps. TakenTo x here (before ++ f.number ∷ map (λ g. g.number) fs) ps after) (set-set places here led.0 q)
      (subst (λ ns. TakenTo x here ns (slice_set (slice_set places here led.0) here q) after)
      (append_assoc before (f.number ∷ []) (map (λ g. g.number) fs))
      (take_each x here (before ++ f.number ∷ []) (slice_set places here led.0) off.0 after fs led.0 q
      (take_more x here before places table off.0 f p led.0 t is off.1 led.1) (set_here places here led.0 p is) off.2 led.2))

  -- ---- steps

  -- the same of steps of these keys
  record SteppedTo (x : WorldState) (here : ℕ) (keys : List ℕ) (places : List PlaceState) (table : List (Option PostedFrame)) : Type 0 where
    flights : FlightsState
    going : IsGoing places flights
    table_is : IsTable table flights
    steps : StepsAll x here keys (now places flights)

  done_by : (places new : List PlaceState) (flights after : FlightsState) (here key : ℕ) (answer : Stepped) → IsGoing places flights
      → Happened places flights (Step here key) (did_of answer) new after
      → (did : Done) × HasDone (now places flights) (Step here key) did (now new after)
  done_by places new flights after here key stepped.Idle w h = (done.Idle, h)
  done_by places new flights after here key (stepped.Moved out) w h =
      let s = stood places flights here key h.1.place w h.1.is_there h.1.busy in
      (done.Moved s.0 s.1 s.2.op flights.posted (frame_count h.0), record { out = h.0; moved = h.1; stood = s.3; first_is = refl; count_is = refl })

  -- a step that its place made, in whichever way
  made_by : (places : List PlaceState) (flights : FlightsState) (here key : ℕ) (answer : Stepped) (p q : PlaceState) → IsGoing places flights
      → slice_get places here ≡ Some p → StepsBy p key answer q → IsMadeStep p q key answer × Keeps p q
  made_by places flights here key answer p q going is (by_step a r made kept) = (made, kept)
  made_by places flights here key answer p q going is (by_stride out r stride) =
      let stand = going.stands.some here p is in
      (stride_made (far_in going.world) p q stand.0 key out stand.2 (going.none_stopped (λ e. cc) here p is) stride, stride.kept)

  step_more : (x : WorldState) (here : ℕ) (before : List ℕ) (places : List PlaceState) (table : List (Option PostedFrame)) (key : ℕ)
      (answer : Stepped) (p q : PlaceState) → SteppedTo x here before places table → slice_get places here ≡ Some p → StepsBy p key answer q
      → SteppedTo x here (before ++ key ∷ []) (slice_set places here q) (table ++ all_flying (frames_out answer))
  step_more x here before places table key answer p q t is led =
      let by = made_by places t.flights here key answer p q t.going is led in
      let one : world.StepsOne places (slice_set places here q) here key (Ok answer) = record {
        gone = λ none. absurd (none_some (slice_get places here) p none is);
        there = λ r e. (
          q,
          refl,
          subst (λ z. IsStepped z q key (Ok answer)) (same_Some p r (sym is ∙ e))
              (record { kept = by.1; made = by.0; hindered = λ off. tt; stop = tt }),
        );
      } in
      let after = after_step (with_room t.flights) answer in
      let h = handles_made c places (slice_set places here q) t.flights here key bounds-are t.going answer after one refl in
      let did = done_by places (slice_set places here q) t.flights after here key answer t.going h.told in
      record {
        flights = after;
        going = h.world;
        table_is = table_stepped table t.flights answer t.table_is;
        steps = steps_more before key (now places t.flights) (now (slice_set places here q) after) t.steps
            (did.0, record { done = did.1; makes = h.made; kept = record { program = refl; bounds = refl; count = h.count } });
      }

  step_each : (x : WorldState) (here : ℕ) (before : List ℕ) (places : List PlaceState) (table : List (Option PostedFrame)) (keys : List ℕ)
      (frames : List PostedFrame) (p q : PlaceState) → SteppedTo x here before places table → slice_get places here ≡ Some p
      → StepsEach p keys frames q
      → SteppedTo x here (before ++ keys) (slice_set places here q) (table ++ all_flying frames)
  step_each x here before places table [] frames p q t is led =
      subst (λ ts. SteppedTo x here (before ++ []) (slice_set places here q) ts) (sym (ap (λ fs. table ++ all_flying fs) led.0 ∙ append-nil table))
      (subst (λ ks. SteppedTo x here ks (slice_set places here q) table) (sym (append-nil before))
      (subst (λ ps. SteppedTo x here before ps table) (sym (ap (λ r. slice_set places here r) led.1 ∙ set_same places here p is)) t))
  step_each x here before places table (key ∷ keys) frames p q t is led =
      let answer = led.0 in
      let rest = led.1 in
      let r = led.2 in
      let later = step_each x here (before ++ key ∷ []) (slice_set places here r) (table ++ all_flying (frames_out answer)) keys rest r q
      (step_more x here before places table key answer p r t is led.4) (set_here places here r p is) led.5 in
      let behind : (table ++ all_flying (frames_out answer)) ++ all_flying rest ≡ table ++ all_flying frames =
      append_assoc table (all_flying (frames_out answer)) (all_flying rest)
      ∙ ap (λ ts. table ++ ts) (sym (map-append (λ f. Some f) (frames_out answer) rest) ∙ ap all_flying (sym led.3)) in
      subst (λ ts. SteppedTo x here (before ++ key ∷ keys) (slice_set places here q) ts) behind
      (subst (λ ps. SteppedTo x here (before ++ key ∷ keys) ps ((table ++ all_flying (frames_out answer)) ++ all_flying rest))
      (set-set places here r q)
      (subst (λ ks. SteppedTo x here ks (slice_set (slice_set places here r) here q) ((table ++ all_flying (frames_out answer)) ++ all_flying rest))
      (append_assoc before (key ∷ []) keys) later))

  -- ---- a turn

  length_taken : (table after : List (Option PostedFrame)) (here : ℕ) (fs : List Numbered) → TakesOffEach table here fs after
      → length after ≡ length table
  length_taken table after here [] off = ap (λ ts. length ts) off
  length_taken table after here (f ∷ fs) off = length_taken off.0 after here fs off.2 ∙ ap (λ ts. length ts) off.1.after_is
      ∙ length-set table f.number None

  numbers_told : (fs : List Taken) → map (λ f. f.number) (map told fs) ≡ map (λ f. f.number) fs
  numbers_told [] = refl
  numbers_told (f ∷ fs) = ap (λ ns. f.number ∷ ns) (numbers_told fs)

  length_flying : (fs : List Posted) → length (all_flying (map frame_of fs)) ≡ length fs
  length_flying [] = refl
  length_flying (f ∷ fs) = ap suc (length_flying fs)

  -- a frame behind others, as it flies
  behind_all : (table : List (Option PostedFrame)) (fs : List Posted) (i : ℕ) (f : Posted) → slice_get fs i ≡ Some f
      → slice_get (table ++ all_flying (map frame_of fs)) (length table + i) ≡ Some (Some (frame_of f))
  behind_all table fs i f is = append_at table (all_flying (map frame_of fs)) (length table + i) i refl
      ∙ at_map (λ g. Some g) (map frame_of fs) i (frame_of f) (at_map frame_of fs i f is)

  pub record PlayedTo (places : List PlaceState) (flights : FlightsState) (t : Turn) (new : List PlaceState)
      (table : List (Option PostedFrame)) : Type 0 where
    pub flights_then : FlightsState
    pub going : IsGoing new flights_then
    pub table_is : IsTable table flights_then
    pub plays : PlaysTurn (now places flights) t (now new flights_then)

  pub turn_plays : (places : List PlaceState) (flights : FlightsState) (table middle : List (Option PostedFrame)) (p q : PlaceState) (own : OwnTurn)
      (t : Turn) → IsGoing places flights → IsTable table flights → slice_get places t.place ≡ Some p → TurnLeads p own q → IsTurnOf own t
      → TakesOffEach table t.place (map told own.taken.items) middle
      → PlayedTo places flights t (slice_set places t.place q) (middle ++ all_flying (map frame_of t.frames.items))
  turn_plays places flights table middle p q own t going table-is is led same off = record {
    flights_then = stepped.flights;
    going = subst (λ ps. IsGoing ps stepped.flights) once stepped.going;
    table_is = table_then;
    plays = record {
      middle = now between taken.flights;
      takes = subst (λ ns. TakesFrames (now places flights) t.place ns (now between taken.flights))
          (numbers_told own.taken.items ∙ same.taken) taken.takes;
      steps = subst (λ ps. StepsAll (now between taken.flights) t.place t.keys (now ps stepped.flights)) once
          (subst (λ ks. StepsAll (now between taken.flights) t.place ks (now (slice_set between t.place q) stepped.flights)) same.keys stepped.steps);
      puts_out = record {
        count = count;
        each = λ i f there. ap (λ n. flight_of stepped.flights n) (first i)
            ∙ table_flight (middle ++ all_flying (map frame_of t.frames.items)) stepped.flights (length middle + i) (frame_of f) table_then
            (behind_all middle t.frames.items i f there) ∙ ap (λ n. Some (flight_as n f)) (sym (first i));
      };
      prints = record { old = p; new = q; old_is = is; new_is = set_here places t.place q p is; printed = led.printed ∙ same.lines };
    };
  }
    where
      between : List PlaceState
      between = slice_set places t.place led.middle

      taken : TakenTo (now places flights) t.place (map (λ f. f.number) (map told own.taken.items)) between middle
      taken = take_each (now places flights) t.place [] places table middle (map told own.taken.items) p led.middle
          (record { flights = flights; going = going; table_is = table-is; takes = takes_none }) is off led.takes

      stepped : SteppedTo (now between taken.flights) t.place own.keys (slice_set between t.place q)
          (middle ++ all_flying (map frame_of own.frames.items))
      stepped = step_each (now between taken.flights) t.place [] between middle own.keys (map frame_of own.frames.items) led.middle q
          (record { flights = taken.flights; going = taken.going; table_is = taken.table_is; steps = steps_none })
          (set_here places t.place led.middle p is) led.steps

      once : slice_set between t.place q ≡ slice_set places t.place q
      once = set-set places t.place led.middle q

      table_then : IsTable (middle ++ all_flying (map frame_of t.frames.items)) stepped.flights
      table_then = subst (λ fs. IsTable (middle ++ all_flying fs) stepped.flights) same.frames stepped.table_is

      long : length middle ≡ length table
      long = length_taken table middle t.place (map told own.taken.items) off

      first : (i : ℕ) → flights.posted + i ≡ length middle + i
      first i = ap (λ n. n + i) (table-is.posted ∙ sym long)

      many : length (all_flying (map frame_of t.frames.items)) ≡ length t.frames.items
      many = length_flying t.frames.items

      count : stepped.flights.posted ≡ flights.posted + length t.frames.items
      count = table_then.posted ∙ length-append middle (all_flying (map frame_of t.frames.items)) ∙ ap (λ n. length middle + n) many
          ∙ sym (first (length t.frames.items))
