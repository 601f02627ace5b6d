-- The steps that a place makes at a stretch are as many events of each world of the machine that the world stands for.
use Rattle.std.proofs.Common.{◌≡◌, ◌≢◌, ℕ, ◌+◌, ◌<◌, true, false, List, [], length, ◌∷◌, ◌++◌, replicate, Some, None, Ok, refl, sym, subst, ◌∙◌}
use Rattle.std.specs.Prelude.{slice_get, slice_set}
use Rattle.std.proofs.lemmas.List.{length-set, set-set}
use Rattle.x10_model.specs.Modules.{Module}
use Rattle.x10_model.specs.Structure.{bounds_of}
use Rattle.x10_model.specs.declared.event.Event.{Event}
use Rattle.x10_model.specs.declared.event.Event.TheVariants.{Step}
use Rattle.x10_model.specs.Worlds.{World, Ideal, steps, Run, WithinBounds}
use Rattle.x10_model.proofs.Lists.{set_same}
use Rattle.x10_place.specs.declared.place.Stepped.TheVariants as stepped
use Rattle.x10_place.specs.declared.sent.Outgoing.{Outgoing}
use Rattle.x10_place.specs.declared.sent.Sent.{Sent}
use Rattle.x10_place.specs.Messages.{no_sent}
use Rattle.x10_place.specs.StandsFor.{PlaceState, Keeps}
use Rattle.x10_place.specs.Stretches.{IsStride, Strides, at_once, onward, StridesTo, nowhere, finally}
use Rattle.x10_flights.specs.Flights.{FlightsState}
use Rattle.x10_world.specs.StandsForWorld.{WorldState, BelongTo, setting_in, far_in, AllStandFor, with_sent, GoesBelow}
use Rattle.x10_world.specs.Runs.{Follows, Course, MovesOnce, at_rest, moves_on, RepeatsThrough}
use Rattle.x10_world.proofs.Lists.{set_here, replicate_more}
use Rattle.x10_world.proofs.BudgetRuns.{budget_bounds}
use Rattle.x10_world.proofs.StepLemmas.{step_leads}
use Rattle.x10_world.proofs.Courses.{unchanged_self}
use Rattle.x10_world.proofs.EventRuns.{through_none, through_step}
use Rattle.x10_place.proofs.NeverIdle.{no_stride_is_idle}
use Rattle.x10_world.proofs.ChangedPlace.{belong_set}
use Rattle.x10_world.proofs.EventLemmas.{goes_below}

-- ---- one place

strides_keep : (key : ℕ) (p : PlaceState) (n : ℕ) (q : PlaceState) → Strides key p n q → Keeps p q
strides_keep key p n q (at_once) = record { program = refl; bounds = refl; id = refl; places = refl }
strides_keep key p n q (onward k r s far stride) =
    let before = strides_keep key p k r far in
    let k = stride.kept in
    record { program = k.program ∙ before.program; bounds = k.bounds ∙ before.bounds; id = k.id ∙ before.id; places = k.places ∙ before.places }

-- a world that goes on, by its parts
abbrev pub state_of : Module → List ℕ → List PlaceState → FlightsState → WorldState
state_of program bounds places flights = record { program = program; bounds = bounds; places = places; flights = flights; stopped = false }

going_on : false ≢ true
going_on e = cc

module _ (program : Module) (bounds : List ℕ) (places : List PlaceState) (flights : FlightsState) (here key : ℕ) (p : PlaceState)
    (bounds-are : bounds_of program ≡ Ok bounds) (belong : BelongTo program bounds (length places) places) (is : slice_get places here ≡ Some p) where
  -- where they begin, and where they are with the place so
  abbrev from : WorldState
  from = state_of program bounds places flights

  abbrev at : PlaceState → FlightsState → WorldState
  at q after = state_of program bounds (slice_set places here q) after

  -- one step more
  stride_makes : (q r : PlaceState) (out : Sent) (v : World) → Keeps p q → IsStride key q out r
      → AllStandFor program bounds (slice_set places here q) flights v
      → (w : World) × MovesOnce (setting_in program places) v here key w
      × AllStandFor program bounds (slice_set places here r) (with_sent flights out) w
  stride_makes q r out v kept stride stand =
      let made = step_leads program bounds (slice_set places here q) flights v here key q r (stepped.Moved out) bounds-are
      (belong_set program bounds places here p q is kept belong) stand (set_here places here q p is) stride.leads in (
        made.0,
        subst (λ n. MovesOnce (record { program = program; places = n }) v here key made.0) (length-set places here q)
            (record { steps = made.1; goes = made.2.0 }),
        subst (λ ps. AllStandFor program bounds ps (with_sent flights out) made.0) (set-set places here q r) made.3,
      )

  stride_follows : (q r : PlaceState) (out : Sent) (v : World) → IsStride key q out r → AllStandFor program bounds (slice_set places here q) flights v
      → Follows (at q flights) (Step here key) (at r (with_sent flights out))
  stride_follows q r out v stride stand =
      let there = set_here places here q p is in
      let old = stand.some here q there in
      record {
        moved = true;
        happened = (
          out,
          record {
            place = q;
            next = r;
            is_there = there;
            busy = no_stride_is_idle (far_in v) q old.0 key out r old.2 stride;
            leads = stride.leads;
            places_are = sym (set-set places here q r);
            flights_are = unchanged_self (with_sent flights out);
          },
        );
        kept = record { program = refl; bounds = refl; count = length-set places here r ∙ sym (length-set places here q) };
        goes = going_on;
      }

  one_more : (k : ℕ) (q r : PlaceState) (out : Sent) (w : World) → Keeps p q → IsStride key q out r → RepeatsThrough from w k here key (at q flights)
      → RepeatsThrough from w (k + 1) here key (at r (with_sent flights out))
  one_more k q r out w kept stride before =
      let made = stride_makes q r out before.runs.last kept stride before.runs.stands in
      let event : Event = Step here key in
      let after : WorldState = at r (with_sent flights out) in
      let run = through_step from (at q flights) after (replicate k event) event w made.0 before.runs
      (stride_follows q r out before.runs.last stride before.runs.stands) (steps here key made.0 made.1.steps)
      (λ still number e may. made.1.goes number e) made.2 (budget_bounds program bounds made.0 made.2.budget) in
      let more : replicate k event ++ event ∷ [] ≡ replicate (k + 1) event = sym (replicate_more k event) in
      record {
        runs = record {
          last = made.0;
          run = subst (λ es. Run Ideal (setting_in program places) (WithinBounds bounds) w es made.0) more run.run;
          stands = made.2;
          course = subst (λ es. Course (setting_in program places) bounds from w es after made.0) more run.course;
        };
        moves = moves_on k before.runs.last made.0 before.moves made.1;
      }

  -- the steps are so many events of each world of the machine
  pub strides_run : (n : ℕ) (q : PlaceState) → Strides key p n q → (w : World) → AllStandFor program bounds places flights w
      → RepeatsThrough from w n here key (at q flights)
  strides_run n q (at_once) w stand = subst (λ ps. RepeatsThrough from w 0 here key (state_of program bounds ps flights))
      (sym (set_same places here p is)) (record { runs = through_none from w stand; moves = at_rest })
  strides_run n q (onward k r s far stride) w stand = one_more k r s no_sent w (strides_keep key p k r far) stride (strides_run k r far w stand)

  -- and so are those of which the last one puts something out
  pub strides_to_run : (n : ℕ) (out : Sent) (q : PlaceState) → StridesTo key p n out q → (w : World) → AllStandFor program bounds places flights w
      → RepeatsThrough from w n here key (at q (with_sent flights out))
  strides_to_run n out q (nowhere) w stand = strides_run 0 p at_once w stand
  strides_to_run n out q (finally k r o s far stride) w stand = one_more k r s o w (strides_keep key p k r far) stride (strides_run k r far w stand)

  -- what the last one puts out goes to places that there are
  pub out_below : (n : ℕ) (out : Sent) (q : PlaceState) → StridesTo key p n out q → (w : World) → AllStandFor program bounds places flights w
      → GoesBelow p.places out
  out_below n out q (nowhere) w stand = record { message = λ o e. none_out o e; report = λ o e. none_out o e }
    where
      none_out : (o : Outgoing) → None ≡ Some o → o.to < p.places
      none_out o e = absurd cc
  out_below n out q (finally k r o s far stride) w stand =
      let before = strides_run k r far w stand in
      let old = before.runs.stands.some here r (set_here places here r p is) in
      subst (λ c. GoesBelow c o) (strides_keep key p k r far).places (goes_below r old.0 (far_in before.runs.last) key o s old.2 stride.leads)
