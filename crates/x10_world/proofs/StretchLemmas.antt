-- Steps of one activity at a stretch are runs of each world of the machine that the world stands for.
use Rattle.std.proofs.Common.{◌≡◌, ◌≢◌, ◌⊎◌, ◌↔◌, ℕ, ◌+◌, ◌^◌, ◌<◌, ◌≤◌, true, false, List, [], length, Option, Some, None, Result, Ok, Err, refl, sym, ap, subst, ◌∙◌, inl, inr, arith}
use Rattle.std.specs.Prelude.{⊤, slice_get, slice_set}
use Rattle.std.proofs.lemmas.Option.{same_Some, slice_get_past}
use Rattle.std.proofs.lemmas.List.{length-set, set-set}
use Rattle.x10_kinds.specs.declared.limit.Limit.TheVariants as limits
use Rattle.x10_kinds.specs.declared.stop.Stop.{Stop}
use Rattle.x10_kinds.specs.declared.stop.Stop.TheVariants as stop
use Rattle.x10_model.specs.Structure.{bounds_of}
use Rattle.x10_model.specs.Worlds.{World}
use Rattle.x10_model.proofs.Lists.{none_some}
use Rattle.x10_place.specs.declared.sent.Outgoing.{Outgoing}
use Rattle.x10_place.specs.declared.sent.Sent.{Sent}
use Rattle.x10_finish.specs.Nesting.{stays_in, stays_of}
use Rattle.x10_verify.specs.Certified.{Certified}
use Rattle.x10_place.specs.Messages.{no_sent}
use Rattle.x10_place.specs.Stays.{finish_at}
use Rattle.x10_place.specs.StandsFor.{PlaceState, Keeps, IsIdleAt}
use Rattle.x10_place.specs.Stretches.{StridesTo, nowhere, finally, SendsLast}
use Rattle.x10_flights.specs.Flights.{FlightsState, with_room}
use Rattle.x10_world.specs.Prompt.{MayEnd, WorksIn}
use Rattle.x10_world.specs.StandsForWorld.{WorldState, world_of, BelongTo, IsWorld, AllStandFor, StandsForWorld, with_posted, with_sent, GoesBelow, IsRunOn, RunsOne, IsIdleNow, BeganLast, IsRoomless}
use Rattle.x10_world.specs.Happenings.{AreUnchanged, one_if, frame_count}
use Rattle.x10_world.specs.Runs.{IsSameWorld, at_rest, Repeats, RepeatsThrough, SentLast, IsHaltedStretch}
use Rattle.x10_world.specs.EventAnswers.{Stretches}
use Rattle.x10_world.proofs.Lists.{set_here}
use Rattle.x10_world.proofs.WaitLemmas.{idle_works}
use Rattle.x10_world.proofs.Courses.{unchanged_self}
use Rattle.x10_world.proofs.EventRuns.{through_none, repeats_before, halted_repeats}
use Rattle.x10_world.proofs.ChangedPlace.{ChangesOne, belong_after, none_stopped_after, length_after, few_after}
use Rattle.x10_world.proofs.StoppedWorlds.{stand_roomy}
use Rattle.x10_world.proofs.EventLemmas.{places_posted}
use Rattle.x10_model.specs.Places.{IsFree}
use Rattle.x10_world.proofs.StrideRuns.{strides_run, strides_to_run, out_below}

-- ---- a stretch, as a function answers it

changes_by : (Q : PlaceState → PlaceState → Type 0) (old new : List PlaceState) (here key most n : ℕ) (result : Result Sent Stop)
    → ((p q : PlaceState) → IsRunOn p q key most n result → Q p q) → RunsOne old new here key most n result → ChangesOne Q old new here
changes_by Q old new here key most n result means one = record {
  gone = λ e. (one.gone e).2;
  there = λ p e. let t = one.there p e in (t.0, t.1, means p t.0 t.2);
}

sent_is : (out : Sent) → ◌≡◌ {A = Result Sent Stop} (Ok out) (Ok no_sent) → out ≡ no_sent
sent_is out e = cc

err_is : (why : Stop) → ◌≡◌ {A = Result Sent Stop} (Err why) (Ok no_sent) → ⊥
err_is why e = cc

run_goes : (p q : PlaceState) (key most n : ℕ) (out : Sent) → IsRunOn p q key most n (Ok out) → q.stopped ≢ true
run_goes p q key most n out r = r.goes

-- so many frames more were put out
posted_with : (s : FlightsState) (m r : Option Outgoing) → (with_posted (with_posted s m) r).posted ≡ s.posted + (one_if m + one_if r)
posted_with s None None = omega arith
posted_with s (Some m) None = omega arith
posted_with s None (Some r) = omega arith
posted_with s (Some m) (Some r) = omega arith

posted_more : (s : FlightsState) (out : Sent) → (with_sent s out).posted ≡ s.posted + frame_count out
posted_more s out = posted_with s out.message out.report

-- where something was put out, the last step did
sends_last : (key : ℕ) (p : PlaceState) (n : ℕ) (out : Sent) (q : PlaceState) → StridesTo key p n out q → (out ≡ no_sent → ⊥)
    → SendsLast key p n out q
sends_last key p n out q (nowhere) some = absurd (some refl)
sends_last key p n out q (finally before last sent r far stride) some = record {
  before = before;
  count = refl;
  last = last;
  strides = far;
  stride = stride;
  some = some;
}

module _ (c : Certified) (places new : List PlaceState) (flights : FlightsState) (id key most n : ℕ) (bounds-are : bounds_of c.program ≡ Ok c.bounds)
    (world : IsWorld c.program c.bounds places flights false) where
  on : false ≢ true
  on e = cc

  abbrev roomy : FlightsState
  roomy = with_room flights

  -- how the world is, with more room, and how it is then
  abbrev before : WorldState
  before = world_of c places flights false

  abbrev with_more : WorldState
  with_more = world_of c places roomy false

  roomier : IsSameWorld before with_more
  roomier = record {
    places = refl;
    flights = record { posted = refl; flying = refl };
    kept = record { program = refl; bounds = refl; count = refl };
    stopped = refl;
  }

  -- there was no room
  pub stretches_roomless : (after : FlightsState) (why : Stop) → after ≡ flights → IsRoomless flights why
      → Stretches c places flights id key most (Err why) places after
  stretches_roomless after why same roomless = record {
    count = refl;
    world = subst (λ g. IsWorld c.program c.bounds places g true) (sym same)
        (record {
          belong = world.belong;
          places_are = world.places_are;
          none_stopped = λ off. absurd (off refl);
          few = world.few;
          world = world.world;
          stands = world.stands;
        });
    made = tt;
    all = tt;
    halted = record {
      done = 0;
      few = omega arith;
      state = before;
      repeats = λ w stand. record { runs = through_none before w stand; moves = at_rest };
      stops = record {
        hindered = inl roomless;
        places = inl refl;
        flights = subst (λ g. AreUnchanged flights g) (sym same) (unchanged_self flights);
        kept = record { program = refl; bounds = refl; count = refl };
        stopped = refl;
      };
    };
  }

  -- what the last step put out goes to places that there are
  pub stretch_below : (out : Sent) → RunsOne places new id key most n (Ok out) → GoesBelow flights.places out
  stretch_below out one = at_place (slice_get places id) refl
    where
      nothing : GoesBelow flights.places no_sent
      nothing = record { message = λ o e. absurd cc; report = λ o e. absurd cc }

      at_place : (o : Option PlaceState) → slice_get places id ≡ o → GoesBelow flights.places out
      at_place None none = subst (λ x. GoesBelow flights.places x) (sym (sent_is out (one.gone none).1)) nothing
      at_place (Some p) there =
          let t = one.there p there in
          subst (λ m. GoesBelow m out) ((world.belong id p there).places_are ∙ sym world.places_are)
          (out_below c.program c.bounds places flights id key p bounds-are world.belong there n out t.0 t.2.ran world.world world.stands)

  pub stretches_made : (out : Sent) (after : FlightsState) → RunsOne places new id key most n (Ok out) → after ≡ with_sent (with_room flights) out
      → Stretches c places flights id key most (Ok n) new after
  stretches_made out after one same = record {
    count = length_after Keeps places new id keeps;
    world = record {
      belong = belong_after c.program c.bounds places new id world.belong keeps;
      places_are = ap (λ (g : FlightsState). g.places) same ∙ places_posted (with_posted roomy out.message) out.report
          ∙ places_posted roomy out.message ∙ world.places_are ∙ sym (length_after Keeps places new id keeps);
      none_stopped = λ off. none_stopped_after places new id (world.none_stopped on)
          (changes_by (λ p q. q.stopped ≢ true) places new id key most n (Ok out) (λ p q s. run_goes p q key most n out s) one);
      few = few_after Keeps places new id keeps world.few;
      world = (makes world.world world.stands).runs.last;
      stands = (makes world.world world.stands).runs.stands;
    };
    made = (few, makes);
    all = all;
    halted = tt;
  }
    where
      keeps : ChangesOne Keeps places new id
      keeps = changes_by Keeps places new id key most n (Ok out) (λ p q s. s.kept) one

      makes_at : (w : World) → AllStandFor c.program c.bounds places roomy w → (o : Option PlaceState) → slice_get places id ≡ o
          → RepeatsThrough with_more w n id key (world_of c new (with_sent roomy out) false)
      makes_at w stand None none =
          let g = one.gone none in
          subst (λ m. RepeatsThrough with_more w m id key (world_of c new (with_sent roomy out) false)) (sym g.0)
          (subst (λ x. RepeatsThrough with_more w 0 id key (world_of c new (with_sent roomy x) false)) (sym (sent_is out g.1))
          (subst (λ ps. RepeatsThrough with_more w 0 id key (world_of c ps roomy false)) (sym g.2)
          (record { runs = through_none with_more w stand; moves = at_rest })))
      makes_at w stand (Some p) there =
          let t = one.there p there in
          subst (λ ps. RepeatsThrough with_more w n id key (world_of c ps (with_sent roomy out) false)) (sym t.1)
          (strides_to_run c.program c.bounds places roomy id key p bounds-are world.belong there n out t.0 t.2.ran w stand)

      makes : (w : World) → AllStandFor c.program c.bounds places flights w → RepeatsThrough before w n id key (world_of c new after false)
      makes w stand = subst (λ g. RepeatsThrough before w n id key (world_of c new g false)) (sym same)
          (repeats_before before with_more (world_of c new (with_sent roomy out) false) w n id key roomier stand
          (makes_at w (stand_roomy c.program c.bounds places flights w stand) (slice_get places id) refl))

      few_at : (o : Option PlaceState) → slice_get places id ≡ o → n ≤ most
      few_at None none = omega (arith, (one.gone none).0)
      few_at (Some p) there = let t = one.there p there in t.2.few

      few : n ≤ most
      few = few_at (slice_get places id) refl

      all_at : (o : Option PlaceState) → slice_get places id ≡ o → n < most
          → IsIdleNow (world_of c new after false) id key ⊎ (BeganLast (world_of c places flights false) id key n (world_of c new after false)
          ⊎ SentLast (world_of c places flights false) id key n (world_of c new after false))
      all_at None none less = inl (λ q e. absurd (let f = ap (λ ps. slice_get ps id) (one.gone none).2 in
          none_some (slice_get new id) q (f ∙ none) e))
      all_at (Some p) there less =
          let t = one.there p there in
          let at : slice_get new id ≡ Some t.0 = ap (λ ps. slice_get ps id) t.1 ∙ set_here places id t.0 p there in
          elim (t.2.all less) [
            | inl idle ↦ inl (λ q e. subst (λ (r : PlaceState). IsIdleAt r key) (same_Some t.0 q (sym at ∙ e)) idle)
            | inr last ↦ elim last [
              | inl begins ↦ inr (inl (record { old = p; new = t.0; old_is = there; new_is = at; begins = begins }))
              | inr sends ↦ inr (inr (record {
                old = p;
                new = t.0;
                old_is = there;
                new_is = at;
                sent = out;
                sends = sends_last key p n out t.0 t.2.ran sends;
                posted = ap (λ (g : FlightsState). g.posted) same ∙ posted_more roomy out;
              }))
            ]
          ]

      all : n < most → IsIdleNow (world_of c new after false) id key
          ⊎ (BeganLast (world_of c places flights false) id key n (world_of c new after false)
          ⊎ SentLast (world_of c places flights false) id key n (world_of c new after false))
      all less = all_at (slice_get places id) refl less

  pub stretches_refused : (after : FlightsState) (why : Stop) → RunsOne places new id key most n (Err why) → after ≡ with_room flights
      → Stretches c places flights id key most (Err why) new after
  stretches_refused after why one same = record {
    count = length_after Keeps places new id keeps;
    world = record {
      belong = belong_after c.program c.bounds places new id world.belong keeps;
      places_are = ap (λ (g : FlightsState). g.places) same ∙ world.places_are ∙ sym (length_after Keeps places new id keeps);
      none_stopped = λ off. absurd (off refl);
      few = few_after Keeps places new id keeps world.few;
      world = ran.reaches.last;
      stands = ran.reaches.stands;
    };
    made = tt;
    all = tt;
    halted = halted;
  }
    where
      keeps : ChangesOne Keeps places new id
      keeps = changes_by Keeps places new id key most n (Err why) (λ p q s. s.kept) one

      halted_at : (o : Option PlaceState) → slice_get places id ≡ o → IsHaltedStretch before id key most (world_of c new after true) why
      halted_at None none = absurd (err_is why (one.gone none).1)
      halted_at (Some p) there =
          let t = one.there p there in
          let ran = t.2.ran in
          let last : List PlaceState = slice_set places id ran.0 in
          let here : slice_get last id ≡ Some ran.0 = set_here places id ran.0 p there in
          record {
            done = n;
            few = t.2.few;
            state = world_of c last roomy false;
            repeats = λ w stand. repeats_before before with_more (world_of c last roomy false) w n id key roomier stand
                (strides_run c.program c.bounds places roomy id key p bounds-are world.belong there n ran.0 ran.1 w
                (stand_roomy c.program c.bounds places flights w stand));
            stops = record {
              hindered = inr (ran.0, here, ran.3 (world.none_stopped on id p there));
              places = inr (
                id,
                ran.0,
                refl,
                here,
                t.1 ∙ ap (λ x. slice_set places id x) ran.2
                    ∙ sym (set-set places id ran.0 (record ran.0 { stopped = true })),
              );
              flights = subst (λ g. AreUnchanged roomy g) (sym same) (unchanged_self roomy);
              kept = record { program = refl; bounds = refl; count = length_after Keeps places new id keeps ∙ sym (length-set places id ran.0) };
              stopped = refl;
            };
          }

      halted : IsHaltedStretch before id key most (world_of c new after true) why
      halted = halted_at (slice_get places id) refl

      ran : Repeats before world.world (halted_repeats before (world_of c new after true) id key most why halted world.world world.stands).0 id key
          (world_of c new after true)
      ran = (halted_repeats before (world_of c new after true) id key most why halted world.world world.stands).2

-- an activity that works and has nothing to do stands in a finish that may not end
pub run_waits : (y : WorldState) (place key number : ℕ) (X : Type 0) → BelongTo y.program y.bounds (length y.places) y.places → y.flights.flying ≡ []
    → IsIdleNow y place key ⊎ X → (w : World) → StandsForWorld y w → WorksIn w place key number → IsFree (stays_of w.net place) key
    → MayEnd w (finish_at place number) → X
run_waits y place key number X belong still (inr x) w stand works free may = x
run_waits y place key number X belong still (inl idle) w stand works free may = at_place (slice_get y.places place) refl
  where
    at_place : (o : Option PlaceState) → slice_get y.places place ≡ o → X
    at_place None none = absurd (let e : stays_of w.net place key ≡ None = ap (λ o. stays_in o key) (stand.none place none) in
        none_some (stays_of w.net place key) works.stay e works.is_there)
    at_place (Some p) is = absurd (idle_works y.program y.bounds y.places y.flights w place key number p belong stand still is
        (idle p is) works free may)

-- ---- a stretch of one place of a list

-- no such place
pub no_run : (old : List PlaceState) (id key most : ℕ) → length old ≤ id → RunsOne old old id key most 0 (Ok no_sent)
no_run old id key most le = record {
  gone = λ e. (refl, refl, refl);
  there = λ p e. absurd (none_some (slice_get old id) p (slice_get_past old id le) e);
}

-- the place has made its steps
pub one_run : (old : List PlaceState) (id key most n : ℕ) (result : Result Sent Stop) (p q : PlaceState) → slice_get old id ≡ Some p
    → IsRunOn p q key most n result → RunsOne old (slice_set old id q) id key most n result
one_run old id key most n result p q is run = record {
  gone = λ e. absurd (none_some (slice_get old id) p e is);
  there = λ r e. (q, refl, subst (λ x. IsRunOn x q key most n result) (same_Some p r (sym is ∙ e)) run);
}

-- why there was no room
pub roomless_is : (s : FlightsState) (why : Stop) → ((why ≡ stop.Memory) ⊎ (why ≡ stop.Limit limits.Frames))
    → (◌≡◌ {A = Result ⊤ Stop} (Err why) (Err (stop.Limit limits.Frames)) ↔ (2 ^ 64 ≤ s.posted + 2)) → IsRoomless s why
roomless_is s why (inl memory) exact = inl memory
roomless_is s why (inr limit) exact = inr (limit, exact.0 (ap Err limit))
