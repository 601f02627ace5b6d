-- Frames that a place takes in, and those that it refuses, by what they are.
use Rattle.std.proofs.Common.{◌≡◌, ℕ, Bool, List, Some, None, Result, Ok, Err, OnOk, IfErr, refl, sym, ap, subst, inl}
use Rattle.slab.specs.Slab.{Slab}
use Rattle.x10_model.specs.declared.finish.Finish.{Finish}
use Rattle.x10_model.specs.Frames as frames
use Rattle.x10_model.specs.declared.version.FrameVersion.TheVariants.{Wide}
use Rattle.x10_model.specs.Frames.{Graph, Frame, FitsFrame}
use Rattle.x10_model.specs.Modules.{FitsImage}
use Rattle.x10_frame.specs.declared.head.Head.{Head}
use Rattle.x10_frame.specs.declared.head.What.{What}
use Rattle.x10_frame.specs.declared.head.What.TheVariants as what
use Rattle.x10_frame.specs.Heads.{head, finish, head_of, graph_of}
use Rattle.x10_heap.specs.Heaps.{HeapState}
use Rattle.x10_copy.specs.declared.refusal.Refusal.{Refusal}
use Rattle.x10_copy.specs.declared.refusal.Refusal.TheVariants as refusal
use Rattle.x10_verify.specs.Certified.{Certified}
use Rattle.x10_place.specs.declared.launching.Launch.{Launch}
use Rattle.x10_place.specs.Arrivals.{Launches, IsLaunchRefused, FitsLaunch, MisfitsLaunch, ComesBack, IsExpected, IsBackRefused, IsTakenFrame}
use Rattle.x10_place.specs.Receiving.{IsAwaited, IsSeated, IsMisplaced, IsRefusedFrame}
use Rattle.x10_place.specs.Stays.{StayState, StoreState}
use Rattle.x10_place.specs.StandsFor.{PlaceState, place_of}
use Rattle.x10_place.proofs.AdmittedMessages.{takes_spawn, takes_shift}
use Rattle.x10_place.proofs.Comeback.{takes_back}
use Rattle.x10_place.proofs.StandingStays.{IsChecked}

-- ---- results

pub ok_then : {T E A B : Type 0} (r : Result T E) → (A → B) → OnOk r A → OnOk r B
ok_then (Ok x) f h = f h
ok_then (Err e) f h = tt

pub err_then : {T E : Type 0} {P Q : E → Type 0} (r : Result T E) → ((e : E) → P e → Q e) → IfErr r P → IfErr r Q
err_then (Ok x) f h = tt
err_then (Err e) f h = f e h

-- ---- frames by their heads

-- what a frame is sent for, and its places
parts_are : (f : Frame) (from to : ℕ) (w : What) → head_of f ≡ head from to w
    → ((head_of f).what ≡ w) × ((head_of f).from ≡ from) × ((head_of f).to ≡ to)
parts_are f from to w h = (ap (λ (x : Head). x.what) h, ap (λ (x : Head). x.from) h, ap (λ (x : Head). x.to) h)

pub spawn_is : (f : Frame) (from to home number function : ℕ) → head_of f ≡ head from to (what.Spawn (finish home number) function)
    → f ≡ frames.Spawn from to home number function (graph_of f)
spawn_is f from to home number function h = by f (parts_are f from to (what.Spawn (finish home number) function) h)
  where
    by : (f : Frame) → ((head_of f).what ≡ what.Spawn (finish home number) function) × ((head_of f).from ≡ from) × ((head_of f).to ≡ to)
        → f ≡ frames.Spawn from to home number function (graph_of f)
    by (frames.Spawn a b c d e g) (w, p, q) =
        let same : finish c d ≡ finish home number = cc in
        let is_home : c ≡ home = ap (λ (u : Finish). u.home) same in
        let is_number : d ≡ number = ap (λ (u : Finish). u.number) same in cc
    by (frames.Shift a b k c d e g) (w, p, q) = absurd cc
    by (frames.Back a b k g) (w, p, q) = absurd cc
    by (frames.Report a b n sent received) (w, p, q) = absurd cc

pub shift_is : (f : Frame) (from to waiting home number function : ℕ)
    → head_of f ≡ head from to (what.Shift waiting (finish home number) function)
    → f ≡ frames.Shift from to waiting home number function (graph_of f)
shift_is f from to waiting home number function h = by f (parts_are f from to (what.Shift waiting (finish home number) function) h)
  where
    by : (f : Frame)
        → ((head_of f).what ≡ what.Shift waiting (finish home number) function) × ((head_of f).from ≡ from) × ((head_of f).to ≡ to)
        → f ≡ frames.Shift from to waiting home number function (graph_of f)
    by (frames.Shift a b k c d e g) (w, p, q) =
        let same : finish c d ≡ finish home number = cc in
        let is_home : c ≡ home = ap (λ (u : Finish). u.home) same in
        let is_number : d ≡ number = ap (λ (u : Finish). u.number) same in cc
    by (frames.Spawn a b c d e g) (w, p, q) = absurd cc
    by (frames.Back a b k g) (w, p, q) = absurd cc
    by (frames.Report a b n sent received) (w, p, q) = absurd cc

pub back_is : (f : Frame) (from to waiting : ℕ) → head_of f ≡ head from to (what.Back waiting)
    → f ≡ frames.Back from to waiting (graph_of f)
back_is f from to waiting h = by f (parts_are f from to (what.Back waiting) h)
  where
    by : (f : Frame) → ((head_of f).what ≡ what.Back waiting) × ((head_of f).from ≡ from) × ((head_of f).to ≡ to)
        → f ≡ frames.Back from to waiting (graph_of f)
    by (frames.Back a b k g) (w, p, q) = cc
    by (frames.Spawn a b c d e g) (w, p, q) = absurd cc
    by (frames.Shift a b k c d e g) (w, p, q) = absurd cc
    by (frames.Report a b n sent received) (w, p, q) = absurd cc

module _ (v : Certified) (old : Slab StayState) (s : StoreState) where
  abbrev place : Bool → PlaceState
  place stopped = place_of v old s stopped

  -- ---- an activity that begins

  module _ (from to home number function : ℕ) (here : to ≡ s.here) where
    abbrev new_one : Launch
    new_one = record { from = from; function = function; under = record { home = home; number = number }; back = None }

    spawn_seated : (g : Graph) (stopped : Bool) → FitsLaunch v.program s (frames.Spawn from to home number function g) new_one
        → IsSeated (place stopped) (frames.Spawn from to home number function g)
    spawn_seated g stopped h = record {
      here = here;
      seat = record { home = s.here; slots = h.callee.parameters };
      seat_is = (h.callee, h.begins.0, h.begins.1 refl, refl);
      fits = h.fits;
    }

    spawn_misplaced : (g : Graph) (stopped : Bool) (why : Refusal)
        → MisfitsLaunch v.program s (frames.Spawn from to home number function g) new_one why
        → IsMisplaced (place stopped) (frames.Spawn from to home number function g) why
    spawn_misplaced g stopped why h = record {
      here = here;
      seat = record { home = s.here; slots = h.callee.parameters };
      seat_is = (h.callee, h.begins.0, h.begins.1 refl, refl);
      misfit = h.misfit;
    }

    spawn_refused_by : (g : Graph) (why : Refusal) (stopped : Bool)
        → IsLaunchRefused v.program old s (frames.Spawn from to home number function g) new_one why
        → IsRefusedFrame (place stopped) (frames.Spawn from to home number function g) why
    spawn_refused_by g refusal.Function stopped h = (here, (refl, λ seat c. h c.0 (c.1, λ e. c.2)))
    spawn_refused_by g refusal.Kind stopped h = spawn_misplaced g stopped refusal.Kind h
    spawn_refused_by g refusal.Home stopped h = spawn_misplaced g stopped refusal.Home h
    spawn_refused_by g refusal.Ref stopped h = spawn_misplaced g stopped refusal.Ref h
    spawn_refused_by g refusal.Finish stopped h = inl (spawn_seated g stopped h.0, h.1)
    spawn_refused_by g (refusal.Limit limit) stopped h = (spawn_seated g stopped h.0, (λ shut. shut.1 (h.1 shut.0)), h.2)
    spawn_refused_by g refusal.Memory stopped h = tt
    spawn_refused_by g _ stopped h = absurd h

    pub spawn_refused : (f : Frame) → f ≡ frames.Spawn from to home number function (graph_of f) → (why : Refusal)
        → IsLaunchRefused v.program old s f new_one why → (stopped : Bool) → IsRefusedFrame (place stopped) f why
    spawn_refused f e why h stopped = subst (λ q. IsRefusedFrame (place stopped) q why) (sym e)
        (spawn_refused_by (graph_of f) why stopped (subst (λ q. IsLaunchRefused v.program old s q new_one why) e h))

    spawn_taken_by : (g : Graph) (new : Slab StayState) (t : StoreState) → FitsImage v.program
        → FitsFrame Wide s.places (frames.Spawn from to home number function g)
        → Launches v.program old s (frames.Spawn from to home number function g) new_one new t
        → IsTakenFrame v old s (frames.Spawn from to home number function g) new t
    spawn_taken_by g new t image fits h = record {
      takes = λ stopped. takes_spawn v old new s t stopped image from to home number function g here fits h;
      is_open = λ stopped shut. shut.1 (h.is_open shut.0);
      texts = ap (λ (heap : HeapState). heap.texts) h.settles.brought.heap_is;
      here = h.settles.counted.here;
      places = h.settles.counted.places_are;
    }

    pub spawn_taken : (f : Frame) → f ≡ frames.Spawn from to home number function (graph_of f) → (new : Slab StayState) (t : StoreState)
        → FitsImage v.program → FitsFrame Wide s.places f → Launches v.program old s f new_one new t → IsTakenFrame v old s f new t
    spawn_taken f e new t image fits h = subst (λ q. IsTakenFrame v old s q new t) (sym e)
        (spawn_taken_by (graph_of f) new t image (subst (λ q. FitsFrame Wide s.places q) e fits)
        (subst (λ q. Launches v.program old s q new_one new t) e h))

    -- ---- one that goes on here

    module _ (waiting : ℕ) where
      abbrev moved_one : Launch
      moved_one = record {
        from = from;
        function = function;
        under = record { home = home; number = number };
        back = Some (record { place = from; key = waiting });
      }

      shift_seated : (g : Graph) (stopped : Bool) → FitsLaunch v.program s (frames.Shift from to waiting home number function g) moved_one
          → IsSeated (place stopped) (frames.Shift from to waiting home number function g)
      shift_seated g stopped h = record {
        here = here;
        seat = record { home = s.here; slots = h.callee.parameters };
        seat_is = (h.callee, h.begins.0, refl);
        fits = h.fits;
      }

      shift_misplaced : (g : Graph) (stopped : Bool) (why : Refusal)
          → MisfitsLaunch v.program s (frames.Shift from to waiting home number function g) moved_one why
          → IsMisplaced (place stopped) (frames.Shift from to waiting home number function g) why
      shift_misplaced g stopped why h = record {
        here = here;
        seat = record { home = s.here; slots = h.callee.parameters };
        seat_is = (h.callee, h.begins.0, refl);
        misfit = h.misfit;
      }

      shift_refused_by : (g : Graph) (why : Refusal) (stopped : Bool)
          → IsLaunchRefused v.program old s (frames.Shift from to waiting home number function g) moved_one why
          → IsRefusedFrame (place stopped) (frames.Shift from to waiting home number function g) why
      shift_refused_by g refusal.Function stopped h = (here, (refl, λ seat c. h c.0 (c.1, λ e. absurd cc)))
      shift_refused_by g refusal.Kind stopped h = shift_misplaced g stopped refusal.Kind h
      shift_refused_by g refusal.Home stopped h = shift_misplaced g stopped refusal.Home h
      shift_refused_by g refusal.Ref stopped h = shift_misplaced g stopped refusal.Ref h
      shift_refused_by g refusal.Finish stopped h = inl (shift_seated g stopped h.0, h.1)
      shift_refused_by g (refusal.Limit limit) stopped h = (shift_seated g stopped h.0, (λ shut. shut.1 (h.1 shut.0)), h.2)
      shift_refused_by g refusal.Memory stopped h = tt
      shift_refused_by g _ stopped h = absurd h

      pub shift_refused : (f : Frame) → f ≡ frames.Shift from to waiting home number function (graph_of f) → (why : Refusal)
          → IsLaunchRefused v.program old s f moved_one why → (stopped : Bool) → IsRefusedFrame (place stopped) f why
      shift_refused f e why h stopped = subst (λ q. IsRefusedFrame (place stopped) q why) (sym e)
          (shift_refused_by (graph_of f) why stopped (subst (λ q. IsLaunchRefused v.program old s q moved_one why) e h))

      shift_taken_by : (g : Graph) (new : Slab StayState) (t : StoreState) → FitsImage v.program
          → FitsFrame Wide s.places (frames.Shift from to waiting home number function g)
          → Launches v.program old s (frames.Shift from to waiting home number function g) moved_one new t
          → IsTakenFrame v old s (frames.Shift from to waiting home number function g) new t
      shift_taken_by g new t image fits h = record {
        takes = λ stopped. takes_shift v old new s t stopped image from to home number function g here waiting fits h;
        is_open = λ stopped shut. shut.1 (h.is_open shut.0);
        texts = ap (λ (heap : HeapState). heap.texts) h.settles.brought.heap_is;
        here = h.settles.counted.here;
        places = h.settles.counted.places_are;
      }

      pub shift_taken : (f : Frame) → f ≡ frames.Shift from to waiting home number function (graph_of f) → (new : Slab StayState) (t : StoreState)
          → FitsImage v.program → FitsFrame Wide s.places f → Launches v.program old s f moved_one new t → IsTakenFrame v old s f new t
      shift_taken f e new t image fits h = subst (λ q. IsTakenFrame v old s q new t) (sym e)
          (shift_taken_by (graph_of f) new t image (subst (λ q. FitsFrame Wide s.places q) e fits)
          (subst (λ q. Launches v.program old s q moved_one new t) e h))

  -- ---- a result that comes back

  module _ (from to waiting : ℕ) (here : to ≡ s.here) where
    awaited : (stopped : Bool) (slots : List _) → IsExpected v.program old from waiting slots → IsAwaited (place stopped) waiting from slots
    awaited stopped slots h = record {
      stay = h.stay;
      is_there = h.is_there;
      is_away = h.awaits.is_away;
      call = h.call;
      call_is = h.awaits.call_is;
      is_at = h.awaits.is_at;
      from_is = h.awaits.from_is;
      callee = h.callee;
      callee_is = h.callee_is;
      slots_are = h.slots_are;
    }

    expected_so : (stopped : Bool) (slots : List _) → IsAwaited (place stopped) waiting from slots → IsExpected v.program old from waiting slots
    expected_so stopped slots h = record {
      stay = h.stay;
      is_there = h.is_there;
      call = h.call;
      awaits = record { is_away = h.is_away; call_is = h.call_is; is_at = h.is_at; from_is = h.from_is };
      callee = h.callee;
      callee_is = h.callee_is;
      slots_are = h.slots_are;
    }

    back_refused_by : (g : Graph) (why : Refusal) (stopped : Bool) → IsBackRefused v.program old s (frames.Back from to waiting g) from waiting why
        → IsRefusedFrame (place stopped) (frames.Back from to waiting g) why
    back_refused_by g refusal.Segment stopped h = (here, (refl, λ seat c. h c.0 (expected_so stopped c.0 c.1)))
    back_refused_by g refusal.Kind stopped h = record {
      here = here;
      seat = record { home = from; slots = h.0 };
      seat_is = (h.0, awaited stopped h.0 h.1, refl);
      misfit = h.2;
    }
    back_refused_by g refusal.Home stopped h = record {
      here = here;
      seat = record { home = from; slots = h.0 };
      seat_is = (h.0, awaited stopped h.0 h.1, refl);
      misfit = h.2;
    }
    back_refused_by g refusal.Ref stopped h = record {
      here = here;
      seat = record { home = from; slots = h.0 };
      seat_is = (h.0, awaited stopped h.0 h.1, refl);
      misfit = h.2;
    }
    back_refused_by g (refusal.Limit limit) stopped h = (
      record
          { here = here; seat = record { home = from; slots = h.0 }; seat_is = (h.0, awaited stopped h.0 h.1, refl); fits = h.2.0 },
      (λ shut. shut),
      h.2.1,
    )
    back_refused_by g refusal.Memory stopped h = tt
    back_refused_by g _ stopped h = absurd h.2

    pub back_refused_so : (f : Frame) → f ≡ frames.Back from to waiting (graph_of f) → (why : Refusal)
        → IsBackRefused v.program old s f from waiting why → (stopped : Bool) → IsRefusedFrame (place stopped) f why
    back_refused_so f e why h stopped = subst (λ q. IsRefusedFrame (place stopped) q why) (sym e)
        (back_refused_by (graph_of f) why stopped (subst (λ q. IsBackRefused v.program old s q from waiting why) e h))

    back_taken_by : (g : Graph) (new : Slab StayState) (t : StoreState) → IsChecked v.program
        → FitsFrame Wide s.places (frames.Back from to waiting g) → ComesBack v.program old s (frames.Back from to waiting g) from waiting new t
        → IsTakenFrame v old s (frames.Back from to waiting g) new t
    back_taken_by g new t checks fits h = record {
      takes = λ stopped. takes_back v old new s t stopped checks from to waiting g here fits h;
      is_open = λ stopped shut. shut;
      texts = ap (λ (heap : HeapState). heap.texts) h.arrived.heap_is;
      here = ap (λ (u : StoreState). u.here) h.store;
      places = ap (λ (u : StoreState). u.places) h.store;
    }

    pub back_taken : (f : Frame) → f ≡ frames.Back from to waiting (graph_of f) → (new : Slab StayState) (t : StoreState) → IsChecked v.program
        → FitsFrame Wide s.places f → ComesBack v.program old s f from waiting new t → IsTakenFrame v old s f new t
    back_taken f e new t checks fits h = subst (λ q. IsTakenFrame v old s q new t) (sym e)
        (back_taken_by (graph_of f) new t checks (subst (λ q. FitsFrame Wide s.places q) e fits)
        (subst (λ q. ComesBack v.program old s q from waiting new t) e h))
