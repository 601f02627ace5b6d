-- A message that begins an activity is taken in by each place of the machine that a place stands for.
use Rattle.std.proofs.Common.{◌≡◌, ℕ, ◌+◌, ◌<◌, ◌^◌, Bool, length, Some, None, refl, sym, ap, ap₂, subst, ◌∙◌, arith}
use Rattle.std.specs.Prelude.{map}
use Rattle.std.proofs.lemmas.Option.{same_Some}
use Rattle.slab.specs.Slab.{Slab}
use Rattle.x10_heap.specs.Words.{Context}
use Rattle.x10_heap.proofs.GrownHeaps.{Grows}
use Rattle.x10_model.specs.Modules.{Module, Function, FitsImage}
use Rattle.x10_model.specs.Moves.{new_stay}
use Rattle.x10_model.specs.Places as machine
use Rattle.x10_model.specs.declared.finish.Finish.{Finish}
use Rattle.x10_model.specs.Places.{Origin, Stay, Message, with_stay}
use Rattle.x10_model.specs.Ranges.{function_at}
use Rattle.x10_model.specs.Signatures.{FitSlots}
use Rattle.x10_model.specs.Values.{IsOfKind}
use Rattle.x10_model.specs.Copies.{Snapshot}
use Rattle.x10_model.specs.Deliveries.{Begins, Receives}
use Rattle.x10_model.specs.Frames as frames
use Rattle.x10_model.specs.declared.version.FrameVersion.TheVariants.{Wide}
use Rattle.x10_model.specs.Frames.{Graph, Frame, FitsFrame}
use Rattle.x10_model.specs.Marshalling.{snapshot_of}
use Rattle.x10_model.specs.Totals.{Took, totals_after}
use Rattle.x10_frame.specs.Heads.{graph_of}
use Rattle.x10_copy.specs.Arrived.{HaveHomes}
use Rattle.x10_copy.specs.Captured.{kinds_of}
use Rattle.x10_copy.specs.References.{AreNamedElsewhere}
use Rattle.x10_copy.specs.Taken.{TakesIn, with_heap}
use Rattle.x10_copy.proofs.Lawful.{arrivals_fit}
use Rattle.x10_model.proofs.Lists.{none_some}
use Rattle.x10_verify.specs.Certified.{Certified}
use Rattle.x10_verify.proofs.Wholes.{function_fits}
use Rattle.x10_place.specs.declared.launching.Launch.{Launch}
use Rattle.x10_place.specs.Arrivals.{IsLaunched, Launches}
use Rattle.x10_place.specs.Receiving.{Admits, IsVacantFor, TakesFrame}
use Rattle.x10_place.specs.Stays.{StayState, StoreState, IsPlaced, AreCalling, open_in, origin_as, totals_in, books_of}
use Rattle.x10_place.specs.StandsFor.{Far, context_of, PlaceState, place_of, plain, store_of, with_stays, line_as, IsOfRun, StandsForStay, HoldsExports, StandsFor, setting_of}
use Rattle.x10_place.proofs.BooksOfFinishes.{without, booked_as}
use Rattle.x10_place.proofs.FittingValues.{arrived_grows, homes_named, values_fit, entered_stands}
use Rattle.x10_place.proofs.GrownFrames.{exports_kept}
use Rattle.x10_place.proofs.StandingStays.{open_first, region_first}
use Rattle.x10_place.proofs.Rebuilt.{admitted}

vacant_for : (p : PlaceState) (message : Message) (key : ℕ) → key ≡ p.stays.vacant_key → IsVacantFor p message key
vacant_for p (machine.Spawn from to under function graph) key e = e
vacant_for p (machine.Shift from to waiting under function graph) key e = e
vacant_for p (machine.Back from to waiting graph) key e = tt

-- how much room there is for stays changes nothing
plain_launches : {program : Module} {old new : Slab StayState} {s t : StoreState} {f : Frame} {l : Launch} → Launches program old s f l new t
    → Launches program (plain old) s f l new t
plain_launches h = record {
  callee = h.callee;
  begins = h.begins;
  fits = h.fits;
  is_open = h.is_open;
  roots = h.roots;
  taken = h.taken;
  settles = h.settles;
  key = h.key;
  vacant = h.vacant;
  free = h.free;
  few = h.few;
  child = h.child;
  launched = h.launched;
  added = record { changed = h.added.changed; others = h.added.others };
}

-- a place after a step, with its own number and number of places
pub seen_so : (v : Certified) (old new : Slab StayState) (s t : StoreState) (stopped : Bool) → t.here ≡ s.here → t.places ≡ s.places
    → with_stays (place_of v old s stopped) new t ≡ place_of v new t stopped
seen_so v old new s t stopped here places = ap₂ (λ h k. place_of v new (record t { here = h; places = k }) stopped) (sym here) (sym places)

launched_placed : (program : Module) (l : Launch) (callee : Function) (words : _) (c : StayState) → FitsImage program
    → function_at program l.function ≡ Some callee → IsLaunched l callee words c → IsPlaced program c
launched_placed program l callee words c image is h =
    let e = h.entered in
    let there : function_at program c.top.function ≡ Some callee = ap (λ n. function_at program n) e.function_is ∙ is in
    let long = (function_fits program c.top.function callee image there).length.0 in
    let enough = h.registers in
    let count = e.registers in
    record {
      top = record { function = callee; is_function = there; pc = omega (arith, e.pc_is, long); registers = omega (arith, enough, count) };
      callers = subst (λ fs. AreCalling program fs c.top.function) (sym h.callers) tt;
      finishes = ap length h.finishes ∙ sym (ap₂ (λ m n. m + n) (ap (open_in program) h.callers) (open_first program c.top e.pc_is));
      region = h.inside ∙ sym (region_first program c.top e.pc_is);
    }

-- the finish is one of a place of the run, and so is the stay that waits
pub record IsOfLaunch (places : ℕ) (l : Launch) : Type 0 where
  pub under : (l.under.home < places) × (l.under.number < 2 ^ 32)
  pub back : (o : Origin) → origin_as l.back ≡ Some o → (o.place < places) × (o.key < 2 ^ 32)

module _ (far : Far) (p : PlaceState) (m : machine.Place) (stands : StandsFor far p m) (slab : Slab StayState) (t : StoreState) (f : Frame)
    (l : Launch) (h : Launches p.program p.stays (store_of p) f l slab t) (image : FitsImage p.program) (fits : FitsFrame Wide p.places f)
    (named : AreNamedElsewhere (context_of far p) (snapshot_of (graph_of f))) (run : IsOfLaunch p.places l) where
  abbrev x : Context
  x = context_of far p

  abbrev y : Context
  y = with_heap x t.heap

  abbrev brings : Snapshot
  brings = snapshot_of (graph_of f)

  pub taken : TakesIn x m.cells brings (kinds_of h.callee.parameters) h.roots t.heap
  taken = h.taken x m.cells refl refl refl (let few = stands.site.few in omega (arith, few)) fits named stands.heap

  grows : Grows x y
  grows = arrived_grows x t.heap (graph_of f) h.settles.brought.heap_is

  homes : HaveHomes p.id taken.values h.callee.parameters
  homes = subst (λ vs. HaveHomes p.id vs h.callee.parameters) (sym taken.arrives.copy.roots)
      (homes_named p.id taken.arrives.names brings.roots h.callee.parameters h.fits.homes)

  fit : FitSlots (IsOfKind taken.cells) p.id taken.values h.callee.parameters
  fit = values_fit y taken.cells taken.holds p.id h.callee.parameters h.roots taken.values taken.words homes

  abbrev child : Stay
  child = new_stay l.function taken.values l.under (origin_as l.back)

  run_of : IsOfRun p.places h.child
  run_of = record {
    inherited = subst (λ (g : Finish). (g.home < p.places) × (g.number < 2 ^ 32)) (sym h.launched.inherited) run.under;
    back = λ o e. run.back o (sym h.launched.back ∙ e);
  }

  child_stands : StandsForStay p.program stands.assigned y h.child child
  child_stands = record {
    placed = launched_placed p.program l h.callee h.roots h.child image h.begins.0 h.launched;
    top = entered_stands p.program stands.assigned y taken.cells l.function h.launched.count h.callee h.roots taken.values h.child.top
        (function_fits p.program l.function h.callee image h.begins.0).parameters h.begins.0 h.launched.entered taken.words fit;
    callers = h.launched.callers;
    finishes = sym h.launched.finishes;
    inherited = sym h.launched.inherited;
    away = sym h.launched.away;
    inside = sym h.launched.inside;
    back = sym h.launched.back;
    run = run_of;
  }

  abbrev next : machine.Place
  next = with_stay (record m { cells = taken.cells }) h.key (Some child)

  pub begins : Begins (setting_of p) p.id m l.function brings l.under (origin_as l.back) h.key next
  begins =
      let asked = (arrivals_fit (setting_of p) m p.id p.id p.heap h.callee.parameters brings stands.exports.exports_are).0 h.fits in
      record {
        callee = h.callee;
        fits_function = record { callee_is = h.begins.0; arguments = asked.1 };
        no_result = h.begins.1;
        fits_place = asked.0;
        arguments = taken.values;
        cells = taken.cells;
        arrives = taken.arrives;
        free = stands.none h.key h.free;
        new_is = refl;
      }

  exports : HoldsExports t.heap m.exports
  exports = exports_kept x y grows m.exports (ap (λ heap. heap.exports) h.settles.brought.heap_is) stands.exports

  pub admits : (message : Message) → Receives (setting_of p) p.id m message h.key next
      → ((g : Finish) → totals_in t g ≡ totals_after g (totals_in (store_of p) g) (Took message)) → Admits far p m message (with_stays p slab t)
  admits message receives totals =
      let c = h.settles.counted in
      let few = h.few in
      admitted far p m stands slab t h.key h.child child h.added grows child_stands message next
      (λ le. omega (arith, few, le)) (vacant_for p message h.key h.vacant) receives refl taken.holds exports
      (stands.opened ∙ sym c.opened_is) (stands.lines ∙ sym (ap (λ ls. map line_as ls) c.lines))
      (record { here = c.here; places = c.places_are; totals = totals; kept = c.books_are })
      (booked_as p.id p.opened t.opened next.stays next.stays (books_of p.books) (books_of t.books)
      (without p.id p.opened m.stays (books_of p.books) stands.booked h.key (Some child)
      (λ u e. absurd (none_some (m.stays h.key) u (stands.none h.key h.free) e))
      (λ u e. ap (λ (z : Stay). z.finishes) (sym (same_Some child u e)))) refl c.opened_is c.books_are)

-- ---- by the frame that brings it

module _ (v : Certified) (old new : Slab StayState) (s t : StoreState) (stopped : Bool) (image : FitsImage v.program)
    (from to home number function : ℕ) (g : Graph) (here : to ≡ s.here) where
  abbrev spawned : Launch
  spawned = record { from = from; function = function; under = record { home = home; number = number }; back = None }

  abbrev spawn : Frame
  spawn = frames.Spawn from to home number function g

  pub takes_spawn : FitsFrame Wide s.places spawn → Launches v.program old s spawn spawned new t
      → TakesFrame (place_of v old s stopped) spawn (place_of v new t stopped)
  takes_spawn fits h = (
    message,
    refl,
    λ far m stands named. subst (λ q. Admits far (place_of v old s stopped) m message q)
        (seen_so v old new s t stopped h.settles.counted.here h.settles.counted.places_are)
        (admits far (place_of v old s stopped) m stands new t spawn spawned (plain_launches h) image fits named run message
        (here, begins far (place_of v old s stopped) m stands new t spawn spawned (plain_launches h) image fits named run)
        h.settles.counted.totals_are),
  )
    where
      message : Message
      message = machine.Spawn from to (record { home = home; number = number }) function (snapshot_of g)

      run : IsOfLaunch s.places spawned
      run = record { under = (fits.body.home, fits.body.number); back = λ o e. absurd cc }

  module _ (waiting : ℕ) where
    abbrev shifted : Launch
    shifted = record {
      from = from;
      function = function;
      under = record { home = home; number = number };
      back = Some (record { place = from; key = waiting });
    }

    abbrev shift : Frame
    shift = frames.Shift from to waiting home number function g

    pub takes_shift : FitsFrame Wide s.places shift → Launches v.program old s shift shifted new t
        → TakesFrame (place_of v old s stopped) shift (place_of v new t stopped)
    takes_shift fits h = (
      message,
      refl,
      λ far m stands named. subst (λ q. Admits far (place_of v old s stopped) m message q)
          (seen_so v old new s t stopped h.settles.counted.here h.settles.counted.places_are)
          (admits far (place_of v old s stopped) m stands new t shift shifted (plain_launches h) image fits named run message
          (here, begins far (place_of v old s stopped) m stands new t shift shifted (plain_launches h) image fits named run)
          h.settles.counted.totals_are),
    )
      where
        message : Message
        message = machine.Shift from to waiting (record { home = home; number = number }) function (snapshot_of g)

        run : IsOfLaunch s.places shifted
        run = record {
          under = (fits.body.1.home, fits.body.1.number);
          back = λ o e. subst (λ (q : Origin). (q.place < s.places) × (q.key < 2 ^ 32)) (same_Some (record { place = from; key = waiting }) o e)
              (fits.from, fits.body.0);
        }
