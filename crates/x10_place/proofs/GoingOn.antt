-- A step after which a stay goes on: the stay of the machine that it stands for makes it too.
use Rattle.std.proofs.Common.{◌≡◌, ℕ, ◌+◌, Bool, true, false, List, [], ◌∷◌, ◌++◌, map, Option, Some, None, refl, sym, ap, ap₂, subst, ◌∙◌, inr}
use Rattle.x10_code.specs.declared.op.Op.{Op}
use Rattle.x10_code.specs.declared.op.Op.TheVariants as op
use Rattle.x10_code.specs.declared.instr.Instr.{Instr}
use Rattle.x10_code.specs.declared.rule.Effect.TheVariants.{Keeps}
use Rattle.x10_model.specs.Maps.{IsIn, with_entry}
use Rattle.x10_model.specs.Modules.{Module, FitsImage}
use Rattle.x10_model.specs.Values.{Cells}
use Rattle.x10_model.specs.Places as machine
use Rattle.x10_model.specs.declared.finish.Finish.{Finish}
use Rattle.x10_model.specs.Places.{Setting, Stay, innermost, Effect, Waits, Works, Begins, Opens, Closes, root, with_stay, next}
use Rattle.x10_model.specs.Totals.{zeros}
use Rattle.x10_model.specs.Moves.{Does, with_line}
use Rattle.x10_model.specs.Assignments.{State, Edges, Permits, Reaches, edges_of}
use Rattle.x10_model.proofs.Rules.{leads}
use Rattle.x10_heap.specs.Heaps.{HeapState}
use Rattle.x10_heap.specs.Words.{Context, HoldsHeap, export_as}
use Rattle.x10_heap.proofs.GrownHeaps.{Grows, grows_not}
use Rattle.x10_place.specs.declared.call_frame.CallFrame.{CallFrame}
use Rattle.x10_place.specs.declared.line.Line.{Line}
use Rattle.x10_place.specs.declared.route.Local.{Local}
use Rattle.x10_place.specs.declared.route.Route.{Route}
use Rattle.x10_place.specs.declared.route.Route.TheVariants as route
use Rattle.x10_place.specs.Frames.{space_of, IsFetchedFor, Acts}
use Rattle.x10_place.specs.Routes.{route_of}
use Rattle.x10_place.specs.declared.outcome.Outcome.TheVariants as outcome
use Rattle.x10_place.specs.Stays.{StayState, StoreState, Location, books_in, GoesNext, IsPlaced, Prints, GoesOnInside, OpensFinish, ClosesFinish, Steps}
use Rattle.x10_place.specs.StandsFor.{Far, context, line_as, Assigned, StandsForFrame, StandForCallers, IsOfRun, StandsForStay, HoldsExports, IsWithinPlaces, IsCountedBy}
use Rattle.x10_place.specs.WorkingStays.{IsTyped, IsTypedFrame}
use Rattle.x10_place.proofs.Framed.{point_of, onward, rule}
use Rattle.x10_place.proofs.GrownFrames.{callers_kept}
use Rattle.x10_place.proofs.FrameMoves.{situated, Fetched, Done}
use Rattle.x10_place.proofs.Made.{make_moves}
use Rattle.x10_place.proofs.Sited.{site_moves, export_moves}
use Rattle.x10_place.proofs.Calls.{call_moves}
use Rattle.x10_place.proofs.Ends.{ret_resumes, print_moves, next_stands}
use Rattle.x10_place.proofs.CountsOfMoves.{Unopened, same_count, heap_alone, works_count, opens_count, closes_count, KeepsBooks, works_books, IsSilent, silent_works, silent_opens, silent_closes}
use Rattle.x10_place.proofs.StandingFrames.{IsChecked}
use Rattle.x10_place.proofs.RoutesOfOne.{is_export, is_call, is_return, is_print, is_enter, is_leave, is_open_finish, is_close_finish}
use Rattle.x10_place.proofs.StandingStays.{steps_placed}
use Rattle.x10_place.proofs.LocalSteps.{local_done}

one_more : (lines : List Line) (l : Line) → map line_as (lines ++ l ∷ []) ≡ map line_as lines ++ line_as l ∷ []
one_more [] l = refl
one_more (x ∷ xs) l = ap (λ ys. line_as x ∷ ys) (one_more xs l)

-- ---- a stay

module _ (setting : Setting) (here : ℕ) (far : Far) (m : machine.Place) (key : ℕ) (s : Stay) (assigned : Assigned setting.program) (st : StoreState)
    (held : HoldsHeap (context setting here st.heap far) m.cells) (exported : HoldsExports st.heap m.exports)
    (locality : IsWithinPlaces setting.program here setting.places) (opened_is : m.opened ≡ st.opened) (at_home : st.here ≡ here) (a : StayState)
    (h : StandsForStay setting.program assigned (context setting here st.heap far) a s) (i : Instr)
    (fetched : IsFetchedFor setting.program a.top i) where
  abbrev x : Context
  x = context setting here st.heap far

  abbrev y : HeapState → Context
  y new = context setting here new far

  abbrev fetch : Fetched
  fetch = record {
    setting = setting;
    here = here;
    far = far;
    m = m;
    key = key;
    s = s;
    assigned = assigned;
    heap = st.heap;
    f = a.top;
    h = h.top;
    i = i;
    fetched = fetched;
  }

  -- The stay is another one, and stands for another stay, which the machine's place has after its move. Apart from stays
  -- that place is the base; its cells stand for the heap as it is now, in which all that was known stays known.
  pub record Goes (o : Op) (b : StayState) (t : StoreState) : Type 0 where
    pub base : machine.Place
    pub stay : Stay
    pub effect : Effect
    pub stays : base.stays ≡ m.stays
    pub opened : base.opened ≡ t.opened
    pub now_exported : HoldsExports t.heap base.exports
    pub lines : m.lines ≡ map line_as st.lines → base.lines ≡ map line_as t.lines
    pub does : Does o (situated setting here m key s h.top.function i) (with_stay base key (Some stay)) effect
    pub stands : StandsForStay setting.program assigned (y t.heap) b stay
    pub holds : HoldsHeap (y t.heap) base.cells
    pub grows : Grows x (y t.heap)
    pub counted : Unopened st → IsCountedBy st effect t
    pub booked : KeepsBooks effect st t
    pub works : (number : ℕ) → effect ≡ Waits number → ⊥
    pub begins_none : (other function : ℕ) (under : Finish) → effect ≡ Begins other function under → ⊥
    pub silent : IsSilent effect

  -- the stay with another call frame at the top
  with_top : (b : StayState) (new : HeapState) (top : machine.CallFrame) → Grows x (y new) → IsPlaced setting.program b
      → StandsForFrame setting.program assigned (y new) b.top top → b ≡ record a { top = b.top }
      → StandsForStay setting.program assigned (y new) b (record s { top = top })
  with_top b new top grows placed frame rest = record {
    placed = placed;
    top = frame;
    callers = subst (λ fs. StandForCallers setting.program assigned (y new) fs s.callers) (sym (ap (λ (q : StayState). q.callers) rest))
        (callers_kept x (y new) grows setting.program assigned a.callers s.callers h.callers);
    finishes = h.finishes ∙ ap (λ (q : StayState). q.finishes) (sym rest);
    inherited = h.inherited ∙ ap (λ (q : StayState). q.inherited) (sym rest);
    away = h.away ∙ ap (λ (q : StayState). q.away) (sym rest);
    inside = h.inside ∙ ap (λ (q : StayState). q.inside) (sym rest);
    back = h.back ∙ ap (λ (q : StayState). q.back) (sym rest);
    run = subst (λ (q : StayState). IsOfRun setting.places q) (sym rest) (record { inherited = h.run.inherited; back = h.run.back });
  }

  abbrev states : ℕ → Option State
  states = (assigned a.top.function h.top.function h.top.is_function).0

  module _ (b : StayState) (t : StoreState) (placed : IsPlaced setting.program b) (out : Edges)
      (permits : Permits i.op (point_of setting.program h.top.function a.top i) h.top.state out)
      (edges : (edge : ℕ × State) → IsIn edge out → Reaches states edge) where
    permits_at : (o : Op) → i.op ≡ o → Permits o (point_of setting.program h.top.function a.top i) h.top.state out
    permits_at o e = subst (λ q. Permits q (point_of setting.program h.top.function a.top i) h.top.state out) e permits

    -- where an operation leads that leaves what is known as it was
    edges_by : (o : Op) (e : i.op ≡ o) → (permits_at o e).0 ≡ Keeps
        → out ≡ edges_of o (point_of setting.program h.top.function a.top i) h.top.state Keeps
    edges_by o e same = leads o (point_of setting.program h.top.function a.top i) h.top.state out (permits_at o e) same

    -- the top call frame and the heap alone
    from_top : (o : Op) → Done fetch o b.top t.heap → b ≡ record a { top = b.top }
        → t ≡ record st { heap = t.heap } → Goes o b t
    from_top o done rest store = record {
      base = record m { cells = done.cells; exports = done.exports };
      stay = record s { top = done.top };
      effect = Works;
      stays = refl;
      opened = opened_is ∙ sym (ap (λ (q : StoreState). q.opened) store);
      now_exported = done.exported;
      lines = λ e. e ∙ ap (λ (q : StoreState). map line_as q.lines) (sym store);
      does = done.does;
      stands = with_top b t.heap done.top done.grows placed done.stands rest;
      holds = done.holds;
      grows = done.grows;
      counted = λ none. works_count st t (heap_alone st t store);
      booked = works_books st t (heap_alone st t store);
      works = λ n e. absurd cc;
      begins_none = λ k f u e. absurd cc;
      silent = silent_works;
    }

    -- nothing but the stay
    from_stay : (o : Op) (to : Stay) → Does o (situated setting here m key s h.top.function i) (with_stay m key (Some to)) Works
        → StandsForStay setting.program assigned x b to → t ≡ st → Goes o b t
    from_stay o to does stands same = subst (λ q. Goes o b q) (sym same) (record {
      base = m;
      stay = to;
      effect = Works;
      stays = refl;
      opened = opened_is;
      now_exported = exported;
      lines = λ e. e;
      does = does;
      stands = stands;
      holds = held;
      grows = grows_not x;
      counted = λ none. works_count st st (same_count st);
      booked = works_books st st (same_count st);
      works = λ n e. absurd cc;
      begins_none = λ k f u e. absurd cc;
      silent = silent_works;
    })

    printed : i.op ≡ op.Print → Prints setting.program a st i b t → Goes op.Print b t
    printed e prints =
        let moved = print_moves setting here far m key s assigned st.heap held locality.few a h i fetched b out prints.printed prints.is_printed
        (permits_at op.Print e) edges prints.top in
        subst (λ q. Goes op.Print b q) (sym prints.store) (record {
          base = with_line m (line_as prints.printed);
          stay = record s { top = next s.top };
          effect = Works;
          stays = refl;
          opened = opened_is;
          now_exported = exported;
          lines = λ is. ap (λ ls. ls ++ line_as prints.printed ∷ []) is ∙ sym (one_more st.lines prints.printed);
          does = moved.0;
          stands = with_top b st.heap (next s.top) (grows_not x) placed moved.1 prints.rest;
          holds = held;
          grows = grows_not x;
          counted = λ none. works_count st (record st { lines = st.lines ++ prints.printed ∷ [] })
              (record { here = refl; places = refl; ledger = refl; books = refl; opened = refl });
          booked = works_books st (record st { lines = st.lines ++ prints.printed ∷ [] })
              (record { here = refl; places = refl; ledger = refl; books = refl; opened = refl });
          works = λ n e. absurd cc;
          begins_none = λ k f u e. absurd cc;
          silent = silent_works;
        })

    -- the stay goes on to the next instruction, inside an atomic region or not
    marked : (inside : Bool) → out ≡ onward (point_of setting.program h.top.function a.top i) h.top.state → GoesOnInside inside a b
        → StandsForStay setting.program assigned x b (record s { top = next s.top; inside = inside })
    marked inside is made = record {
      placed = placed;
      top = next_stands setting here far m key s assigned st.heap held locality.few a h i fetched b out is edges made.top;
      callers = subst (λ fs. StandForCallers setting.program assigned x fs s.callers) (sym (ap (λ (q : StayState). q.callers) made.rest)) h.callers;
      finishes = h.finishes ∙ ap (λ (q : StayState). q.finishes) (sym made.rest);
      inherited = h.inherited ∙ ap (λ (q : StayState). q.inherited) (sym made.rest);
      away = h.away ∙ ap (λ (q : StayState). q.away) (sym made.rest);
      inside = ap (λ (q : StayState). q.inside) (sym made.rest);
      back = h.back ∙ ap (λ (q : StayState). q.back) (sym made.rest);
      run = subst (λ (q : StayState). IsOfRun setting.places q) (sym made.rest) (record { inherited = h.run.inherited; back = h.run.back });
    }

    enters : i.op ≡ op.Atomb → GoesOnInside true a b → t ≡ st → Goes op.Atomb b t
    enters e made same = from_stay op.Atomb (record s { top = next s.top; inside = true }) (refl, refl)
        (marked true (edges_by op.Atomb e (permits_at op.Atomb e).1.settles) made) same

    leaves : i.op ≡ op.Atome → GoesOnInside false a b → t ≡ st → Goes op.Atome b t
    leaves e made same = from_stay op.Atome (record s { top = next s.top; inside = false }) (refl, refl)
        (marked false (edges_by op.Atome e (permits_at op.Atome e).1.settles) made) same

    -- the stay goes on to the next instruction with other finishes open, and the heap is as it was
    with_finishes : (heap : t.heap ≡ st.heap) (ns : List ℕ) → out ≡ onward (point_of setting.program h.top.function a.top i) h.top.state
        → GoesNext a.top b.top → b ≡ record a { top = b.top; finishes = ns }
        → StandsForStay setting.program assigned (y t.heap) b (record s { top = next s.top; finishes = ns })
    with_finishes heap ns is goes rest = subst (λ n. StandsForStay setting.program assigned (y n) b (record s { top = next s.top; finishes = ns }))
        (sym heap) (record {
          placed = placed;
          top = next_stands setting here far m key s assigned st.heap held locality.few a h i fetched b out is edges goes;
          callers = subst (λ fs. StandForCallers setting.program assigned x fs s.callers) (sym (ap (λ (q : StayState). q.callers) rest)) h.callers;
          finishes = ap (λ (q : StayState). q.finishes) (sym rest);
          inherited = h.inherited ∙ ap (λ (q : StayState). q.inherited) (sym rest);
          away = h.away ∙ ap (λ (q : StayState). q.away) (sym rest);
          inside = h.inside ∙ ap (λ (q : StayState). q.inside) (sym rest);
          back = h.back ∙ ap (λ (q : StayState). q.back) (sym rest);
          run = subst (λ (q : StayState). IsOfRun setting.places q) (sym rest) (record { inherited = h.run.inherited; back = h.run.back });
        })

    heap_holds : t.heap ≡ st.heap → HoldsHeap (y t.heap) m.cells
    heap_holds heap = subst (λ n. HoldsHeap (y n) m.cells) (sym heap) held

    heap_exports : t.heap ≡ st.heap → HoldsExports t.heap m.exports
    heap_exports heap = subst (λ n. HoldsExports n m.exports) (sym heap) exported

    heap_grows : t.heap ≡ st.heap → Grows x (y t.heap)
    heap_grows heap = subst (λ n. Grows x (y n)) (sym heap) (grows_not x)

    opens : i.op ≡ op.Finb → OpensFinish a st b t → Goes op.Finb b t
    opens e made =
        let r = made.store in
        let same : st.opened ∷ a.finishes ≡ m.opened ∷ s.finishes = ap₂ (λ n ns. n ∷ ns) (sym opened_is) (sym h.finishes) in
        record {
          base = record m { opened = m.opened + 1 };
          stay = record s { top = next s.top; finishes = m.opened ∷ s.finishes };
          effect = Opens m.opened (innermost here s);
          stays = refl;
          opened = ap (λ n. n + 1) opened_is ∙ sym r.opened_is;
          now_exported = heap_exports r.heap;
          lines = λ is. is ∙ sym (ap (λ ls. map line_as ls) r.lines);
          does = (refl, refl);
          stands = with_finishes r.heap (m.opened ∷ s.finishes) (edges_by op.Finb e (permits_at op.Finb e).1.settles) made.top
              (subst (λ ns. b ≡ record a { top = b.top; finishes = ns }) same made.rest);
          holds = heap_holds r.heap;
          grows = heap_grows r.heap;
          counted = λ none. subst (λ n. IsCountedBy st (Opens n (innermost here s)) t) (sym opened_is) (opens_count st t (innermost here s) none r);
          booked = (opened_is, r.opened_is, (λ k. r.books_are k ∙ ap (λ n. with_entry (books_in st) n (Some (λ p. zeros)) k) (sym opened_is)));
          works = λ n f. absurd cc;
          begins_none = λ k f u e. absurd cc;
          silent = silent_opens m.opened (innermost here s);
        }

    closes_one : i.op ≡ op.Fine → ClosesFinish a st b t → Goes op.Fine b t
    closes_one e made =
        let r = made.store in record {
          base = m;
          stay = record s { top = next s.top; finishes = b.finishes };
          effect = Closes made.number;
          stays = refl;
          opened = opened_is ∙ sym r.opened_is;
          now_exported = heap_exports r.heap;
          lines = λ is. is ∙ sym (ap (λ ls. map line_as ls) r.lines);
          does = (made.number, b.finishes, h.finishes ∙ made.innermost, inr (refl, refl));
          stands = with_finishes r.heap b.finishes (edges_by op.Fine e (permits_at op.Fine e).1.settles) made.top made.rest;
          holds = heap_holds r.heap;
          grows = heap_grows r.heap;
          counted = λ none. closes_count st t made.number made.done r;
          booked = (r.opened_is, r.books_are);
          works = λ n f. absurd cc;
          begins_none = λ k f u e. absurd cc;
          silent = silent_closes made.number;
        }

    goes_at : (o : Op) → i.op ≡ o → Goes o b t → Goes i.op b t
    goes_at o e goes = subst (λ q. Goes q b t) (sym e) goes

    by_route : (r : Route) → FitsImage setting.program → route_of i.op ≡ r
        → Steps r (record { program = setting.program; here = here; places = setting.places }) a st i outcome.Goes b t → Goes i.op b t
    by_route (route.Local l) image e (on, top) = from_top i.op
        (local_done fetch held exported locality b.top t.heap l e top.function_is
        top.changes) top.rest top.store
    by_route (route.Make k) image e (on, top) =
        from_top i.op (make_moves fetch held exported b.top t.heap out top.function_is edges
        k i.op refl e permits top.changes) top.rest top.store
    by_route (route.Site k) image e (on, top) =
        from_top i.op (site_moves fetch held exported locality b.top t.heap out
        top.function_is edges k i.op refl e permits top.changes) top.rest top.store
    by_route route.Export image e (on, top) =
        goes_at op.Gnew (is_export i.op e) (from_top op.Gnew (export_moves fetch held
        exported locality b.top t.heap out top.function_is edges (is_export i.op e) (permits_at op.Gnew (is_export i.op e)) top.changes) top.rest
        top.store)
    by_route route.Call image e (on, calls, same) =
        let moved = call_moves setting here far m key s assigned st.heap held a h i fetched b out image placed (is_call i.op e)
        (permits_at op.Call (is_call i.op e)) calls in
        goes_at op.Call (is_call i.op e) (from_stay op.Call moved.0 moved.1 moved.2 same)
    by_route route.Return image e (returns, same) =
        let moved = ret_resumes setting here far m key s assigned st.heap held locality.few a h i fetched b out placed (is_return i.op e)
        (permits_at op.Ret (is_return i.op e)) returns in
        goes_at op.Ret (is_return i.op e) (from_stay op.Ret moved.0 moved.1 moved.2 same)
    by_route route.Print image e (on, prints) = goes_at op.Print (is_print i.op e) (printed (is_print i.op e) prints)
    by_route (route.Region true) image e (on, made, same) = goes_at op.Atomb (is_enter i.op e) (enters (is_enter i.op e) made same)
    by_route (route.Region false) image e (on, made, same) = goes_at op.Atome (is_leave i.op e) (leaves (is_leave i.op e) made same)
    by_route route.OpenFinish image e (on, made) = goes_at op.Finb (is_open_finish i.op e) (opens (is_open_finish i.op e) made)
    by_route route.CloseFinish image e made = goes_at op.Fine (is_close_finish i.op e) (closes_one (is_close_finish i.op e) made)
    by_route route.Async image e steps = absurd (let f = steps.0 in cc)
    by_route route.At image e steps = absurd (let f = steps.0 in cc)
    by_route route.Ata image e steps = absurd (let f = steps.0 in cc)

  pub stay_goes : IsChecked setting.program → (b : StayState) (t : StoreState)
      → Steps (route_of i.op) (record { program = setting.program; here = here; places = setting.places }) a st i outcome.Goes b t → Goes i.op b t
  stay_goes checks b t steps =
      let at = rule setting.program assigned x a.top s.top h.top i fetched in
      by_route b t (steps_placed (record { program = setting.program; here = here; places = setting.places }) checks a b st t i h.placed fetched
      steps) at.0 at.1 at.2 (route_of i.op) checks.fits refl steps

-- ---- words keep their kinds

-- a machine's place with nothing but cells, exports and a number of finishes
abbrev place_with : Cells → HeapState → ℕ → machine.Place
place_with cells heap opened = record { stays = λ k. None; cells = cells; exports = map export_as heap.exports; opened = opened; lines = [] }

-- a stay with nothing but a call frame
abbrev stay_of : machine.CallFrame → Stay
stay_of frame = record { top = frame; callers = []; finishes = []; inherited = root; away = false; inside = false; back = None }

pub typed_after : (at : Location) (a b : StayState) (s t : StoreState) (i : Instr) → IsChecked at.program → s.here ≡ at.here → IsTyped at s.heap a
    → IsFetchedFor at.program a.top i → Steps (route_of i.op) at a s i outcome.Goes b t → IsTyped at t.heap b
typed_after at a b s t i checks here typed fetched steps =
    let setting : Setting = record { program = at.program; places = at.places } in
    let to = stay_goes setting at.here typed.far (place_with typed.cells s.heap s.opened) 0 typed.stay typed.assigned s typed.holds
    (record { exports_are = refl; named = typed.named }) typed.site refl here a typed.stands i fetched checks b t steps in
    record {
      assigned = typed.assigned;
      site = typed.site;
      named = to.now_exported.named;
      far = typed.far;
      stay = to.stay;
      stands = to.stands;
      cells = to.base.cells;
      holds = to.holds;
    }

pub frame_typed : (program : Module) (f g : CallFrame) (heap new : HeapState) (i : Instr) (l : Local) → IsTypedFrame program heap f
    → IsFetchedFor program f i → route_of i.op ≡ route.Local l → g.function ≡ f.function → Acts l program (space_of f heap) i (space_of g new)
    → IsTypedFrame program new g
frame_typed program f g heap new i l typed fetched r same acts =
    let setting : Setting = record { program = program; places = typed.places } in
    let at : Fetched = record {
      setting = setting;
      here = typed.here;
      far = typed.far;
      m = place_with typed.cells heap 0;
      key = 0;
      s = stay_of typed.frame;
      assigned = typed.assigned;
      heap = heap;
      f = f;
      h = typed.stands;
      i = i;
      fetched = fetched;
    } in
    let done = local_done at typed.holds (record { exports_are = refl; named = typed.named }) typed.site g new l r same acts in
    record {
      assigned = typed.assigned;
      places = typed.places;
      here = typed.here;
      site = typed.site;
      named = done.exported.named;
      far = typed.far;
      frame = done.top;
      stands = done.stands;
      cells = done.cells;
      holds = done.holds;
    }

-- the top call frame of a stay
pub typed_top : (at : Location) (a : StayState) (s : StoreState) → IsTyped at s.heap a → IsTypedFrame at.program s.heap a.top
typed_top at a s t = record {
  assigned = t.assigned;
  places = at.places;
  here = at.here;
  site = t.site;
  named = t.named;
  far = t.far;
  frame = t.stay.top;
  stands = t.stands.top;
  cells = t.cells;
  holds = t.holds;
}
