-- A result that comes back is taken in by each place of the machine that a place stands for.
use Rattle.std.proofs.Common.{◌≡◌, ℕ, ◌+◌, ◌<◌, ◌^◌, Bool, false, List, [], ◌∷◌, length, Option, Some, None, refl, sym, ap, ap₂, subst, ◌∙◌, arith}
use Rattle.std.specs.Prelude.{map, slice_set}
use Rattle.std.proofs.lemmas.Option.{same_Some}
use Rattle.slab.specs.Slab.{Slab}
use Rattle.x10_kinds.specs.declared.kind.Kind.TheVariants as kind
use Rattle.x10_kinds.specs.declared.homes.Term.TheVariants as term
use Rattle.x10_code.specs.declared.op.Op.TheVariants as op
use Rattle.x10_code.specs.declared.instr.Instr.{Instr}
use Rattle.x10_code.specs.declared.rule.Effect.{Effect}
use Rattle.x10_code.specs.declared.rule.Effect.TheVariants.{Sets}
use Rattle.x10_code.specs.Table.{form_of}
use Rattle.x10_heap.specs.Words.{Context, AreWordsOf}
use Rattle.x10_heap.proofs.GrownHeaps.{Grows}
use Rattle.x10_model.specs.declared.slot.Slot.{Slot}
use Rattle.x10_model.specs.Assignments.{State, GivesResult, like_if, Permits, Reaches, Edges, after as after_effect}
use Rattle.x10_model.specs.Copies.{Snapshot, IsOfKindIn}
use Rattle.x10_model.specs.Deliveries.{FitsResultAt, first_of, WaitsFor, Resumes, Receives}
use Rattle.x10_model.specs.Frames as frames
use Rattle.x10_model.specs.declared.version.FrameVersion.TheVariants.{Wide}
use Rattle.x10_model.specs.Frames.{Graph, Frame, FitsFrame}
use Rattle.x10_model.specs.Maps.{with_entry, IsIn}
use Rattle.x10_model.specs.Marshalling.{snapshot_of}
use Rattle.x10_model.specs.Modules.{Module, Function}
use Rattle.x10_model.specs.Moves.{resumed}
use Rattle.x10_model.specs.Places as machine
use Rattle.x10_model.specs.declared.finish.Finish.{Finish}
use Rattle.x10_model.specs.Places.{Stay, Message, with_stay, next, writes}
use Rattle.x10_model.specs.Ranges.{function_at, instr_at, instr_in, result_of, result_for, IsResultRegister, IsThere}
use Rattle.x10_model.specs.Signatures.{FitSlots}
use Rattle.x10_model.specs.Totals.{Took, totals_after}
use Rattle.x10_model.specs.Values as values
use Rattle.x10_model.specs.Values.{Value, Cells, IsOfKind}
use Rattle.x10_frame.specs.Heads.{graph_of}
use Rattle.x10_copy.specs.Arrived.{HaveHomes}
use Rattle.x10_copy.specs.Captured.{kinds_of}
use Rattle.x10_copy.specs.References.{AreNamedElsewhere}
use Rattle.x10_copy.specs.Taken.{TakesIn, with_heap}
use Rattle.x10_copy.proofs.Lawful.{arrivals_fit}
use Rattle.x10_verify.specs.Certified.{Certified}
use Rattle.x10_place.specs.declared.call_frame.CallFrame.{CallFrame}
use Rattle.x10_place.specs.Arrivals.{GoesNextBy, GoesOnBy, ComesBack}
use Rattle.x10_place.specs.Frames.{word_at, IsInside, IsFetchedFor}
use Rattle.x10_place.specs.Homes.{place_in}
use Rattle.x10_place.specs.Receiving.{Admits, IsVacantFor, TakesFrame}
use Rattle.x10_place.specs.Sending.{slots_of}
use Rattle.x10_place.specs.Stays.{StayState, StoreState, IsPlaced, AreCalling, open_in, totals_in, books_of}
use Rattle.x10_place.specs.StandsFor.{Far, context_of, PlaceState, place_of, plain, store_of, with_stays, line_as, Assigned, HoldRegisters, StandsForFrame, StandForCallers, IsOfRun, StandsForStay, HoldsExports, StandsFor, setting_of}
use Rattle.x10_place.proofs.AdmittedMessages.{seen_so}
use Rattle.x10_place.proofs.Ats.{at_follows}
use Rattle.x10_place.proofs.BooksOfFinishes.{same, booked_as}
use Rattle.x10_place.proofs.FittingValues.{arrived_grows, homes_named, values_fit}
use Rattle.x10_place.proofs.Framed.{point_of, in_range, small, count, rule, frame_after}
use Rattle.x10_place.proofs.GrownFrames.{frame_kept, callers_kept, exports_kept}
use Rattle.x10_place.proofs.Homes.{homes_written, slot_like}
use Rattle.x10_place.proofs.StandingFrames.{IsChecked, inside_next, inside_with, fetched_inside}
use Rattle.x10_place.proofs.StandingFrames.{open_onward, region_onward}
use Rattle.x10_place.proofs.Rebuilt.{admitted}
use Rattle.x10_place.proofs.Words.{reads, words_written}

plain_back : {program : Module} {old new : Slab StayState} {s t : StoreState} {f : Frame} {from key : ℕ} → ComesBack program old s f from key new t
    → ComesBack program (plain old) s f from key new t
plain_back h = record {
  stay = h.stay;
  is_there = h.is_there;
  call = h.call;
  waits = h.waits;
  callee = h.callee;
  callee_is = h.callee_is;
  roots = h.roots;
  arrived = h.arrived;
  taken = h.taken;
  next = h.next;
  goes = h.goes;
  changed = record { changed = h.changed.changed; others = h.changed.others };
  store = h.store;
}

-- ---- where the stay stands

record GoneOn (program : Module) (f g : CallFrame) : Type 0 where
  inside : IsInside program g
  function_is : g.function ≡ f.function
  pc_is : g.pc ≡ f.pc + 1

gone_on : (program : Module) (words : List ℕ) (f g : CallFrame) (call : Instr) (fetched : IsFetchedFor program f call) → call.op ≡ op.At
    → GoesNextBy words f call.a g → GoneOn program f g
gone_on program [] f g call fetched is goes =
    let lt = at_follows program _ _ _ call fetched is in
    record {
      inside = inside_next program f g (fetched_inside program f call fetched (omega (arith, lt))) lt goes;
      function_is = goes.function_is;
      pc_is = goes.pc_is;
    }
gone_on program (word ∷ words) f g call fetched is goes =
    let lt = at_follows program _ _ _ call fetched is in
    record {
      inside = inside_with program f g call.a word (fetched_inside program f call fetched (omega (arith, lt))) lt goes;
      function_is = goes.function_is;
      pc_is = goes.pc_is;
    }

back_placed : (program : Module) (checks : IsChecked program) (words : List ℕ) (a b : StayState) (call : Instr)
    (fetched : IsFetchedFor program a.top call) → call.op ≡ op.At → IsPlaced program a → GoesOnBy words a call.a b → IsPlaced program b
back_placed program checks words a b call fetched is placed h =
    let on = gone_on program words a.top b.top call fetched is h.goes in
    let callers : b.callers ≡ a.callers = ap (λ (x : StayState). x.callers) h.rest in
    let stood = open_onward program checks a.top call fetched b.top on.function_is on.pc_is (λ e. absurd (let f = sym is ∙ e in cc))
    (λ e. absurd (let f = sym is ∙ e in cc)) in
    let kept = region_onward program checks a.top call fetched b.top on.function_is on.pc_is (λ e. absurd (let f = sym is ∙ e in cc))
    (λ e. absurd (let f = sym is ∙ e in cc)) in
    record {
      top = on.inside;
      callers = subst (λ fs. AreCalling program fs b.top.function) (sym callers)
          (subst (λ n. AreCalling program a.callers n) (sym on.function_is) placed.callers);
      finishes = ap length (ap (λ (x : StayState). x.finishes) h.rest) ∙ placed.finishes
          ∙ ap₂ (λ m n. m + n) (ap (open_in program) (sym callers)) (sym stood);
      region = ap (λ (x : StayState). x.inside) h.rest ∙ placed.region ∙ sym kept;
    }

-- ---- its call frame

-- a result that comes, in the register of the AT
at_result : (program : Module) (function : Function) (i : Instr) (slot : Slot) → i.op ≡ op.At → IsThere program function i (form_of i.op).a i.a
    → result_of (function_at program i.x) ≡ Some slot → i.a < function.registers
at_result program function i slot e there is =
    let at = subst (λ q. IsThere program function i (form_of q).a i.a) e there in
    let register = subst (λ q. IsResultRegister function (result_for program function i q) i.a) e at in
    subst (λ q. IsResultRegister function q i.a) is register

module _ (program : Module) (assigned : Assigned program) (y : Context) (cells : Cells) (f : CallFrame) (c : machine.CallFrame)
    (h : StandsForFrame program assigned y f c) (call : Instr) (fetched : IsFetchedFor program f call) (is : call.op ≡ op.At) where
  -- the register of the place
  register_few : call.c < 64
  register_few =
      let lt = subst (λ q. IsThere program h.function call (form_of q).c call.c) is (in_range program assigned y f c h call fetched).c in
      let few = (small program assigned y f c h call fetched).registers.1 in
      omega (arith, lt, few)

  -- what the assignment says of the AT
  pub permits : (out : Edges) × Permits op.At (point_of program h.function f call) h.state out
      × ((edge : ℕ × State) → IsIn edge out → Reaches (assigned f.function h.function h.is_function).0 edge)
  permits = let at = rule program assigned y f c h call fetched in
      (at.0, subst (λ q. Permits q (point_of program h.function f call) h.state at.0) is at.1, at.2)

  pub place_held : (from : ℕ) → word_at f.registers.items call.c ≡ from → c.registers call.c ≡ Some (values.Place from)
  place_held from e =
      let v = reads y h.state c.registers f.registers.items call.c kind.Place h.words permits.1.1.settles.1.place in
      v.1 ∙ ap Some (v.2.1 ∙ ap values.Place e)

  -- the call frame after the AT, with the result that comes
  frame_back : (from : ℕ) (slot : Option Slot) (words : List ℕ) (vs : List Value) (e : Effect) (g : CallFrame)
      → c.registers call.c ≡ Some (values.Place from) → result_of (function_at program call.x) ≡ slot
      → GivesResult (point_of program h.function f call) (term.Reg call.c) slot e
      → Reaches (assigned f.function h.function h.is_function).0 (f.pc + 1, after_effect call.a h.state e)
      → AreWordsOf y (kinds_of (slots_of slot)) words vs → FitSlots (IsOfKind cells) from vs (slots_of slot) → GoesNextBy words f call.a g
      → StandsForFrame program assigned y g (resumed c call.a (first_of vs))
  frame_back from None [] [] e g held result given reached stand fit goes =
      frame_after program assigned y f c h call fetched g (next c) (f.pc + 1) h.state f.registers.items f.loops
      (record { function_is = goes.function_is; pc_is = goes.pc_is; words_are = goes.words_are; loops_are = goes.loops_are })
      (subst (λ q. Reaches (assigned f.function h.function h.is_function).0 (f.pc + 1, after_effect call.a h.state q)) given.1 reached) refl
      (ap (λ n. n + 1) h.pc_is) h.words h.homes h.slots h.loops
  frame_back from (Some slot) (word ∷ []) (v ∷ []) e g held result given reached stand fit goes =
      let there = at_result program h.function call slot is (in_range program assigned y f c h call fetched).a result in
      let lt : call.a < length f.registers.items = omega (arith, there, count program assigned y f c h call fetched) in
      let like = like_if slot.home_here (term.Reg call.c) in
      let known = after_effect call.a h.state (Sets slot.kind like) in
      let typed : HoldRegisters y known (with_entry c.registers call.a (Some v)) (slice_set f.registers.items call.a word) =
      words_written y h.state c.registers f.registers.items call.a slot.kind like v word lt h.words stand.0 in
      frame_after program assigned y f c h call fetched g (writes c call.a v) (f.pc + 1) known (slice_set f.registers.items call.a word) f.loops
      (record { function_is = goes.function_is; pc_is = goes.pc_is; words_are = goes.words_are; loops_are = goes.loops_are })
      (subst (λ q. Reaches (assigned f.function h.function h.is_function).0 (f.pc + 1, after_effect call.a h.state q)) given reached) refl
      (ap (λ n. n + 1) h.pc_is)
      typed (homes_written y.here h.state.homes c.registers call.a like v h.homes
      (slot_like cells y.here from c.registers (term.Reg call.c) v slot register_few (ap place_in held) fit.0)) h.slots h.loops
  frame_back from None [] (v ∷ vs) e g held result given reached stand fit goes = absurd stand
  frame_back from None (w ∷ ws) vs e g held result given reached stand fit goes = absurd stand
  frame_back from (Some slot) [] vs e g held result given reached stand fit goes = absurd stand
  frame_back from (Some slot) (w ∷ ws) [] e g held result given reached stand fit goes = absurd stand
  frame_back from (Some slot) (w ∷ (x ∷ ws)) (v ∷ []) e g held result given reached stand fit goes = absurd stand.1
  frame_back from (Some slot) (w ∷ []) (v ∷ (u ∷ vs)) e g held result given reached stand fit goes = absurd stand.1
  frame_back from (Some slot) (w ∷ (x ∷ ws)) (v ∷ (u ∷ vs)) e g held result given reached stand fit goes = absurd stand.1

-- the roots of a result fit what is asked of it
result_fits : (s : Snapshot) (from : ℕ) (slot : Option Slot) (vs : List Value) → FitSlots (IsOfKindIn s) from vs (slots_of slot)
    → FitsResultAt s from slot vs
result_fits s from None [] h = tt
result_fits s from None (v ∷ vs) h = absurd h
result_fits s from (Some slot) [] h = absurd h
result_fits s from (Some slot) (v ∷ []) h = h.0
result_fits s from (Some slot) (v ∷ (u ∷ vs)) h = absurd h.1

-- ---- the place

module _ (far : Far) (p : PlaceState) (m : machine.Place) (stands : StandsFor far p m) (slab : Slab StayState) (t : StoreState) (f : Frame)
    (from key : ℕ) (h : ComesBack p.program p.stays (store_of p) f from key slab t) (checks : IsChecked p.program) (fits : FitsFrame Wide p.places f)
    (few : key < 2 ^ 32) (named : AreNamedElsewhere (context_of far p) (snapshot_of (graph_of f))) where
  abbrev x : Context
  x = context_of far p

  abbrev y : Context
  y = with_heap x t.heap

  abbrev brings : Snapshot
  brings = snapshot_of (graph_of f)

  pub taken : TakesIn x m.cells brings (kinds_of (slots_of h.callee.result)) h.roots t.heap
  taken = h.taken x m.cells refl refl refl (let le = stands.site.few in omega (arith, le)) fits named stands.heap

  grows : Grows x y
  grows = arrived_grows x t.heap (graph_of f) h.arrived.heap_is

  homes : HaveHomes from taken.values (slots_of h.callee.result)
  homes = subst (λ vs. HaveHomes from vs (slots_of h.callee.result)) (sym taken.arrives.copy.roots)
      (homes_named from taken.arrives.names brings.roots (slots_of h.callee.result) h.arrived.fits.homes)

  fit : FitSlots (IsOfKind taken.cells) from taken.values (slots_of h.callee.result)
  fit = values_fit y taken.cells taken.holds from (slots_of h.callee.result) h.roots taken.values taken.words homes

  pub found : (s : Stay) × (m.stays key ≡ Some s) × StandsForStay p.program stands.assigned x h.stay s
  found = stands.some key h.stay h.is_there

  top : StandsForFrame p.program stands.assigned y h.stay.top found.0.top
  top = frame_kept x y grows p.program stands.assigned h.stay.top found.0.top found.2.top

  held : found.0.top.registers h.call.c ≡ Some (values.Place from)
  held = place_held p.program stands.assigned y taken.cells h.stay.top found.0.top top h.call h.waits.fetched h.waits.is_at from h.waits.from_is

  top_back : StandsForFrame p.program stands.assigned y h.next.top (resumed found.0.top h.call.a (first_of taken.values))
  top_back =
      let at = permits p.program stands.assigned y taken.cells h.stay.top found.0.top top h.call h.waits.fetched h.waits.is_at in
      let effect = at.1.0 in
      let asked = at.1.1.settles in
      let next = after_effect h.call.a top.state effect in
      let same_callee : asked.0 ≡ h.callee = same_Some asked.0 h.callee (sym asked.1.there ∙ h.callee_is) in
      let given = subst (λ (g : Function). GivesResult (point_of p.program top.function h.stay.top h.call) (term.Reg h.call.c) g.result effect)
      same_callee asked.2 in
      let reached = at.2 (h.stay.top.pc + 1, next) (subst (λ (o : Edges). IsIn (h.stay.top.pc + 1, next) o) (sym at.1.2) (0, refl)) in
      frame_back p.program stands.assigned y taken.cells h.stay.top found.0.top top h.call h.waits.fetched h.waits.is_at from h.callee.result h.roots
      taken.values effect h.next.top held (ap result_of h.callee_is) given reached taken.words fit h.goes.goes

  abbrev to : Stay
  to = record found.0 { top = resumed found.0.top h.call.a (first_of taken.values); away = false }

  to_stands : StandsForStay p.program stands.assigned y h.next to
  to_stands = record {
    placed = back_placed p.program checks h.roots h.stay h.next h.call h.waits.fetched h.waits.is_at found.2.placed h.goes;
    top = top_back;
    callers = subst (λ fs. StandForCallers p.program stands.assigned y fs found.0.callers) (sym (ap (λ (q : StayState). q.callers) h.goes.rest))
        (callers_kept x y grows p.program stands.assigned h.stay.callers found.0.callers found.2.callers);
    finishes = found.2.finishes ∙ ap (λ (q : StayState). q.finishes) (sym h.goes.rest);
    inherited = found.2.inherited ∙ ap (λ (q : StayState). q.inherited) (sym h.goes.rest);
    away = ap (λ (q : StayState). q.away) (sym h.goes.rest);
    inside = found.2.inside ∙ ap (λ (q : StayState). q.inside) (sym h.goes.rest);
    back = found.2.back ∙ ap (λ (q : StayState). q.back) (sym h.goes.rest);
    run = subst (λ (q : StayState). IsOfRun p.places q) (sym h.goes.rest) (record { inherited = found.2.run.inherited; back = found.2.run.back });
  }

  abbrev after : machine.Place
  after = with_stay (record m { cells = taken.cells }) key (Some to)

  waits : WaitsFor (setting_of p) m key from found.0 h.call h.callee
  waits = record {
    is_there = found.1;
    is_away = found.2.away ∙ h.waits.is_away;
    call_is = ap (λ n. instr_at p.program n found.0.top.pc) found.2.top.function_is
        ∙ ap (λ n. instr_at p.program h.stay.top.function n) found.2.top.pc_is
        ∙ subst (λ o. instr_in o h.stay.top.pc ≡ Some h.call) (sym h.waits.fetched.is_function) h.waits.fetched.is_instr;
    is_at = h.waits.is_at;
    is_from = held;
    callee_is = h.callee_is;
  }

  pub comes : Resumes (setting_of p) p.id m from brings key after
  comes =
      let asked = (arrivals_fit (setting_of p) m p.id from p.heap (slots_of h.callee.result) brings stands.exports.exports_are).0 h.arrived.fits in
      record {
        stay = found.0;
        call = h.call;
        callee = h.callee;
        waits = waits;
        fits_result = result_fits brings from h.callee.result brings.roots asked.1;
        fits_place = asked.0;
        result = taken.values;
        cells = taken.cells;
        arrives = taken.arrives;
        new_is = refl;
      }

  exports : HoldsExports t.heap m.exports
  exports = exports_kept x y grows m.exports (ap (λ heap. heap.exports) h.arrived.heap_is) stands.exports

  -- nothing but the heap changes of what the place keeps
  kept : {A : Type 0} (part : StoreState → A) → part t ≡ part (record (store_of p) { heap = t.heap })
  kept part = ap part h.store

  pub admits_back : (message : Message) → IsVacantFor p message key → Receives (setting_of p) p.id m message key after
      → ((g : Finish) → totals_in (store_of p) g ≡ totals_after g (totals_in (store_of p) g) (Took message))
      → Admits far p m message (with_stays p slab t)
  admits_back message vacant receives totals =
      admitted far p m stands slab t key h.next to h.changed grows to_stands message after
      (λ le. omega (arith, few, le)) vacant receives refl taken.holds exports
      (stands.opened ∙ sym (kept (λ s. s.opened))) (stands.lines ∙ sym (kept (λ s. map line_as s.lines)))
      (record {
        here = kept (λ s. s.here);
        places = kept (λ s. s.places);
        totals = λ g. kept (λ s. totals_in s g) ∙ totals g;
        kept = λ n. kept (λ s. books_of s.books n);
      })
      (booked_as p.id p.opened t.opened after.stays after.stays (books_of p.books) (books_of t.books)
      (same p.id p.opened m.stays (books_of p.books) stands.booked key found.0 to found.1 refl) refl (kept (λ s. s.opened))
      (λ n. kept (λ s. books_of s.books n)))

-- ---- by the frame that brings it

module _ (v : Certified) (old new : Slab StayState) (s t : StoreState) (stopped : Bool) (checks : IsChecked v.program) (from to waiting : ℕ)
    (g : Graph) (here : to ≡ s.here) where
  abbrev back : Frame
  back = frames.Back from to waiting g

  pub takes_back : FitsFrame Wide s.places back → ComesBack v.program old s back from waiting new t
      → TakesFrame (place_of v old s stopped) back (place_of v new t stopped)
  takes_back fits h = (
    message,
    refl,
    λ far m stands named. subst (λ q. Admits far (place_of v old s stopped) m message q)
        (seen_so v old new s t stopped (ap (λ (u : StoreState). u.here) h.store) (ap (λ (u : StoreState). u.places) h.store))
        (admits_back far (place_of v old s stopped) m stands new t back from waiting (plain_back h) checks fits fits.body.0 named message tt
        (here, refl, comes far (place_of v old s stopped) m stands new t back from waiting (plain_back h) checks fits fits.body.0 named) (λ f. refl)),
  )
    where
      message : Message
      message = machine.Back from to waiting (snapshot_of g)
