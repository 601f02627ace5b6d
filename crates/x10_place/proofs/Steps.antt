-- A step of a place is a move of each place of the machine that it stands for.
use Rattle.std.proofs.Common.{◌≡◌, ℕ, ◌≤◌, ◌^◌, false, Option, Some, None, refl, sym, ap, ap₂, subst, ◌∙◌, inl, inr, arith}
use Rattle.std.specs.Prelude.{map, slice_get}
use Rattle.std.proofs.lemmas.Bool.{cases_eq}
use Rattle.slab.specs.Slab.{Slab, get, Updates}
use Rattle.x10_code.specs.declared.op.Op.TheVariants as op
use Rattle.x10_code.specs.declared.instr.Instr.{Instr}
use Rattle.x10_model.specs.Maps.{with_entry}
use Rattle.x10_model.specs.Modules.{Module}
use Rattle.x10_model.specs.Ranges.{function_at}
use Rattle.x10_model.specs.Places as machine
use Rattle.x10_model.specs.Places.{Setting, Stay, IsFree, innermost, innermost_of, Effect, Waits, Begins, with_stay, next}
use Rattle.x10_model.specs.Moves.{Does, Moves}
use Rattle.x10_model.specs.Assignments.{Permits}
use Rattle.x10_model.proofs.Rules.{leads}
use Rattle.x10_model.proofs.Lists.{none_some}
use Rattle.x10_model.proofs.Maps.{at_key, off_key}
use Rattle.x10_finish.proofs.Stays.{stays_change}
use Rattle.x10_finish.proofs.Tallied.{moved_tallied}
use Rattle.x10_heap.specs.Words.{Context, HoldsHeap}
use Rattle.x10_heap.proofs.GrownHeaps.{Grows}
use Rattle.x10_place.specs.declared.place.Stepped.TheVariants as stepped
use Rattle.x10_place.specs.declared.route.Route.{Route}
use Rattle.x10_place.specs.declared.route.Route.TheVariants as route
use Rattle.x10_place.specs.declared.outcome.Outcome.TheVariants as outcome
use Rattle.x10_place.specs.Frames.{IsFetchedFor}
use Rattle.x10_place.specs.Routes.{route_of}
use Rattle.x10_place.specs.Stays.{StayState, StoreState, totals_in, innermost_at, WaitsAtFinish, Steps}
use Rattle.x10_place.specs.StandsFor.{Far, context, context_of, PlaceState, AreOutside, store_of, with_stays, line_as, Assigned, StandsForStay, StandForCallers, IsOfRun, HoldsExports, StandsFor, setting_of, location_of, IsCountedBy, Leads, LeadsAll}
use Rattle.x10_place.specs.Messages.{no_sent}
use Rattle.x10_place.specs.Stretches.{BeginsAt}
use Rattle.x10_place.proofs.Framed.{point_of, is_instr, in_range, rule}
use Rattle.x10_place.proofs.GrownFrames.{stay_kept}
use Rattle.x10_place.proofs.FrameMoves.{situated}
use Rattle.x10_place.proofs.Calls.{begin_moves}
use Rattle.x10_place.proofs.Ends.{next_stands}
use Rattle.x10_place.proofs.GoingOn.{stay_goes}
use Rattle.x10_place.proofs.StandingFrames.{IsChecked}
use Rattle.x10_place.proofs.RoutesOfOne.{is_close_finish}
use Rattle.x10_place.proofs.StandingStays.{next_placed, begun_placed}
use Rattle.x10_place.proofs.BooksOfFinishes.{moved_booked}
use Rattle.x10_place.proofs.Texts.{goes_added, adds, adds_none}
use Rattle.x10_place.proofs.CountsOfMoves.{KeepsBooks, closed_none, counted_in, waits_count, begins_count, puts_nothing, silent_begins}
use Rattle.x10_place.proofs.Insides.{free_of}

-- ---- the whole place

-- a stay of the program, or none, stands for what the machine has under the same key
abbrev pub Keyed : (program : Module) → Assigned program → Context → Option StayState → Option Stay → Type 0
Keyed program assigned x None o = o ≡ None
Keyed program assigned x (Some a) o = (s : Stay) × (o ≡ Some s) × StandsForStay program assigned x a s

keyed_none : (program : Module) (assigned : Assigned program) (x : Context) (o : Option StayState) (s : Option Stay) → Keyed program assigned x o s
    → o ≡ None → s ≡ None
keyed_none program assigned x o s h e = subst (λ q. Keyed program assigned x q s) e h

keyed_some : (program : Module) (assigned : Assigned program) (x : Context) (o : Option StayState) (s : Option Stay) (a : StayState)
    → Keyed program assigned x o s → o ≡ Some a → (t : Stay) × (s ≡ Some t) × StandsForStay program assigned x a t
keyed_some program assigned x o s a h e = subst (λ q. Keyed program assigned x q s) e h

keyed_kept : (x y : Context) (grows : Grows x y) (program : Module) (assigned : Assigned program) (o : Option StayState) (s : Option Stay)
    → Keyed program assigned x o s → Keyed program assigned y o s
keyed_kept x y grows program assigned None s h = h
keyed_kept x y grows program assigned (Some a) s h = (h.0, h.1, stay_kept x y grows program assigned a h.0 h.2)

module _ (far : Far) (p : PlaceState) (m : machine.Place) (h : StandsFor far p m) where
  -- what the machine has under each key
  keyed_of : (k : ℕ) (o : Option StayState) → get p.stays k ≡ o → Keyed p.program h.assigned (context_of far p) o (m.stays k)
  keyed_of k None e = h.none k e
  keyed_of k (Some a) e = h.some k a e

  pub keyed : (k : ℕ) → Keyed p.program h.assigned (context_of far p) (get p.stays k) (m.stays k)
  keyed k = keyed_of k (get p.stays k) refl

  module _ (slab : Slab StayState) (t : StoreState) where
    abbrev after : Context
    after = context (setting_of p) p.id t.heap far

    -- a place whose stays stand key by key, after a move with an effect
    pub rebuilt : (key : ℕ) (new : machine.Place) (effect : Effect) → Moves (setting_of p) p.id m key new effect
        → ((k : ℕ) → 2 ^ 32 ≤ k → get slab k ≡ None) → ((k : ℕ) → Keyed p.program h.assigned after (get slab k) (new.stays k))
        → HoldsHeap after new.cells → HoldsExports t.heap new.exports
        → new.opened ≡ t.opened → new.lines ≡ map line_as t.lines → IsCountedBy (store_of p) effect t → KeepsBooks effect (store_of p) t
        → StandsFor far (with_stays p slab t) new
    rebuilt key new effect moves keys at holds exports opened lines counted books =
        let changes = stays_change (setting_of p) p.id key m new effect moves in
        record {
          assigned = h.assigned;
          keys = keys;
          none = λ k e. keyed_none p.program h.assigned after (get slab k) (new.stays k) (at k) e;
          some = λ k a e. keyed_some p.program h.assigned after (get slab k) (new.stays k) a (at k) e;
          site = h.site;
          heap = holds;
          exports = exports;
          opened = opened;
          lines = lines;
          tallied = moved_tallied p.id key m new effect (totals_in (store_of p)) (totals_in t) h.tallied changes counted.totals
              (closed_none (store_of p) t effect counted);
          booked = moved_booked p.id key m new effect (store_of p) t h.booked changes books;
        }

    -- no key is too large after one of the stays changed
    pub keys_one : (key : ℕ) (a : StayState) (o : Option StayState) → get p.stays key ≡ Some a → Updates p.stays slab key o → (k : ℕ) → 2 ^ 32 ≤ k
        → get slab k ≡ None
    keys_one key a o is up k le = up.others k (λ same. absurd (none_some (get p.stays k) a (h.keys k le)
        (subst (λ n. get p.stays n ≡ Some a) (sym same) is))) ∙ h.keys k le

    -- the stays under the keys after one of them changed
    pub keyed_one : (key : ℕ) (a : Option StayState) (s : Option Stay) (stays : ℕ → Option Stay) → stays ≡ m.stays → Grows (context_of far p) after
        → Updates p.stays slab key a → Keyed p.program h.assigned after a s → (k : ℕ)
        → Keyed p.program h.assigned after (get slab k) (with_entry stays key s k)
    keyed_one key a s stays same grows up one k = elim (cases_eq k key) [
      | inl e ↦ subst (λ q. Keyed p.program h.assigned after (get slab q) (with_entry stays key s q)) (sym e)
          (subst (λ o. Keyed p.program h.assigned after o (with_entry stays key s key)) (sym up.changed)
          (subst (λ o. Keyed p.program h.assigned after a o) (sym (at_key stays key s)) one))
      | inr ne ↦ subst (λ o. Keyed p.program h.assigned after o (with_entry stays key s k)) (sym (up.others k ne))
          (subst (λ o. Keyed p.program h.assigned after (get p.stays k) o) (sym (off_key stays key k s ne ∙ ap (λ (f : ℕ → Option Stay). f k) same))
          (keyed_kept (context_of far p) after grows p.program h.assigned (get p.stays k) (m.stays k) (keyed k)))
    ]

-- ---- moves

pub moves : (setting : Setting) (here : ℕ) (far : Far) (m : machine.Place) (key : ℕ) (assigned : Assigned setting.program) (st : StoreState)
    (a : StayState) (s : Stay) (h : StandsForStay setting.program assigned (context setting here st.heap far) a s) (i : Instr)
    (fetched : IsFetchedFor setting.program a.top i) (new : machine.Place) (effect : Effect)
    → a.away ≡ false → IsFree m.stays key → m.stays key ≡ Some s → Does i.op (situated setting here m key s h.top.function i) new effect
    → Moves setting here m key new effect
moves setting here far m key assigned st a s h i fetched new effect ready free there does = record {
  stay = s;
  function = h.top.function;
  instr = i;
  is_there = there;
  is_ready = h.away ∙ ready;
  is_free = free;
  function_is = ap (λ n. function_at setting.program n) h.top.function_is ∙ h.top.is_function;
  instr_is = ap (λ pc. slice_get h.top.function.code pc) h.top.pc_is
      ∙ is_instr setting.program assigned (context setting here st.heap far) a.top s.top h.top i fetched;
  in_range = in_range setting.program assigned (context setting here st.heap far) a.top s.top h.top i fetched;
  does = does;
}

module _ (far : Far) (p : PlaceState) (m : machine.Place) (stands : StandsFor far p m) (key : ℕ) (a : StayState) (s : Stay)
    (is : m.stays key ≡ Some s) (h : StandsForStay p.program stands.assigned (context_of far p) a s) (i : Instr)
    (fetched : IsFetchedFor p.program a.top i) (checks : IsChecked p.program) (ready : a.away ≡ false) (outside : AreOutside p.stays key)
    (found : get p.stays key ≡ Some a) where
  -- the stay goes on
  leads_on : (slab : Slab StayState) (b : StayState) (t : StoreState) → Steps (route_of i.op) (location_of p) a (store_of p) i outcome.Goes b t
      → Updates p.stays slab key (Some b) → Leads far p m key (stepped.Moved no_sent) (with_stays p slab t)
  leads_on slab b t steps up =
      let to = stay_goes (setting_of p) p.id far m key s stands.assigned
      (store_of p) stands.heap stands.exports stands.site stands.opened refl a h i fetched checks b t steps in
      let new = with_stay to.base key (Some to.stay) in
      let moved = moves (setting_of p) p.id far m key stands.assigned (store_of p) a s h i fetched new to.effect ready
      (free_of far p m key stands outside) is to.does in
      let counted = to.counted stands.booked.unopened in
      record {
        effect = to.effect;
        new = new;
        moves = moved;
        stands = rebuilt far p m stands slab t key new to.effect moved (keys_one far p m stands slab t key a (Some b) found up)
            (keyed_one far p m stands slab t key (Some b) (Some to.stay) to.base.stays to.stays to.grows up (to.stay, refl, to.stands)) to.holds
            to.now_exported to.opened (to.lines stands.lines) counted to.booked;
        counted = counted_in (store_of p) t to.effect counted;
        answers = (to.works, puts_nothing p.program (context_of far p) (store_of p) to.effect to.silent);
        vacant = λ k f u e. absurd (to.begins_none k f u e);
        texts = (let made = goes_added (location_of p) a (store_of p) i b t i.op steps in
            adds p key a i found fetched (with_stays p slab t) made.0 made.1 made.2);
      }

  -- the stay waits at the end of a finish
  leads_waiting : (b : StayState) (t : StoreState) → route_of i.op ≡ route.CloseFinish → WaitsAtFinish a (store_of p) b t
      → Leads far p m key stepped.Idle p
  leads_waiting b t e waits = record {
    effect = Waits waits.number;
    new = m;
    moves = moves (setting_of p) p.id far m key stands.assigned (store_of p) a s h i fetched m (Waits waits.number) ready
        (free_of far p m key stands outside) is
        (subst (λ q. Does q (situated (setting_of p) p.id m key s h.top.function i) m (Waits waits.number)) (sym (is_close_finish i.op e))
        (waits.number, waits.outer, h.finishes ∙ waits.innermost, inl (refl, refl)));
    stands = stands;
    counted = waits_count (store_of p) waits.number;
    answers = (waits.number, refl);
    vacant = λ k f u e. absurd cc;
    texts = (let fine = is_close_finish i.op e in adds_none p key a i found fetched p (λ q. absurd cc) (λ q. absurd cc) refl);
  }

-- an activity begins
module _ (far : Far) (p : PlaceState) (m : machine.Place) (stands : StandsFor far p m) (key : ℕ) (slab : Slab StayState) (t : StoreState)
    (checks : IsChecked p.program) (begins : BeginsAt p.program p.stays (store_of p) key slab t) (ready : begins.stay.away ≡ false)
    (outside : AreOutside p.stays key) where
  abbrev later : Context
  later = context (setting_of p) p.id t.heap far

  pub leads_begin : Leads far p m key (stepped.Moved no_sent) (with_stays p slab t)
  leads_begin =
      let a : StayState = begins.stay in
      let b : StayState = begins.next in
      let i : Instr = begins.instr in
      let found = stands.some key a begins.is_there in
      let s : Stay = found.0 in
      let h : StandsForStay p.program stands.assigned (context_of far p) a s = found.2 in
      let r = begins.store in
      let at = rule p.program stands.assigned (context_of far p) a.top s.top h.top i begins.fetched in
      let permits = subst (λ q. Permits q (point_of p.program h.top.function a.top i) h.top.state at.0) begins.is_async at.1 in
      let child = begin_moves (setting_of p) p.id far m key s stands.assigned p.heap stands.heap a h i begins.fetched begins.other begins.child at.0
      checks.fits (begun_placed p.program a.top.registers.items i (innermost_at p.id a) begins.child checks.fits begins.begun) begins.is_async
      permits stands.site.within begins.number begins.begun in
      let to : Stay = record s { top = next s.top } in
      let new = with_stay (with_stay m key (Some to)) begins.other (Some child.child) in
      let free : m.stays begins.other ≡ None = stands.none begins.other begins.free in
      let effect : Effect = Begins begins.other i.x (innermost p.id s) in
      let under : innermost p.id s ≡ innermost_at p.id a = ap₂ (λ f ns. innermost_of p.id f ns) h.inherited h.finishes in
      let moved = moves (setting_of p) p.id far m key stands.assigned (store_of p) a s h i begins.fetched new effect ready
      (free_of far p m key stands outside) found.1
      (subst (λ q. Does q (situated (setting_of p) p.id m key s h.top.function i) new effect) (sym begins.is_async) (child.does free)) in
      let counted = subst (λ f. IsCountedBy (store_of p) (Begins begins.other i.x f) t) (sym under)
      (begins_count (store_of p) t begins.other i.x (innermost_at p.id a) r) in
      let stay : StandsForStay p.program stands.assigned (context_of far p) b to = record {
        placed = next_placed p.program checks a b i route.Async h.placed begins.fetched (ap route_of begins.is_async) tt
            (λ e. absurd (let f = sym begins.is_async ∙ e in cc)) begins.goes begins.rest;
        top = next_stands (setting_of p) p.id far m key s stands.assigned p.heap stands.heap stands.site.few a h i begins.fetched b at.0
            (leads op.Async (point_of p.program h.top.function a.top i) h.top.state at.0 permits permits.1.settles.3) at.2 begins.goes;
        callers = subst (λ fs. StandForCallers p.program stands.assigned (context_of far p) fs s.callers)
            (sym (ap (λ (q : StayState). q.callers) begins.rest)) h.callers;
        finishes = h.finishes ∙ ap (λ (q : StayState). q.finishes) (sym begins.rest);
        inherited = h.inherited ∙ ap (λ (q : StayState). q.inherited) (sym begins.rest);
        away = h.away ∙ ap (λ (q : StayState). q.away) (sym begins.rest);
        inside = h.inside ∙ ap (λ (q : StayState). q.inside) (sym begins.rest);
        back = h.back ∙ ap (λ (q : StayState). q.back) (sym begins.rest);
        run = subst (λ (q : StayState). IsOfRun p.places q) (sym begins.rest) (record { inherited = h.run.inherited; back = h.run.back });
      } in
      record {
        effect = effect;
        new = new;
        moves = moved;
        stands = rebuilt far p m stands slab t key new effect moved keys_two
            (λ k. keyed_two s to child.child (to, refl, stay_on b to stay) (child.child, refl, stay_on begins.child child.child child.stands) k)
            (subst (λ n. HoldsHeap (context (setting_of p) p.id n far) m.cells) (sym r.heap) stands.heap)
            (subst (λ n. HoldsExports n m.exports) (sym r.heap) stands.exports)
            (stands.opened ∙ sym r.opened_is) (stands.lines ∙ sym (ap (λ ls. map line_as ls) r.lines)) counted (r.opened_is, r.books_are);
        counted = counted_in (store_of p) t effect counted;
        answers = (
          (λ n f. absurd cc),
          puts_nothing p.program (context_of far p) (store_of p) effect
              (silent_begins begins.other i.x (innermost p.id s)),
        );
        vacant = λ k f u e. (let same : begins.other ≡ k = cc in sym same ∙ begins.vacant);
        texts = (let async = begins.is_async in adds_none p key a i begins.is_there begins.fetched (with_stays p slab t) (λ q. absurd cc)
            (λ q. absurd cc) r.heap);
      }
    where
      -- the heap is as it was
      stay_on : (c : StayState) (u : Stay) → StandsForStay p.program stands.assigned (context_of far p) c u
          → StandsForStay p.program stands.assigned later c u
      stay_on c u = subst (λ n. StandsForStay p.program stands.assigned (context (setting_of p) p.id n far) c u) (sym begins.store.heap)

      keyed_on : (o : Option StayState) (u : Option Stay) → Keyed p.program stands.assigned (context_of far p) o u
          → Keyed p.program stands.assigned later o u
      keyed_on o u = subst (λ n. Keyed p.program stands.assigned (context (setting_of p) p.id n far) o u) (sym begins.store.heap)

      keys_two : (k : ℕ) → 2 ^ 32 ≤ k → get slab k ≡ None
      keys_two k le =
          begins.others k (λ same. absurd (none_some (get p.stays k) begins.stay (stands.keys k le)
          (subst (λ n. get p.stays n ≡ Some begins.stay) (sym same) begins.is_there)))
          (let few = begins.few in λ same. absurd (omega (arith, few, le, same)))
          ∙ stands.keys k le

      keyed_two : (s to child : Stay) → Keyed p.program stands.assigned later (Some begins.next) (Some to)
          → Keyed p.program stands.assigned later (Some begins.child) (Some child) → (k : ℕ)
          → Keyed p.program stands.assigned later (get slab k) (with_entry (with_entry m.stays key (Some to)) begins.other (Some child) k)
      keyed_two s to child first second k = elim (cases_eq k begins.other) [
        | inl e ↦ subst (λ q. Keyed p.program stands.assigned later (get slab q)
            (with_entry (with_entry m.stays key (Some to)) begins.other (Some child) q)) (sym e)
            (subst (λ o. Keyed p.program stands.assigned later o (with_entry (with_entry m.stays key (Some to)) begins.other
            (Some child) begins.other)) (sym begins.now_child)
            (subst (λ o. Keyed p.program stands.assigned later (Some begins.child) o)
            (sym (at_key (with_entry m.stays key (Some to)) begins.other (Some child))) second))
        | inr ne ↦ subst (λ o. Keyed p.program stands.assigned later (get slab k) o)
            (sym (off_key (with_entry m.stays key (Some to)) begins.other k (Some child) ne)) (elim (cases_eq k key) [
              | inl e ↦ subst (λ q. Keyed p.program stands.assigned later (get slab q) (with_entry m.stays key (Some to) q)) (sym e)
                  (subst (λ o. Keyed p.program stands.assigned later o (with_entry m.stays key (Some to) key)) (sym begins.now_next)
                  (subst (λ o. Keyed p.program stands.assigned later (Some begins.next) o) (sym (at_key m.stays key (Some to))) first))
              | inr off ↦ subst (λ o. Keyed p.program stands.assigned later o (with_entry m.stays key (Some to) k)) (sym (begins.others k off ne))
                  (subst (λ o. Keyed p.program stands.assigned later (get p.stays k) o) (sym (off_key m.stays key k (Some to) off))
                  (keyed_on (get p.stays k) (m.stays k) (keyed far p m stands k)))
            ])
      ]

-- ---- a step of the stay under a key

module _ (p : PlaceState) (key : ℕ) (a : StayState) (i : Instr) (e : get p.stays key ≡ Some a) (checks : IsChecked p.program) (ready : a.away ≡ false)
    (outside : AreOutside p.stays key) (fetched : IsFetchedFor p.program a.top i) where
  pub step_leads : (slab : Slab StayState) (t : StoreState) (b : StayState) → Steps (route_of i.op) (location_of p) a (store_of p) i outcome.Goes b t
      → Updates p.stays slab key (Some b) → LeadsAll p key (stepped.Moved no_sent) (with_stays p slab t)
  step_leads slab t b steps up far m stands = let found = stands.some key a e in
      leads_on far p m stands key a found.0 found.1 found.2 i fetched checks ready outside e slab b t steps up

  -- only a FINE waits
  pub waits_by : (r : Route) (t : StoreState) (b : StayState) → Steps r (location_of p) a (store_of p) i outcome.Waits b t
      → (r ≡ route.CloseFinish) × WaitsAtFinish a (store_of p) b t
  waits_by route.CloseFinish t b steps = (refl, steps)
  waits_by (route.Local l) t b steps = absurd (let f = steps.0 in cc)
  waits_by (route.Make k) t b steps = absurd (let f = steps.0 in cc)
  waits_by (route.Site k) t b steps = absurd (let f = steps.0 in cc)
  waits_by route.Export t b steps = absurd (let f = steps.0 in cc)
  waits_by route.Call t b steps = absurd (let f = steps.0 in cc)
  waits_by route.Print t b steps = absurd (let f = steps.0 in cc)
  waits_by (route.Region inside) t b steps = absurd (let f = steps.0 in cc)
  waits_by route.OpenFinish t b steps = absurd (let f = steps.0 in cc)
  waits_by route.Return t b steps = absurd steps
  waits_by route.Async t b steps = absurd (let f = steps.0 in cc)
  waits_by route.At t b steps = absurd (let f = steps.0 in cc)
  waits_by route.Ata t b steps = absurd (let f = steps.0 in cc)

  pub wait_leads : (t : StoreState) (b : StayState) → Steps (route_of i.op) (location_of p) a (store_of p) i outcome.Waits b t
      → LeadsAll p key stepped.Idle p
  wait_leads t b steps far m stands =
      let found = stands.some key a e in
      let by = waits_by (route_of i.op) t b steps in
      leads_waiting far p m stands key a found.0 found.1 found.2 i fetched checks ready outside e b t by.0 by.1

pub begin_leads : (p : PlaceState) (key : ℕ) (slab : Slab StayState) (t : StoreState) → IsChecked p.program
    → (begins : BeginsAt p.program p.stays (store_of p) key slab t) → begins.stay.away ≡ false → AreOutside p.stays key
    → LeadsAll p key (stepped.Moved no_sent) (with_stays p slab t)
begin_leads p key slab t checks begins ready outside far m stands = leads_begin far p m stands key slab t checks begins ready outside
