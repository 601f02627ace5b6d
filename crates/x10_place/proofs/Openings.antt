-- Places at the beginning, and which keys are in use.
use Rattle.std.proofs.Common.{◌≡◌, ℕ, ◌+◌, ◌<◌, ◌≤◌, ◌^◌, ◌==◌, Bool, true, false, cond, List, [], ◌∷◌, length, map, Option, Some, None, refl, sym, ap, ap₂, subst, ◌∙◌, inl, inr, arith}
use Rattle.std.specs.Prelude.{◌&&◌, if◌then◌else◌, IsSome, slice_get, slice_index, slice_index_or}
use Rattle.std.proofs.lemmas.Bool.{ne_eqb, cases_eq}
use Rattle.std.proofs.lemmas.Option.{same_Some}
use Rattle.slab.specs.Slab.{Slab, get}
use Rattle.x10_kinds.specs.declared.kind.Kind.{Kind}
use Rattle.x10_model.specs.Modules.{Module, Function, FitsImage}
use Rattle.x10_model.specs.declared.slot.Slot.{Slot}
use Rattle.x10_model.specs.Values.{Value, Cells, IsOfKind}
use Rattle.x10_model.specs.Signatures.{FitSlots}
use Rattle.x10_model.specs.declared.finish.Finish.{Finish}
use Rattle.x10_model.specs.Places.{Stay, root}
use Rattle.x10_model.specs.Totals.{Totals, nothing, first_totals}
use Rattle.x10_model.specs.Maps.{with_entry}
use Rattle.x10_model.specs.Moves.{new_stay}
use Rattle.x10_model.specs.Worlds.{same_finish, first_place, empty_place}
use Rattle.x10_finish.proofs.Tallied.{none_tallied, begun_tallied}
use Rattle.x10_model.specs.Assignments.{State, IsBelow, parameter_kind, entry_state}
use Rattle.x10_model.proofs.Lists.{none_some}
use Rattle.x10_model.proofs.Maps.{at_key, off_key}
use Rattle.x10_verify.specs.Certified.{Certified}
use Rattle.x10_verify.proofs.Wholes.{function_fits}
use Rattle.x10_heap.specs.Heaps.{HeapState, empty}
use Rattle.x10_heap.specs.Words.{Context, HoldsHeap}
use Rattle.x10_place.specs.Stays.{StayState, StoreState, totals_in, books_in, AreCalling, open_in, IsPlaced}
use Rattle.x10_place.specs.StandsFor.{IsWithinPlaces, Far, PlaceState, place_of, plain, store_of, first_number, context_of, Assigned, HoldRegisters, line_as, StandsForStay, HoldsExports, StandsFor, IsStanding, setting_of, is_inside, inside_at, IsInsider}
use Rattle.x10_place.specs.Opening.{IsMain, HoldsOnly, opening_place, IsNewStore, Opens}
use Rattle.x10_place.proofs.Homes.{homes_weaken, homes_entry}
use Rattle.x10_place.proofs.Calls.{no_turns}
use Rattle.x10_place.proofs.BooksOfFinishes.{without, booked_first}
use Rattle.x10_place.proofs.StandingStays.{open_first, region_first}

-- ---- main

entry_words : (x : Context) (f : Function) (known : State) (registers : ℕ → Option Value) (words : List ℕ) → length f.parameters ≤ 0
    → IsBelow (entry_state f) known → HoldRegisters x known registers words
entry_words x f known registers words none below r kind e =
    let h = below.kinds r kind e in
    absurd (no_parameter f.parameters r h.0 none h.1)
  where
    no_parameter : (slots : List Slot) (r : ℕ) (k : Kind) → length slots ≤ 0 → parameter_kind (slice_get slots r) ≡ Some k → ⊥
    no_parameter [] r k le e = cc
    no_parameter (s ∷ ss) r k le e = omega arith

none_fit : (of_kind : Value → Kind → Type 0) (at : ℕ) (slots : List Slot) → length slots ≤ 0 → FitSlots of_kind at [] slots
none_fit of_kind at [] le = tt
none_fit of_kind at (slot ∷ slots) le = absurd (omega (arith, le))

main_placed : (program : Module) (a : StayState) → FitsImage program → IsMain program a → IsPlaced program a
main_placed program a fits main =
    let f = function_fits program a.top.function main.function fits main.is_function in
    record {
      top = record { function = main.function; is_function = main.is_function; pc = omega (arith, main.pc, f.length.0); registers = main.registers };
      callers = subst (λ fs. AreCalling program fs a.top.function) (sym main.callers) tt;
      finishes = ap length main.finishes ∙ sym (ap₂ (λ m n. m + n) (ap (open_in program) main.callers) (open_first program a.top main.pc));
      region = main.inside ∙ sym (region_first program a.top main.pc);
    }

-- main's words stand for main's stay
main_stands : (program : Module) (assigned : Assigned program) (x : Context) (cells : Cells) (a : StayState) → FitsImage program → IsMain program a
    → x.here ≡ 0 → 0 < x.places → StandsForStay program assigned x a (new_stay program.entry [] root None)
main_stands program assigned x cells a fits main first within =
    let start = (assigned a.top.function main.function main.is_function).1.consistent.entry in
    record {
      placed = main_placed program a fits main;
      top = record {
        function_is = sym main.function_is;
        pc_is = sym main.pc;
        function = main.function;
        is_function = main.is_function;
        state = start.0;
        is_state = subst (λ n. (assigned a.top.function main.function main.is_function).0 n ≡ Some start.0) (sym main.pc) start.1;
        words = entry_words x main.function start.0 (slice_get []) a.top.registers.items main.is_entry.parameters start.2;
        homes = homes_weaken x.here (entry_state main.function) start.0 (slice_get []) start.2
            (homes_entry cells x.here main.function [] (omega (arith, main.is_entry.parameters))
            (none_fit (IsOfKind cells) x.here main.function.parameters main.is_entry.parameters));
        slots = ap length main.loops;
        loops = λ slot lt. sym (ap (λ ls. slice_index ls slot) main.loops ∙ no_turns 8 slot);
      };
      callers = main.callers;
      finishes = sym main.finishes;
      inherited = sym main.inherited;
      away = sym main.away;
      inside = sym main.inside;
      back = sym main.back;
      run = record {
        inherited = subst (λ (f : Finish). (f.home < x.places) × (f.number < 2 ^ 32)) (sym main.inherited) (within, omega arith);
        back = λ origin e. absurd (let none = main.back in cc);
      };
    }

-- ---- places

-- an empty heap stands for no cells, and exports nothing
empty_heap : (x : Context) → x.heap ≡ empty → HoldsHeap x (λ r. None)
empty_heap x e = subst (λ h. HoldsHeap (record x { heap = h }) (λ r. None)) (sym e)
    (record { objects = λ n. refl; rails = λ n. refl; few_objects = omega arith; few_texts = omega arith; few_rails = omega arith })

empty_exports : (heap : HeapState) → heap ≡ empty → HoldsExports heap []
empty_exports heap e = subst (λ h. HoldsExports h []) (sym e) (record { exports_are = refl; named = λ id export is. absurd cc })

-- what a place at the beginning has
pub record IsFresh (p : PlaceState) : Type 0 where
  pub fits : FitsImage p.program
  pub assigned : Assigned p.program
  pub site : IsWithinPlaces p.program p.id p.places
  pub store : IsNewStore p.id p.places (store_of p)

-- main alone lives, under the root
main_lives : (id : ℕ) (f : Finish) (totals : Totals) → id ≡ 0 → totals ≡ first_totals id f → totals.live ≡ (if same_finish f root then 1 else 0)
main_lives id f totals z e = ap (λ (t : Totals). t.live) (e ∙ ap (λ n. first_totals n f) z) ∙ by (same_finish f root)
  where
    by : (b : Bool) → (let t : Totals = if b && true then record nothing { live = 1 } else nothing in t.live) ≡ (if b then 1 else 0)
    by true = refl
    by false = refl

-- and nothing elsewhere
nothing_lives : (id : ℕ) (f : Finish) (totals : Totals) → (id == 0) ≡ false → totals ≡ first_totals id f → totals.live ≡ 0
nothing_lives id f totals ne e = ap (λ (t : Totals). t.live) e ∙ by (same_finish f root) (id == 0) ne
  where
    by : (b c : Bool) → c ≡ false → (let t : Totals = if b && c then record nothing { live = 1 } else nothing in t.live) ≡ 0
    by true false g = refl
    by false false g = refl
    by b true g = absurd cc

module _ (far : Far) (p : PlaceState) where
  -- a place with main alone stands for the first place of the machine
  pub first_stands : (key : ℕ) (a : StayState) → key < 2 ^ 32 → p.id ≡ 0 → IsFresh p → IsMain p.program a → HoldsOnly p.stays key a
      → StandsFor far p (first_place (setting_of p) key)
  first_stands key a few zero_is fresh main only = record {
    assigned = fresh.assigned;
    keys = λ k le. only.others k (λ same. absurd (omega (arith, few, le, same)));
    none = λ k e. elim (cases_eq k key) [
      | inl same ↦ absurd (none_some (get p.stays k) a e (subst (λ q. get p.stays q ≡ Some a) (sym same) only.here))
      | inr ne ↦ off_key (λ (q : ℕ). None) key k (Some first) ne
    ];
    some = λ k b e. elim (cases_eq k key) [
      | inl same ↦ (
        first,
        subst (λ q. with_entry (λ (n : ℕ). None) key (Some first) q ≡ Some first) (sym same) (at_key (λ (n : ℕ). None) key (Some first)),
        subst (λ x. StandsForStay p.program fresh.assigned (context_of far p) x first)
            (same_Some a b (sym (subst (λ q. get p.stays q ≡ Some a) (sym same) only.here) ∙ e))
            (main_stands p.program fresh.assigned (context_of far p) (λ r. None) a fresh.fits main zero_is
            (let lt = fresh.site.within in omega (arith, lt))),
      )
      | inr ne ↦ absurd (none_some (get p.stays k) b (only.others k ne) e)
    ];
    site = fresh.site;
    heap = empty_heap (context_of far p) fresh.store.heap;
    exports = empty_exports p.heap fresh.store.heap;
    opened = sym (fresh.store.opened ∙ ap first_number zero_is);
    lines = sym (ap (λ ls. map line_as ls) fresh.store.lines);
    tallied = begun_tallied (λ k. None) root key first (λ f. nothing) (totals_in (store_of p)) (none_tallied (λ f. nothing) (λ f. refl)) refl refl
        (λ f. main_lives p.id f (totals_in (store_of p) f) zero_is (fresh.store.totals f));
    booked = without p.id p.opened (λ k. None) (books_in (store_of p))
        (booked_first p.id p.opened (books_in (store_of p)) fresh.store.opened fresh.store.unopened fresh.store.root) key (Some first)
        (λ s e. absurd cc) (λ t e. ap (λ (s : Stay). s.finishes) (sym (same_Some first t e)));
  }
    where
      first : Stay
      first = new_stay p.program.entry [] root None

  -- a place with no stay stands for an empty one
  pub empty_stands : (p.id == 0) ≡ false → IsFresh p → ((k : ℕ) → get p.stays k ≡ None) → StandsFor far p (empty_place 0)
  empty_stands ne fresh none = record {
    assigned = fresh.assigned;
    keys = λ k le. none k;
    none = λ k e. refl;
    some = λ k b e. absurd (none_some (get p.stays k) b (none k) e);
    site = fresh.site;
    heap = empty_heap (context_of far p) fresh.store.heap;
    exports = empty_exports p.heap fresh.store.heap;
    opened = sym (fresh.store.opened ∙ ap (λ b. cond b 1 0) ne);
    lines = sym (ap (λ ls. map line_as ls) fresh.store.lines);
    tallied = none_tallied (totals_in (store_of p)) (λ f. nothing_lives p.id f (totals_in (store_of p) f) ne (fresh.store.totals f));
    booked = booked_first p.id p.opened (books_in (store_of p)) fresh.store.opened fresh.store.unopened fresh.store.root;
  }

-- ---- a place as `new` makes it

not_zero : (n : ℕ) → (n ≡ 0 → ⊥) → (n == 0) ≡ false
not_zero n h = ne_eqb n 0 h

-- a place with a new store is fresh
pub fresh : (v : Certified) (slab : Slab StayState) (s : StoreState) (id places : ℕ) → FitsImage v.program → Assigned v.program
    → IsWithinPlaces v.program id places → IsNewStore id places s → IsFresh (place_of v slab s false)
fresh v slab s id places fits assigned site new = record {
  fits = fits;
  assigned = assigned;
  site = subst (λ n. IsWithinPlaces v.program n s.places) (sym new.here) (subst (λ n. IsWithinPlaces v.program id n) (sym new.places_is) site);
  store = subst (λ n. IsNewStore n s.places s) (sym new.here) (subst (λ n. IsNewStore id n s) (sym new.places_is) new);
}

pub opened_first : (p : PlaceState) (slab : Slab StayState) → IsFresh p → p.stays ≡ plain slab
    → (a : StayState) × IsMain p.program a × HoldsOnly slab 0 a → p.id ≡ 0 → Opens p
opened_first p slab fresh is main e far = subst (λ id. StandsFor far p (opening_place (setting_of p) 0 id)) (sym e)
    (first_stands far p 0 main.0 (omega arith) e fresh main.1 (subst (λ s. HoldsOnly s 0 main.0) (sym is)
    (record { here = main.2.here; others = main.2.others })))

pub opened_empty : (p : PlaceState) (slab : Slab StayState) → IsFresh p → p.stays ≡ plain slab → slab.slots ≡ [] → (p.id ≡ 0 → ⊥) → Opens p
opened_empty p slab fresh is slots ne far = subst (λ b. StandsFor far p (cond b (first_place (setting_of p) 0) (empty_place 0)))
    (sym (not_zero p.id ne))
    (empty_stands far p (not_zero p.id ne) fresh (subst (λ s. (k : ℕ) → get s k ≡ None) (sym is)
    (λ k. ap (λ xs. slice_index_or xs k None) slots)))

pub opens_standing : (p : PlaceState) → Opens p → IsStanding p
opens_standing p opens = (opening_place (setting_of p) 0 p.id, opens (λ home id class. true))

pub is_some_is : {X : Type 0} (o : Option X) → IsSome o → (x : X) × (o ≡ Some x)
is_some_is (Some x) h = (x, refl)
is_some_is None h = absurd cc

-- ---- nobody is inside an atomic region

pub main_outside : (program : Module) (slab : Slab StayState) → (a : StayState) × IsMain program a × HoldsOnly slab 0 a → IsInsider slab None
main_outside program slab main k = elim (cases_eq k 0) [
  | inl same ↦ ap (inside_at slab) same ∙ ap is_inside main.2.here ∙ main.1.inside
  | inr apart ↦ ap is_inside (main.2.others k apart)
]

pub nobody_outside : (slab : Slab StayState) → slab.slots ≡ [] → IsInsider slab None
nobody_outside slab slots k = ap is_inside (ap (λ xs. slice_index_or xs k None) slots)
