-- Each stay stands where it can go on, with as many finishes open as its call frames stand in: what keeps that.
use Rattle.std.proofs.Common.{◌≡◌, ◌≢◌, ℕ, ◌+◌, ◌<◌, ◌≤◌, Bool, true, false, List, [], ◌∷◌, ◌++◌, length, Option, Some, None, refl, sym, ap, ap₂, subst, ◌∙◌, arith}
use Rattle.x10_code.specs.declared.op.Op.TheVariants as op
use Rattle.x10_code.specs.declared.instr.Instr.{Instr}
use Rattle.x10_model.specs.Modules.{Module, FitsImage}
use Rattle.x10_model.specs.declared.finish.Finish.{Finish}
use Rattle.x10_model.specs.declared.slot.Slot.{Slot}
use Rattle.x10_model.specs.Ranges.{function_at, instr_at, instr_in, result_of}
use Rattle.x10_model.specs.Structure.{is_kept_out, is_target}
use Rattle.x10_code.specs.Table.{form_of}
use Rattle.x10_image.specs.Parts.{code_at}
use Rattle.x10_bounds.specs.AtomicRegions.{is_inside}
use Rattle.x10_bounds.specs.OpenFinishes.{finishes_around}
use Rattle.x10_verify.proofs.Wholes.{function_fits}
use Rattle.x10_place.specs.declared.call_frame.CallFrame.{CallFrame}
use Rattle.x10_place.specs.declared.route.Route.{Route}
use Rattle.x10_place.specs.declared.route.Route.TheVariants as route
use Rattle.x10_place.specs.Frames.{Workspace, space_of, IsWithin, IsInside, IsFetchedFor, Acts, ActsAt}
use Rattle.x10_place.specs.Making.{Makes, ExportsObject}
use Rattle.x10_place.specs.Routes.{route_of}
use Rattle.x10_place.specs.declared.outcome.Outcome.TheVariants as outcome
use Rattle.x10_place.specs.Stays.{StayState, StoreState, Location, AreCalling, open_at, open_in, in_region, IsPlaced, GoesNext, GoesOn, Calls, Resumes, Prints, ChangesTop, GoesOnInside, OpensFinish, ClosesFinish, IsBegun, Steps}
use Rattle.x10_place.proofs.Chains.{chain_last, chain_more}
use Rattle.x10_place.proofs.FetchedInstructions.{within_again, local_lands, make_lands, site_lands, export_lands}
use Rattle.x10_place.proofs.ReturnLemmas.{goes_on}
use Rattle.x10_place.proofs.RoutesOfOne.{is_call, is_return, is_print, is_open_finish, is_close_finish, is_enter, is_leave, stays_in, not_finb, not_fine, not_atomb, not_atome}
pub use Rattle.x10_place.proofs.StandingFrames.{IsChecked}
use Rattle.x10_place.proofs.StandingFrames.{inside_next, inside_with, fetched_inside, open_by, open_onward, open_opens, open_closes, open_some, open_none, region_by, region_onward, region_entered, region_left, region_ends, region_none, StaysOpen, next_stays, jump_stays}

-- ---- stays

-- a stay whose top call frame executes the same function in as many finishes and in the same atomic region, with the same
-- callers and finishes
same_function : (program : Module) (a b : StayState) → IsPlaced program a → IsInside program b.top → b.top.function ≡ a.top.function
    → open_at program b.top ≡ open_at program a.top → in_region program b.top ≡ in_region program a.top → b.callers ≡ a.callers
    → b.finishes ≡ a.finishes → b.inside ≡ a.inside → IsPlaced program b
same_function program a b placed inside same stood region callers finishes kept = record {
  top = inside;
  callers = subst (λ fs. AreCalling program fs b.top.function) (sym callers) (subst (λ n. AreCalling program a.callers n) (sym same) placed.callers);
  finishes = ap length finishes ∙ placed.finishes ∙ ap₂ (λ m n. m + n) (ap (open_in program) (sym callers)) (sym stood);
  region = kept ∙ placed.region ∙ sym region;
}

-- the top call frame and the heap alone changed, and it landed where as many finishes are open
top_placed : (change : Workspace → Workspace → Type 0) (program : Module) (checks : IsChecked program) (a b : StayState) (s t : StoreState)
    (i : Instr) (fetched : IsFetchedFor program a.top i) → IsPlaced program a → ChangesTop change a s b t
    → StaysOpen program checks a.top i fetched b.top.pc × (length b.top.registers.items ≡ length a.top.registers.items) → IsPlaced program b
top_placed change program checks a b s t i fetched placed h lands =
    same_function program a b placed (subst (λ n. IsWithin program n b.top.pc (length b.top.registers.items)) (sym h.function_is)
    (within_again program a.top.function (space_of a.top s.heap) (space_of b.top t.heap) i fetched (lands.0.0, lands.1))) h.function_is
    (open_by program checks a.top i fetched b.top h.function_is ∙ lands.0.1 ∙ sym (open_by program checks a.top i fetched a.top refl))
    (region_by program checks a.top i fetched b.top h.function_is ∙ lands.0.2 ∙ sym (region_by program checks a.top i fetched a.top refl))
    (ap (λ (x : StayState). x.callers) h.rest) (ap (λ (x : StayState). x.finishes) h.rest) (ap (λ (x : StayState). x.inside) h.rest)

print_placed : (program : Module) (checks : IsChecked program) (a b : StayState) (s t : StoreState) (i : Instr) → IsPlaced program a
    → IsFetchedFor program a.top i → i.op ≡ op.Print → Prints program a s i b t → IsPlaced program b
print_placed program checks a b s t i placed fetched is h =
    let next = fetched.next (λ e. absurd (let f = sym is ∙ e in cc)) in
    same_function program a b placed (inside_next program a.top b.top (fetched_inside program a.top i fetched (omega (arith, next))) next h.top)
    h.top.function_is
    (open_onward program checks a.top i fetched b.top h.top.function_is h.top.pc_is (λ e. absurd (let f = sym is ∙ e in cc))
    (λ e. absurd (let f = sym is ∙ e in cc)))
    (region_onward program checks a.top i fetched b.top h.top.function_is h.top.pc_is (λ e. absurd (let f = sym is ∙ e in cc))
    (λ e. absurd (let f = sym is ∙ e in cc)))
    (ap (λ (x : StayState). x.callers) h.rest) (ap (λ (x : StayState). x.finishes) h.rest) (ap (λ (x : StayState). x.inside) h.rest)

open_more : (program : Module) (fs : List CallFrame) (f : CallFrame) → open_in program (fs ++ f ∷ []) ≡ open_in program fs + open_at program f
open_more program [] f = omega arith
open_more program (g ∷ fs) f = let e = open_more program fs f in omega (arith, e)

-- a call frame at the first instruction of its function stands in no finish
pub open_first : (program : Module) (f : CallFrame) → f.pc ≡ 0 → open_at program f ≡ 0
open_first program f e = ap (finishes_around (code_at program f.function)) e

-- and in no atomic region
pub region_first : (program : Module) (f : CallFrame) → f.pc ≡ 0 → in_region program f ≡ false
region_first program f e = ap (is_inside (code_at program f.function)) e

-- a stay whose instruction stands in no atomic region is inside none
pub outside_at : (program : Module) (checks : IsChecked program) (a : StayState) (i : Instr) → IsPlaced program a → IsFetchedFor program a.top i
    → is_kept_out i.op ≡ true → a.inside ≡ false
outside_at program checks a i placed fetched is = placed.region ∙ region_none program checks a.top i fetched is

pub outside_ends : (program : Module) (checks : IsChecked program) (a : StayState) (i : Instr) → IsPlaced program a → IsFetchedFor program a.top i
    → i.op ≡ op.Ret → a.inside ≡ false
outside_ends program checks a i placed fetched is = placed.region ∙ region_ends program checks a.top i fetched is

-- the callee stands at its first instruction, and its caller at the call
called_placed : (program : Module) (checks : IsChecked program) (a b : StayState) (i : Instr) → IsPlaced program a → IsFetchedFor program a.top i
    → i.op ≡ op.Call → Calls program a i b → IsPlaced program b
called_placed program checks a b i placed fetched o h =
    let e = h.entered in
    let is : function_at program b.top.function ≡ Some e.callee = ap (λ n. function_at program n) e.function_is ∙ e.is_callee in
    let long = (function_fits program b.top.function e.callee checks.fits is).length.0 in
    let callers : b.callers ≡ a.callers ++ a.top ∷ [] = ap (λ (x : StayState). x.callers) h.rest in
    let opened = ap (open_in program) callers ∙ open_more program a.callers a.top in
    record {
      top = record { function = e.callee; is_function = is; pc = omega (arith, e.pc_is, long); registers = e.registers };
      callers = subst (λ fs. AreCalling program fs b.top.function) (sym callers) (chain_more program a.callers a.top b.top.function placed.callers
          (record { inside = placed.top; call = i; call_is = at; op_is = o; callee_is = sym e.function_is }));
      finishes = ap length (ap (λ (x : StayState). x.finishes) h.rest) ∙ placed.finishes
          ∙ (let none = open_first program b.top e.pc_is in omega (arith, opened, none));
      region = ap (λ (x : StayState). x.inside) h.rest ∙ outside_at program checks a i placed fetched (ap is_kept_out o)
          ∙ sym (region_first program b.top e.pc_is);
    }
  where
    at : instr_at program a.top.function a.top.pc ≡ Some i
    at = subst (λ o. instr_in o a.top.pc ≡ Some i) (sym fetched.is_function) fetched.is_instr

-- ---- the end of a call

-- the caller stands after its call
record IsResumed (program : Module) (caller f : CallFrame) : Type 0 where
  inside : IsInside program f
  function_is : f.function ≡ caller.function
  pc_is : f.pc ≡ caller.pc + 1

resumed_inside : (o : Option Slot) (program : Module) (caller f top : CallFrame) (call i : Instr) (fetched : IsFetchedFor program caller call)
    → caller.pc + 1 < length fetched.function.code → GoesOn o caller call top i f → IsResumed program caller f
resumed_inside None program caller f top call i fetched next h =
    record {
      inside = inside_next program caller f (fetched_inside program caller call fetched (omega (arith, next))) next h;
      function_is = h.function_is;
      pc_is = h.pc_is;
    }
resumed_inside (Some slot) program caller f top call i fetched next h =
    record {
      inside = inside_with program caller f _ _ (fetched_inside program caller call fetched (omega (arith, next))) next h;
      function_is = h.function_is;
      pc_is = h.pc_is;
    }

resumed_placed : (program : Module) (checks : IsChecked program) (a b : StayState) (i : Instr) → IsPlaced program a → IsFetchedFor program a.top i
    → i.op ≡ op.Ret → Resumes program a i b → IsPlaced program b
resumed_placed program checks a b i placed fetched is h =
    let chain = chain_last program b.callers h.caller a.top.function (subst (λ fs. AreCalling program fs a.top.function) h.callers placed.callers) in
    let at = resumed_inside (result_of (function_at program a.top.function)) program h.caller b.top a.top h.back.call i h.back.fetched
    (h.back.fetched.next (goes_on h.back.call h.back.op_is)) h.back.goes in
    let none = open_none program checks a.top i fetched is in
    let opened = ap (open_in program) h.callers ∙ open_more program b.callers h.caller in
    let back_outside = region_onward program checks h.caller h.back.call h.back.fetched b.top at.function_is at.pc_is
    (λ e. absurd (let f = sym h.back.op_is ∙ e in cc)) (λ e. absurd (let f = sym h.back.op_is ∙ e in cc)) in
    let same = open_onward program checks h.caller h.back.call h.back.fetched b.top at.function_is at.pc_is
    (λ e. absurd (let f = sym h.back.op_is ∙ e in cc)) (λ e. absurd (let f = sym h.back.op_is ∙ e in cc)) in
    record {
      top = at.inside;
      callers = subst (λ n. AreCalling program b.callers n) (sym at.function_is) chain.1;
      finishes = ap length (ap (λ (x : StayState). x.finishes) h.rest) ∙ placed.finishes ∙ (omega (arith, none, opened, same));
      region = ap (λ (x : StayState). x.inside) h.rest ∙ outside_ends program checks a i placed fetched is
          ∙ sym (back_outside ∙ region_none program checks h.caller h.back.call h.back.fetched (ap is_kept_out h.back.op_is));
    }

-- ---- atomic regions

-- one is entered or left
marked_placed : (inside : Bool) (program : Module) (checks : IsChecked program) (a b : StayState) (i : Instr) → IsPlaced program a
    → IsFetchedFor program a.top i → route_of i.op ≡ route.Region inside → i.op ≢ op.Ret → i.op ≢ op.Finb → i.op ≢ op.Fine → GoesOnInside inside a b
    → in_region program b.top ≡ inside → IsPlaced program b
marked_placed inside program checks a b i placed fetched r ret finb fine h stands =
    let next = fetched.next ret in
    let callers : b.callers ≡ a.callers = ap (λ (x : StayState). x.callers) h.rest in
    record {
      top = inside_next program a.top b.top (fetched_inside program a.top i fetched (omega (arith, next))) next h.top;
      callers = subst (λ fs. AreCalling program fs b.top.function) (sym callers)
          (subst (λ n. AreCalling program a.callers n) (sym h.top.function_is) placed.callers);
      finishes = ap length (ap (λ (x : StayState). x.finishes) h.rest) ∙ placed.finishes
          ∙ ap₂ (λ m n. m + n) (ap (open_in program) (sym callers))
          (sym (open_onward program checks a.top i fetched b.top h.top.function_is h.top.pc_is finb fine));
      region = ap (λ (x : StayState). x.inside) h.rest ∙ sym stands;
    }

region_placed : (inside : Bool) (program : Module) (checks : IsChecked program) (a b : StayState) (i : Instr) → IsPlaced program a
    → IsFetchedFor program a.top i → route_of i.op ≡ route.Region inside → GoesOnInside inside a b → IsPlaced program b
region_placed true program checks a b i placed fetched r h =
    let is = is_enter i.op r in
    marked_placed true program checks a b i placed fetched r (λ e. absurd (let f = sym is ∙ e in cc)) (λ e. absurd (let f = sym is ∙ e in cc))
    (λ e. absurd (let f = sym is ∙ e in cc)) h
    (region_entered program checks a.top i fetched b.top h.top.function_is h.top.pc_is is)
region_placed false program checks a b i placed fetched r h =
    let is = is_leave i.op r in
    marked_placed false program checks a b i placed fetched r (λ e. absurd (let f = sym is ∙ e in cc)) (λ e. absurd (let f = sym is ∙ e in cc))
    (λ e. absurd (let f = sym is ∙ e in cc)) h
    (region_left program checks a.top i fetched b.top h.top.function_is h.top.pc_is is)

-- ---- finishes

finish_region : (program : Module) (checks : IsChecked program) (a b : StayState) (i : Instr) → IsFetchedFor program a.top i → GoesNext a.top b.top
    → i.op ≢ op.Atomb → i.op ≢ op.Atome → in_region program b.top ≡ in_region program a.top
finish_region program checks a b i fetched goes enters leaves =
    region_onward program checks a.top i fetched b.top goes.function_is goes.pc_is enters leaves

-- one more is open
opened_placed : (program : Module) (checks : IsChecked program) (a b : StayState) (s t : StoreState) (i : Instr) → IsPlaced program a
    → IsFetchedFor program a.top i → i.op ≡ op.Finb → OpensFinish a s b t → IsPlaced program b
opened_placed program checks a b s t i placed fetched is h =
    let next = fetched.next (λ e. absurd (let f = sym is ∙ e in cc)) in
    let callers : b.callers ≡ a.callers = ap (λ (x : StayState). x.callers) h.rest in
    let same = ap (open_in program) callers in
    let one = open_opens program checks a.top i fetched b.top h.top.function_is h.top.pc_is is in
    record {
      top = inside_next program a.top b.top (fetched_inside program a.top i fetched (omega (arith, next))) next h.top;
      callers = subst (λ fs. AreCalling program fs b.top.function) (sym callers)
          (subst (λ n. AreCalling program a.callers n) (sym h.top.function_is) placed.callers);
      finishes = ap length (ap (λ (x : StayState). x.finishes) h.rest) ∙ (let e = placed.finishes in omega (arith, e, same, one));
      region = ap (λ (x : StayState). x.inside) h.rest ∙ placed.region
          ∙ sym (finish_region program checks a b i fetched h.top (λ e. absurd (let f = sym is ∙ e in cc)) (λ e. absurd (let f = sym is ∙ e in cc)));
    }

-- one fewer is open
closed_placed : (program : Module) (checks : IsChecked program) (a b : StayState) (s t : StoreState) (i : Instr) → IsPlaced program a
    → IsFetchedFor program a.top i → i.op ≡ op.Fine → ClosesFinish a s b t → IsPlaced program b
closed_placed program checks a b s t i placed fetched is h =
    let next = fetched.next (λ e. absurd (let f = sym is ∙ e in cc)) in
    let callers : b.callers ≡ a.callers = ap (λ (x : StayState). x.callers) h.rest in
    let same = ap (open_in program) callers in
    let one = open_closes program checks a.top i fetched b.top h.top.function_is h.top.pc_is is in
    let fewer = ap length h.innermost in
    record {
      top = inside_next program a.top b.top (fetched_inside program a.top i fetched (omega (arith, next))) next h.top;
      callers = subst (λ fs. AreCalling program fs b.top.function) (sym callers)
          (subst (λ n. AreCalling program a.callers n) (sym h.top.function_is) placed.callers);
      finishes = (let e = placed.finishes in omega (arith, e, same, one, fewer));
      region = ap (λ (x : StayState). x.inside) h.rest ∙ placed.region
          ∙ sym (finish_region program checks a b i fetched h.top (λ e. absurd (let f = sym is ∙ e in cc)) (λ e. absurd (let f = sym is ∙ e in cc)));
    }

-- a stay that ends has no finish open, and one at a FINE has one
pub none_open : (program : Module) (checks : IsChecked program) (a : StayState) (i : Instr) → IsPlaced program a → IsFetchedFor program a.top i
    → i.op ≡ op.Ret → a.callers ≡ [] → a.finishes ≡ []
none_open program checks a i placed fetched is callers = empty a.finishes
    (placed.finishes ∙ ap₂ (λ m n. m + n) (ap (open_in program) callers) (open_none program checks a.top i fetched is))
  where
    empty : (ns : List ℕ) → length ns ≡ 0 → ns ≡ []
    empty [] e = refl
    empty (n ∷ ns) e = absurd (omega (arith, e))

pub some_open : (program : Module) (checks : IsChecked program) (a : StayState) (i : Instr) → IsPlaced program a → IsFetchedFor program a.top i
    → i.op ≡ op.Fine → (number : ℕ) × (outer : List ℕ) × (a.finishes ≡ number ∷ outer)
some_open program checks a i placed fetched is = first a.finishes
    (let n = open_some program checks a.top i fetched is in let e = n.1 in let f = placed.finishes in omega (arith, e, f))
  where
    first : (ns : List ℕ) → 1 ≤ length ns → (number : ℕ) × (outer : List ℕ) × (ns ≡ number ∷ outer)
    first [] e = absurd (omega (arith, e))
    first (n ∷ ns) e = (n, ns, refl)

-- a stay that goes on to the next instruction, with as many finishes open
pub next_placed : (program : Module) (checks : IsChecked program) (a b : StayState) (i : Instr) (r : Route) → IsPlaced program a
    → IsFetchedFor program a.top i → route_of i.op ≡ r → stays_in r → i.op ≢ op.Ret → GoesNext a.top b.top → b ≡ record a { top = b.top }
    → IsPlaced program b
next_placed program checks a b i r placed fetched is in_as_many ne goes rest =
    let next = fetched.next ne in
    same_function program a b placed (inside_next program a.top b.top (fetched_inside program a.top i fetched (omega (arith, next))) next goes)
    goes.function_is
    (open_onward program checks a.top i fetched b.top goes.function_is goes.pc_is (not_finb i.op r is in_as_many) (not_fine i.op r is in_as_many))
    (region_onward program checks a.top i fetched b.top goes.function_is goes.pc_is (not_atomb i.op r is in_as_many) (not_atome i.op r is in_as_many))
    (ap (λ (x : StayState). x.callers) rest) (ap (λ (x : StayState). x.finishes) rest) (ap (λ (x : StayState). x.inside) rest)

-- the activity that it begins stands at its first instruction
pub begun_placed : (program : Module) (words : List ℕ) (i : Instr) (under : Finish) (c : StayState) → FitsImage program
    → IsBegun program words i under c → IsPlaced program c
begun_placed program words i under c fits h =
    let e = h.entered in
    let is : function_at program c.top.function ≡ Some e.callee = ap (λ n. function_at program n) e.function_is ∙ e.is_callee in
    let long = (function_fits program c.top.function e.callee fits is).length.0 in
    record {
      top = record { function = e.callee; is_function = is; pc = omega (arith, e.pc_is, long); registers = e.registers };
      callers = subst (λ fs. AreCalling program fs c.top.function) (sym h.callers) tt;
      finishes = ap length h.finishes ∙ sym (ap₂ (λ m n. m + n) (ap (open_in program) h.callers) (open_first program c.top e.pc_is));
      region = h.inside ∙ sym (region_first program c.top e.pc_is);
    }

-- ---- all operations

module _ (at : Location) (checks : IsChecked at.program) (a b : StayState) (s t : StoreState) (i : Instr) (placed : IsPlaced at.program a)
    (fetched : IsFetchedFor at.program a.top i) where
  abbrev Stays : ℕ → Type 0
  Stays = StaysOpen at.program checks a.top i fetched

  next_in : (r : Route) → route_of i.op ≡ r → stays_in r → i.op ≢ op.Ret → Stays (a.top.pc + 1)
  next_in r e in_as_many ne = next_stays at.program checks a.top i fetched ne r e in_as_many

  jump_in : is_target (form_of i.op).x ≡ true → Stays i.x
  jump_in = jump_stays at.program checks a.top i fetched

  placed_by : (r : Route) → route_of i.op ≡ r → Steps r at a s i outcome.Goes b t → IsPlaced at.program b
  placed_by (route.Local l) e h =
      top_placed (λ v w. Acts l at.program v i w) at.program checks a b s t i fetched placed h.1
      (local_lands i Stays jump_in at.program (space_of a.top s.heap)
      (next_in (route.Local l) e tt (λ f. absurd (let g : route.Return ≡ route.Local l = ap route_of (sym f) ∙ e in cc))) l
      (space_of b.top t.heap) e h.1.changes)
  placed_by (route.Make k) e h =
      top_placed (λ v w. Makes k at.program v i w) at.program checks a b s t i fetched placed h.1
      (make_lands i Stays jump_in at.program (space_of a.top s.heap)
      (next_in (route.Make k) e tt (λ f. absurd (let g : route.Return ≡ route.Make k = ap route_of (sym f) ∙ e in cc))) k
      (space_of b.top t.heap) e h.1.changes)
  placed_by (route.Site k) e h =
      top_placed (λ v w. ActsAt k at.here at.places v i w) at.program checks a b s t i fetched placed h.1
      (site_lands i Stays jump_in at.program (space_of a.top s.heap)
      (next_in (route.Site k) e tt (λ f. absurd (let g : route.Return ≡ route.Site k = ap route_of (sym f) ∙ e in cc))) k at.here at.places
      (space_of b.top t.heap) e h.1.changes)
  placed_by route.Export e h =
      top_placed (λ v w. ExportsObject at.here v i w) at.program checks a b s t i fetched placed h.1
      (export_lands i Stays jump_in at.program (space_of a.top s.heap)
      (next_in route.Export e tt (λ f. absurd (let g : route.Return ≡ route.Export = ap route_of (sym f) ∙ e in cc))) at.here
      (space_of b.top t.heap) h.1.changes)
  placed_by route.Call e h = called_placed at.program checks a b i placed fetched (is_call i.op e) h.1
  placed_by route.Return e h = resumed_placed at.program checks a b i placed fetched (is_return i.op e) h.0
  placed_by route.Print e h = print_placed at.program checks a b s t i placed fetched (is_print i.op e) h.1
  placed_by (route.Region inside) e h = region_placed inside at.program checks a b i placed fetched e h.1
  placed_by route.OpenFinish e h = opened_placed at.program checks a b s t i placed fetched (is_open_finish i.op e) h.1
  placed_by route.CloseFinish e h = closed_placed at.program checks a b s t i placed fetched (is_close_finish i.op e) h
  placed_by route.Async e h = absurd (let f = h.0 in cc)
  placed_by route.At e h = absurd (let f = h.0 in cc)
  placed_by route.Ata e h = absurd (let f = h.0 in cc)

  -- a stay that goes on stands where it can go on
  pub steps_placed : Steps (route_of i.op) at a s i outcome.Goes b t → IsPlaced at.program b
  steps_placed h = placed_by (route_of i.op) refl h
