-- Instructions as they are fetched for a call frame, and what operations of one call frame ask of them.
use Rattle.std.proofs.Common.{◌≡◌, ◌≢◌, ℕ, ◌+◌, ◌<◌, ◌≤◌, ◌^◌, List, length, Option, Some, None, refl, sym, ap, subst, ◌∙◌, arith}
use Rattle.std.specs.Prelude.{ℤ, ◌++◌, ◌==◌, nat_le, slice_get, nat_lt, if◌then◌else◌, Bool, true, false}
use Rattle.std.proofs.Math.ListN.{length-set}
use Rattle.x10_kinds.specs.declared.kind.Kind.{Kind}
use Rattle.x10_code.specs.declared.op.Op.{Op}
use Rattle.x10_code.specs.declared.op.Op.TheVariants as op
use Rattle.x10_code.specs.declared.instr.Instr.{Instr}
use Rattle.x10_code.specs.declared.operands.Operand.{Operand}
use Rattle.x10_code.specs.declared.operands.Operand.TheVariants as operand
use Rattle.x10_code.specs.declared.operands.Operand.TheVariants.{Unused, Register, Arguments, Slot, Count, Field, Int, Text, Place, Class, Target}
use Rattle.x10_code.specs.declared.operands.Form.{Form}
use Rattle.x10_code.specs.Table.{form_of}
use Rattle.x10_model.specs.declared.version.ImageVersion.{ImageVersion}
use Rattle.x10_model.specs.Modules.{Module, Function, FitsFunction, FitsImage}
use Rattle.x10_model.specs.Structure.{is_target}
use Rattle.x10_model.specs.Ranges.{function_at, instr_at, instr_in, fields_of, argument_count, AreArgumentRegisters, IsThere, IsInRange}
use Rattle.x10_image.specs.Parts.{code_in, code_at}
use Rattle.std.proofs.lemmas.Option.{slice_get_within}
use Rattle.x10_verify.proofs.Wholes.{function_fits}
use Rattle.x10_place.specs.declared.route.Local.{Local}
use Rattle.x10_place.specs.declared.route.Local.TheVariants as local
use Rattle.x10_place.specs.declared.route.Route.{Route}
use Rattle.x10_place.specs.declared.route.Route.TheVariants as route
use Rattle.x10_place.specs.declared.route.Make.{Make}
use Rattle.x10_place.specs.declared.route.Make.TheVariants as make
use Rattle.x10_place.specs.declared.route.Site.{Site}
use Rattle.x10_place.specs.declared.route.Site.TheVariants as site
use Rattle.x10_place.specs.declared.route.Number.{Number}
use Rattle.x10_place.specs.declared.route.Number.TheVariants as number
use Rattle.x10_heap.specs.Heaps.{HeapState}
use Rattle.x10_model.specs.declared.limits.TheConstants.{MOST_BYTES}
use Rattle.x10_model.specs.Results.{is_zero, byte_at, rail_length}
use Rattle.x10_place.specs.Frames.{Workspace, Becomes, HasSizes, IsWithin, IsFetched, Takes, CopiesUnless, SetsByte, Acts, AsksNumber, Asks, Puts, ActsAt, AsksAt, numbered, is_at, are_same, word_at, int_at, turns_left}
use Rattle.x10_place.specs.Making.{Makes, Joins, MakesRail, AsksMake, ExportsObject}
use Rattle.x10_place.specs.Routes.{route_of}
use Rattle.x10_place.proofs.Forms.{number_form, local_form, make_form, site_form, form_by, count_by, counted, form_is}

pub sizes : (version : ImageVersion) (classes : ℕ) (f : Function) → FitsFunction version classes f → HasSizes classes f
sizes version classes f fits = record {
  parameters = fits.parameters;
  registers = fits.registers;
  room = fits.room;
  loops = fits.loops;
  slots = fits.slots;
  result = fits.result;
  length = fits.length;
}

-- ---- what is there

-- the function of a call frame that stands at an instruction
pub function_within : (program : Module) (index at count n : ℕ) → IsWithin program index at count → n ≡ index → n < length program.functions
function_within program index at count n h e = subst (λ k. k < length program.functions) (sym e)
    (slice_get_within program.functions index h.function h.is_function)

pub pc_within : (program : Module) (index at count n pc : ℕ) → IsWithin program index at count → n ≡ index → pc ≡ at → pc < length (code_at program n)
pc_within program index at count n pc h e g =
    let here : at < length (code_at program index) = subst (λ o. at < length (code_in o)) (sym h.is_function) h.pc in
    subst (λ k. k < length (code_at program n)) (sym g) (subst (λ k. at < length (code_at program k)) (sym e) here)

-- an instruction, and what is known of it where it was fetched by a function and a number
pub record IsRefetched (program : Module) (index at f pc : ℕ) (i : Instr) : Type 0 where
  pub function_is : f ≡ index
  pub pc_is : pc ≡ at
  pub value : instr_at program f pc ≡ Some i
  pub in_range : (function : Function) → function_at program f ≡ Some function → IsInRange program function i
  pub follows : i.op ≢ op.Ret → pc + 1 < length (code_at program f)

pub value_at : (program : Module) (index at f pc : ℕ) (i : Instr) → IsRefetched program index at f pc i → instr_at program index at ≡ Some i
value_at program index at f pc i r = subst (λ n. instr_at program n at ≡ Some i) r.function_is
    (subst (λ n. instr_at program f n ≡ Some i) r.pc_is r.value)

pub fetched_within : (program : Module) (index at count f pc : ℕ) (i : Instr) → FitsImage program → IsWithin program index at count
    → IsRefetched program index at f pc i → IsFetched program index at count i
fetched_within program index at count f pc i fits inside r = record {
  function = inside.function;
  is_function = inside.is_function;
  is_instr = subst (λ o. instr_in o at ≡ Some i) inside.is_function (value_at program index at f pc i r);
  in_range = r.in_range inside.function (subst (λ k. function_at program k ≡ Some inside.function) (sym r.function_is) inside.is_function);
  sizes = sizes program.version (length program.classes) inside.function (function_fits program index inside.function fits inside.is_function);
  registers = inside.registers;
  next = λ ne. subst (λ o. at + 1 < length (code_in o)) inside.is_function
      (subst (λ k. at + 1 < length (code_at program k)) r.function_is (subst (λ k. k + 1 < length (code_at program f)) r.pc_is (r.follows ne)));
}

-- ---- operations of one call frame

-- such an operation is no return
pub local_no_return : (o : Op) (l : Local) → route_of o ≡ route.Local l → o ≢ op.Ret
local_no_return o l e f = absurd (let g : route.Return ≡ route.Local l = ap route_of (sym f) ∙ e in cc)

module _ (program : Module) (index at count : ℕ) (i : Instr) (h : IsFetched program index at count i) where
  abbrev Named : Form → Type 0
  Named f = IsThere program h.function i f.a i.a × IsThere program h.function i f.b i.b × IsThere program h.function i f.c i.c
      × IsThere program h.function i f.x i.x

  named : (r : Route) → route_of i.op ≡ r → Named (form_by r (form_of i.op))
  named r e = subst Named (form_is i.op r e) (h.in_range.a, h.in_range.b, h.in_range.c, h.in_range.x)

  -- a register, a slot and a target
  there : {r : ℕ} → r < h.function.registers → r < count
  there lt = omega (arith, lt, h.registers)

  slot : i.a < h.function.loops → i.a < 8
  slot lt = omega (arith, lt, h.sizes.loops)

  target : i.x < length h.function.code → i.x < 2 ^ 16
  target lt = omega (arith, lt, h.sizes.length.1)

  pub local_next : (l : Local) → route_of i.op ≡ route.Local l → at + 1 < length h.function.code
  local_next l e = h.next (local_no_return i.op l e)

  pub next_small : at + 1 < length h.function.code → at + 1 < 2 ^ 16
  next_small lt = omega (arith, lt, h.sizes.length.1)

  number_asks : (k : Number) → Named (number_form k) → AsksNumber k program count i
  number_asks number.Constant n = (there n.0, n.3)
  number_asks number.RailLength n = (there n.0, there n.1)
  number_asks number.TextLength n = (there n.0, there n.1)
  number_asks number.PlaceNumber n = (there n.0, there n.1)
  number_asks _ n = (there n.0, there n.1, there n.2)

  asks_of : (l : Local) → Named (local_form l) → Asks l program count i
  asks_of (local.Number k) n = number_asks k n
  asks_of (local.Partial d) n = (there n.0, there n.1, there n.2, target n.3)
  asks_of local.Copy n = (there n.0, there n.1)
  asks_of local.Null n = there n.0
  asks_of local.NotNull n = (there n.0, there n.1, target n.3)
  asks_of local.GetField n = (there n.0, there n.1)
  asks_of local.SetField n = (there n.0, there n.1)
  asks_of local.SetByte n = (there n.0, there n.1, there n.2, target n.3)
  asks_of local.Place n = there n.0
  asks_of local.Home n = (there n.0, there n.1)
  asks_of local.Open n = (there n.0, there n.1)
  asks_of local.SamePlace n = (there n.0, there n.1, target n.3)
  asks_of local.Jump n = target n.3
  asks_of local.JumpIfZero n = (there n.0, target n.3)
  asks_of local.Loop n = slot n.0
  asks_of local.EndLoop n = (slot n.0, target n.3)

  pub local_asks : (l : Local) → route_of i.op ≡ route.Local l → Asks l program count i
  local_asks l r = asks_of l (named (route.Local l) r)

  -- ---- operations that make something

  make_no_return : (k : Make) → route_of i.op ≡ route.Make k → i.op ≢ op.Ret
  make_no_return k e f = absurd (let g : route.Return ≡ route.Make k = ap route_of (sym f) ∙ e in cc)

  pub make_next : (k : Make) → route_of i.op ≡ route.Make k → at + 1 < length h.function.code
  make_next k e = h.next (make_no_return k e)

  -- the registers from b on have a field each
  fields_there : route_of i.op ≡ route.Make make.Object → AreArgumentRegisters h.function (argument_count program i i.op) i.b → (kinds : List Kind)
      → slice_get program.classes i.x ≡ Some kinds → i.b + length kinds ≤ count
  fields_there r named_by kinds known =
      let same : argument_count program i i.op ≡ length kinds =
      counted program i i.op ∙ ap (λ q. count_by q program i (argument_count program i i.op)) r ∙ ap (λ o. length (fields_of o)) known in
      let lt : i.b + length kinds ≤ h.function.registers = subst (λ n. i.b + n ≤ h.function.registers) same named_by.1 in
      omega (arith, lt, h.registers)

  made_of : (k : Make) → route_of i.op ≡ route.Make k → Named (make_form k) → AsksMake k program count i
  made_of make.Text r n = (there n.0, n.3)
  made_of make.JoinedText r n = (there n.0, there n.1, there n.2, target n.3)
  made_of make.Object r n = (there n.0, fields_there r n.1, n.3)
  made_of make.Rail r n = (there n.0, there n.1, target n.3)

  pub make_asks : (k : Make) → route_of i.op ≡ route.Make k → AsksMake k program count i
  make_asks k r = made_of k r (named (route.Make k) r)

  -- ---- operations that go by the place

  site_no_return : (k : Site) → route_of i.op ≡ route.Site k → i.op ≢ op.Ret
  site_no_return k e f = absurd (let g : route.Return ≡ route.Site k = ap route_of (sym f) ∙ e in cc)

  pub site_next : (k : Site) → route_of i.op ≡ route.Site k → at + 1 < length h.function.code
  site_next k e = h.next (site_no_return k e)

  site_of : (k : Site) → Named (site_form k) → AsksAt k count i
  site_of site.Here n = there n.0
  site_of site.Count n = there n.0
  site_of site.Next n = (there n.0, there n.1)
  site_of site.Numbered n = (there n.0, there n.1, target n.3)
  site_of site.IsHere n = (there n.0, target n.3)

  pub site_asks : (k : Site) → route_of i.op ≡ route.Site k → AsksAt k count i
  site_asks k r = site_of k (named (route.Site k) r)

  -- a global reference is made
  pub export_asks : route_of i.op ≡ route.Export → (i.a < count) × (i.b < count)
  export_asks r = let n = named route.Export r in (there n.0, there n.1)

  pub export_next : route_of i.op ≡ route.Export → at + 1 < length h.function.code
  export_next e = h.next (λ f. absurd (let g : route.Return ≡ route.Export = ap route_of (sym f) ∙ e in cc))

-- ---- where the call frame stands afterwards: at the next instruction or at x

module _ (i : Instr) (P : ℕ → Type 0) (jump : is_target (form_of i.op).x ≡ true → P i.x) where
  -- a jump goes where P holds
  abbrev pub Targets : Local → Type 0
  Targets (local.Partial d) = P i.x
  Targets local.NotNull = P i.x
  Targets local.SetByte = P i.x
  Targets local.SamePlace = P i.x
  Targets local.Jump = P i.x
  Targets local.JumpIfZero = P i.x
  Targets local.EndLoop = P i.x
  Targets _ = Unit {0}

  -- where the route settles the form
  jump_by : (r : Route) → route_of i.op ≡ r → is_target (form_by r (form_of i.op)).x ≡ true → P i.x
  jump_by r e is = jump (ap (λ f. is_target f.x) (form_is i.op r e) ∙ is)

  targets_of : (l : Local) → (is_target (local_form l).x ≡ true → P i.x) → Targets l
  targets_of (local.Partial d) to = to refl
  targets_of local.NotNull to = to refl
  targets_of local.SetByte to = to refl
  targets_of local.SamePlace to = to refl
  targets_of local.Jump to = to refl
  targets_of local.JumpIfZero to = to refl
  targets_of local.EndLoop to = to refl
  targets_of _ to = tt

  pub local_targets : (l : Local) → route_of i.op ≡ route.Local l → Targets l
  local_targets l r = targets_of l (jump_by (route.Local l) r)

  abbrev pub MakeTargets : Make → Type 0
  MakeTargets make.JoinedText = P i.x
  MakeTargets make.Rail = P i.x
  MakeTargets _ = Unit {0}

  make_targets_of : (k : Make) → (is_target (make_form k).x ≡ true → P i.x) → MakeTargets k
  make_targets_of make.JoinedText to = to refl
  make_targets_of make.Rail to = to refl
  make_targets_of _ to = tt

  pub make_targets : (k : Make) → route_of i.op ≡ route.Make k → MakeTargets k
  make_targets k r = make_targets_of k (jump_by (route.Make k) r)

  abbrev pub SiteTargets : Site → Type 0
  SiteTargets site.Numbered = P i.x
  SiteTargets site.IsHere = P i.x
  SiteTargets _ = Unit {0}

  site_targets_of : (k : Site) → (is_target (site_form k).x ≡ true → P i.x) → SiteTargets k
  site_targets_of site.Numbered to = to refl
  site_targets_of site.IsHere to = to refl
  site_targets_of _ to = tt

  pub site_targets : (k : Site) → route_of i.op ≡ route.Site k → SiteTargets k
  site_targets k r = site_targets_of k (jump_by (route.Site k) r)

  -- the call frame lands where P holds, with as many registers
  abbrev pub Lands : Workspace → Workspace → Type 0
  Lands v w = P w.pc × (length w.words ≡ length v.words)

  module _ (program : Module) (v : Workspace) (next : P (v.pc + 1)) where
    lands : (w : Workspace) (pc : ℕ) (words loops : List ℕ) (heap : HeapState) → Becomes w pc words loops heap → P pc → length words ≡ length v.words
        → Lands v w
    lands w pc words loops heap b at same = (subst P (sym b.pc_is) at, ap length b.words_are ∙ same)

    next_or : (b : Bool) (x n : ℕ) → P x → P n → P (if b then x else n)
    next_or true x n lx ln = lx
    next_or false x n lx ln = ln

    or_next : (b : Bool) (x n : ℕ) → P x → P n → P (if b then n else x)
    or_next true x n lx ln = ln
    or_next false x n lx ln = lx

    takes_within : (z : Option ℤ) (w : Workspace) → Takes v i z w → P i.x → Lands v w
    takes_within (Some z) w t target = lands w _ _ _ _ t.2 next (simp length-set refl)
    takes_within None w t target = lands w _ _ _ _ t target refl

    copies_within : (b : Bool) (w : Workspace) → CopiesUnless b v i w → P i.x → Lands v w
    copies_within true w c target = lands w _ _ _ _ c target refl
    copies_within false w c target = lands w _ _ _ _ c next (simp length-set refl)

    byte_within : (byte : Option ℕ) (bytes : List ℕ) (w : Workspace) → SetsByte byte bytes v i w → P i.x → Lands v w
    byte_within None bytes w c target = lands w _ _ _ _ c target refl
    byte_within (Some byte) bytes w c target = lands w _ _ _ _ c next refl

    within_by : (l : Local) (w : Workspace) → Acts l program v i w → Targets l → Lands v w
    within_by (local.Number n) w acts target = lands w _ _ _ _ acts.2.2 next (simp length-set refl)
    within_by (local.Partial d) w acts target = takes_within acts.0 w acts.2 target
    within_by local.Null w acts target = lands w _ _ _ _ acts next (simp length-set refl)
    within_by local.NotNull w acts target = copies_within (word_at v.words i.b == 0) w acts target
    within_by local.GetField w acts target = lands w _ _ _ _ acts.becomes next (simp length-set refl)
    within_by local.SetField w acts target = lands w _ _ _ _ acts.becomes next refl
    within_by local.SetByte w acts target = byte_within (byte_at acts.0 (int_at v.words i.b)) acts.0 w acts.2 target
    within_by local.Copy w acts target = lands w _ _ _ _ acts next (simp length-set refl)
    within_by local.Place w acts target = lands w _ _ _ _ acts next (simp length-set refl)
    within_by local.Home w acts target = lands w _ _ _ _ acts next (simp length-set refl)
    within_by local.Open w acts target = lands w _ _ _ _ acts.2 next (simp length-set refl)
    within_by local.SamePlace w acts target = lands w _ _ _ _ acts (or_next (are_same v.words i.a i.b) i.x (v.pc + 1) target next) refl
    within_by local.Jump w acts target = lands w _ _ _ _ acts target refl
    within_by local.JumpIfZero w acts target = lands w _ _ _ _ acts (next_or (is_zero (int_at v.words i.a)) i.x (v.pc + 1) target next) refl
    within_by local.Loop w acts target = lands w _ _ _ _ acts next refl
    within_by local.EndLoop w acts target = lands w _ _ _ _ acts (next_or (nat_lt 0 (turns_left v.loops i.a)) i.x (v.pc + 1) target next) refl

    pub local_lands : (l : Local) (w : Workspace) → route_of i.op ≡ route.Local l → Acts l program v i w → Lands v w
    local_lands l w r acts = within_by l w acts (local_targets l r)

    joins_within : (b : Bool) (text : List ℕ) (w : Workspace) → Joins b text v i w → P i.x → Lands v w
    joins_within true text w c target = lands w _ _ _ _ c.becomes next (simp length-set refl)
    joins_within false text w c target = lands w _ _ _ _ c target refl

    rail_within : (n : Option ℕ) (w : Workspace) → MakesRail n v i w → P i.x → Lands v w
    rail_within None w c target = lands w _ _ _ _ c target refl
    rail_within (Some n) w c target = lands w _ _ _ _ c.becomes next (simp length-set refl)

    made_within : (k : Make) (w : Workspace) → Makes k program v i w → MakeTargets k → Lands v w
    made_within make.Text w c target = lands w _ _ _ _ c.2.becomes next (simp length-set refl)
    made_within make.JoinedText w c target = joins_within (nat_le (length c.0 + length c.1) MOST_BYTES) (c.0 ++ c.1) w c.4 target
    made_within make.Object w c target = lands w _ _ _ _ c.2.becomes next (simp length-set refl)
    made_within make.Rail w c target = rail_within (rail_length (int_at v.words i.b)) w c target

    pub make_lands : (k : Make) (w : Workspace) → route_of i.op ≡ route.Make k → Makes k program v i w → Lands v w
    make_lands k w r makes = made_within k w makes (make_targets k r)

    puts_within : (word : Option ℕ) (w : Workspace) → Puts word v i w → P i.x → Lands v w
    puts_within (Some word) w p target = lands w _ _ _ _ p next (simp length-set refl)
    puts_within None w p target = lands w _ _ _ _ p target refl

    at_within : (k : Site) (here places : ℕ) (w : Workspace) → ActsAt k here places v i w → SiteTargets k → Lands v w
    at_within site.Here here places w p target = lands w _ _ _ _ p next (simp length-set refl)
    at_within site.Count here places w p target = lands w _ _ _ _ p.2 next (simp length-set refl)
    at_within site.Next here places w p target = lands w _ _ _ _ p next (simp length-set refl)
    at_within site.Numbered here places w p target = puts_within (numbered places (int_at v.words i.b)) w p target
    at_within site.IsHere here places w p target = lands w _ _ _ _ p (or_next (is_at v.words i.a here) i.x (v.pc + 1) target next) refl

    pub site_lands : (k : Site) (here places : ℕ) (w : Workspace) → route_of i.op ≡ route.Site k → ActsAt k here places v i w → Lands v w
    site_lands k here places w r acts = at_within k here places w acts (site_targets k r)

    pub export_lands : (here : ℕ) (w : Workspace) → ExportsObject here v i w → Lands v w
    export_lands here w exports = lands w _ _ _ _ exports.becomes next (simp length-set refl)

-- the call frame stands at an instruction of its function again
pub within_again : (program : Module) (index : ℕ) (v w : Workspace) (i : Instr) (h : IsFetched program index v.pc (length v.words) i)
    → (w.pc < length h.function.code) × (length w.words ≡ length v.words) → IsWithin program index w.pc (length w.words)
within_again program index v w i h lands = record {
  function = h.function;
  is_function = h.is_function;
  pc = lands.0;
  registers = subst (λ n. h.function.registers ≤ n) (sym lands.1) h.registers;
}

-- a target is an instruction of the function
pub target_there : (program : Module) (f : Function) (i : Instr) (o : Operand) → IsThere program f i o i.x → is_target o ≡ true → i.x < length f.code
target_there program f i operand.Target there e = there
target_there program f i _ there e = absurd cc

-- after an operation of the call frame alone
pub local_within : (program : Module) (index : ℕ) (v : Workspace) (i : Instr) (h : IsFetched program index v.pc (length v.words) i) (l : Local)
    (w : Workspace) → route_of i.op ≡ route.Local l → Acts l program v i w → IsWithin program index w.pc (length w.words)
local_within program index v i h l w r acts =
    within_again program index v w i h
    (local_lands i (λ n. n < length h.function.code) (λ target. target_there program h.function i (form_of i.op).x h.in_range.x target) program v
    (local_next program index v.pc (length v.words) i h l r) l w r acts)
