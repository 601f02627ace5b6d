-- A call frame stands where it can go on: at an instruction of its function, in so many finishes, and in an atomic region or in none.
use Rattle.std.proofs.Common.{◌≡◌, ◌≢◌, ℕ, ◌+◌, ◌<◌, ◌≤◌, true, false, length, Some, refl, sym, ap, subst, ◌∙◌}
use Rattle.std.proofs.Math.ListN.{length-set}
use Rattle.x10_code.specs.declared.op.Op.TheVariants as op
use Rattle.x10_code.specs.declared.instr.Instr.{Instr}
use Rattle.x10_model.specs.Modules.{Module, Function, FitsImage}
use Rattle.x10_model.specs.Ranges.{function_at}
use Rattle.x10_model.specs.Structure.{is_kept_out, is_target}
use Rattle.x10_code.specs.Table.{form_of}
use Rattle.x10_image.specs.Parts.{code_in}
use Rattle.x10_bounds.specs.AtomicRegions.{is_inside, RegionsMatch}
use Rattle.x10_bounds.specs.OpenFinishes.{finishes_around, FinishesMatch}
use Rattle.x10_bounds.proofs.EachFunction.{function_keeps, function_matches}
use Rattle.x10_verify.specs.Certified.{Certified, IsCertified}
use Rattle.x10_place.specs.declared.call_frame.CallFrame.{CallFrame}
use Rattle.x10_place.specs.declared.route.Route.{Route}
use Rattle.x10_place.specs.Frames.{IsInside, IsFetchedFor}
use Rattle.x10_place.specs.Routes.{route_of}
use Rattle.x10_place.specs.Stays.{open_at, in_region, GoesNext, GoesNextWith}
use Rattle.x10_place.proofs.FetchedInstructions.{target_there}
use Rattle.x10_place.proofs.RoutesOfOne.{stays_in, not_finb, not_fine, not_atomb, not_atome}

-- ---- modules

-- what the verifier knows of a module's code, beside its assignments
pub record IsChecked (program : Module) : Type 0 where
  pub fits : FitsImage program
  pub finishes : (f : ℕ) (function : Function) → function_at program f ≡ Some function → FinishesMatch function.code
  pub regions : (f : ℕ) (function : Function) → function_at program f ≡ Some function → RegionsMatch function.code

pub checked : (c : Certified) → IsCertified c → IsChecked c.program
checked c certified = record {
  fits = certified.fits;
  finishes = λ f function is. function_matches c.program c.bounds f function certified.verified.bounds_are is;
  regions = λ f function is. function_keeps c.program c.bounds f function certified.verified.bounds_are is;
}

-- ---- one call frame

-- the call frame at another instruction of its function
inside_at : (program : Module) (f g : CallFrame) (h : IsInside program f) → g.function ≡ f.function → g.pc < length h.function.code
    → length g.registers.items ≡ length f.registers.items → IsInside program g
inside_at program f g h same lt count = record {
  function = h.function;
  is_function = ap (λ n. function_at program n) same ∙ h.is_function;
  pc = lt;
  registers = subst (λ n. h.function.registers ≤ n) (sym count) h.registers;
}

pub inside_next : (program : Module) (f g : CallFrame) (h : IsInside program f) → f.pc + 1 < length h.function.code → GoesNext f g
    → IsInside program g
inside_next program f g h lt goes = inside_at program f g h goes.function_is (subst (λ n. n < length h.function.code) (sym goes.pc_is) lt)
    (ap length goes.words_are)

pub inside_with : (program : Module) (f g : CallFrame) (register word : ℕ) (h : IsInside program f) → f.pc + 1 < length h.function.code
    → GoesNextWith f register word g → IsInside program g
inside_with program f g register word h lt goes = inside_at program f g h goes.function_is
    (subst (λ n. n < length h.function.code) (sym goes.pc_is) lt) (ap length goes.words_are ∙ simp length-set refl)

-- a call frame that an instruction was fetched for stands at one
abbrev pub fetched_inside : (program : Module) (f : CallFrame) (i : Instr) (fetched : IsFetchedFor program f i) → f.pc < length fetched.function.code
    → IsInside program f
fetched_inside program f i fetched lt = record {
  function = fetched.function;
  is_function = fetched.is_function;
  pc = lt;
  registers = fetched.registers;
}

-- an instruction of a call frame that was fetched
module _ (program : Module) (checks : IsChecked program) (f : CallFrame) (i : Instr) (fetched : IsFetchedFor program f i) where
  matches : FinishesMatch fetched.function.code
  matches = checks.finishes f.function fetched.function fetched.is_function

  -- how many finishes a call frame of this function stands in
  pub open_by : (g : CallFrame) → g.function ≡ f.function → open_at program g ≡ finishes_around fetched.function.code g.pc
  open_by g same = ap (λ o. finishes_around (code_in o) g.pc) (ap (λ n. function_at program n) same ∙ fetched.is_function)

  -- one instruction further
  pub open_onward : (g : CallFrame) → g.function ≡ f.function → g.pc ≡ f.pc + 1 → i.op ≢ op.Finb → i.op ≢ op.Fine
      → open_at program g ≡ open_at program f
  open_onward g same next a b = open_by g same ∙ ap (finishes_around fetched.function.code) next ∙ matches.onward f.pc i fetched.is_instr a b
      ∙ sym (open_by f refl)

  pub open_opens : (g : CallFrame) → g.function ≡ f.function → g.pc ≡ f.pc + 1 → i.op ≡ op.Finb → open_at program g ≡ open_at program f + 1
  open_opens g same next is = open_by g same ∙ ap (finishes_around fetched.function.code) next ∙ matches.opens f.pc i fetched.is_instr is
      ∙ ap (λ n. n + 1) (sym (open_by f refl))

  pub open_closes : (g : CallFrame) → g.function ≡ f.function → g.pc ≡ f.pc + 1 → i.op ≡ op.Fine → open_at program f ≡ open_at program g + 1
  open_closes g same next is = open_by f refl ∙ matches.closes f.pc i fetched.is_instr is
      ∙ ap (λ n. n + 1) (sym (ap (finishes_around fetched.function.code) next) ∙ sym (open_by g same))

  -- a FINE stands in a finish, and a RET in none
  pub open_some : i.op ≡ op.Fine → (n : ℕ) × (open_at program f ≡ n + 1)
  open_some is = (finishes_around fetched.function.code (f.pc + 1), open_by f refl ∙ matches.closes f.pc i fetched.is_instr is)

  pub open_none : i.op ≡ op.Ret → open_at program f ≡ 0
  open_none is = open_by f refl ∙ matches.ends f.pc i fetched.is_instr is

  keeps : RegionsMatch fetched.function.code
  keeps = checks.regions f.function fetched.function fetched.is_function

  -- whether a call frame of this function stands in an atomic region
  pub region_by : (g : CallFrame) → g.function ≡ f.function → in_region program g ≡ is_inside fetched.function.code g.pc
  region_by g same = ap (λ o. is_inside (code_in o) g.pc) (ap (λ n. function_at program n) same ∙ fetched.is_function)

  -- one instruction further
  region_next : (g : CallFrame) → g.function ≡ f.function → g.pc ≡ f.pc + 1 → in_region program g ≡ is_inside fetched.function.code (f.pc + 1)
  region_next g same next = region_by g same ∙ ap (is_inside fetched.function.code) next

  pub region_onward : (g : CallFrame) → g.function ≡ f.function → g.pc ≡ f.pc + 1 → i.op ≢ op.Atomb → i.op ≢ op.Atome
      → in_region program g ≡ in_region program f
  region_onward g same next a b = region_next g same next ∙ keeps.onward f.pc i fetched.is_instr a b ∙ sym (region_by f refl)

  pub region_entered : (g : CallFrame) → g.function ≡ f.function → g.pc ≡ f.pc + 1 → i.op ≡ op.Atomb → in_region program g ≡ true
  region_entered g same next is = region_next g same next ∙ keeps.opens f.pc i fetched.is_instr is

  pub region_left : (g : CallFrame) → g.function ≡ f.function → g.pc ≡ f.pc + 1 → i.op ≡ op.Atome → in_region program g ≡ false
  region_left g same next is = region_next g same next ∙ keeps.leaves f.pc i fetched.is_instr is

  -- a RET stands in none, and neither does what begins something or goes elsewhere
  pub region_ends : i.op ≡ op.Ret → in_region program f ≡ false
  region_ends is = region_by f refl ∙ keeps.ends f.pc i fetched.is_instr is

  pub region_none : is_kept_out i.op ≡ true → in_region program f ≡ false
  region_none is = region_by f refl ∙ keeps.outside f.pc i fetched.is_instr is

  -- where it stands next: at an instruction, in as many finishes, and in an atomic region where it stood in one
  abbrev pub StaysOpen : ℕ → Type 0
  StaysOpen pc = (pc < length fetched.function.code) × (finishes_around fetched.function.code pc ≡ finishes_around fetched.function.code f.pc)
      × (is_inside fetched.function.code pc ≡ is_inside fetched.function.code f.pc)

  pub next_stays : i.op ≢ op.Ret → (r : Route) → route_of i.op ≡ r → stays_in r → StaysOpen (f.pc + 1)
  next_stays ret r e s = (
    fetched.next ret,
    matches.onward f.pc i fetched.is_instr (not_finb i.op r e s) (not_fine i.op r e s),
    keeps.onward f.pc i fetched.is_instr (not_atomb i.op r e s) (not_atome i.op r e s),
  )

  pub jump_stays : is_target (form_of i.op).x ≡ true → StaysOpen i.x
  jump_stays target = (
    target_there program fetched.function i (form_of i.op).x fetched.in_range.x target,
    matches.jump f.pc i fetched.is_instr target,
    keeps.jump f.pc i fetched.is_instr target,
  )
