-- What the bounds of a module say of each of its functions: its potential falls, and its calls cost what they can take.
use Rattle.std.proofs.Common.{◌≡◌, ℕ, zero, suc, ◌+◌, ◌<◌, true, List, [], ◌∷◌, ◌++◌, length, take, Some, None, Ok, refl, sym, ap, subst, ◌∙◌, arith, append_assoc, append-nil, length-append, take_at}
use Rattle.std.specs.Prelude.{slice_get, slice_index, nat_lt, if◌then◌else◌}
use Rattle.std.proofs.lemmas.Bool.{ltb-true}
use Rattle.x10_code.specs.declared.instr.Instr.{Instr}
use Rattle.x10_model.specs.Modules.{Module, Function}
use Rattle.x10_model.specs.Ranges.{function_at}
use Rattle.x10_model.specs.Structure.{Nesting, Jump, LoopSlot, CallOrder, InAtomic, cost, is_call, calls_earlier, bound_of, nesting_fault, jump_fault, slot_fault, order_fault, atomic_fault, checked_bound, bounds_from, bounds_of}
use Rattle.x10_model.proofs.Bounds.{unless_ok, with_ok}
use Rattle.x10_model.proofs.Lists.{append_get}
use Rattle.x10_image.specs.Parts.{code_in, code_at}
use Rattle.x10_bounds.specs.Potential.{IsStructured, potential, PotentialFalls}
use Rattle.x10_bounds.proofs.FirstFailure.{none_fails}
use Rattle.x10_bounds.proofs.Falls.{structured_falls}
use Rattle.x10_verify.proofs.Structured.{checked}

-- ---- one function

-- what the bounds of a module say of function f: its structure holds, it calls functions before it, and its bound is there
pub record HasBound (bounds : List ℕ) (f : ℕ) (function : Function) : Type 0 where
  pub structured : IsStructured function.loops function.code
  pub ordered : order_fault f function.code ≡ None
  pub bound : slice_get bounds f ≡ Some (bound_of (take f bounds) function.code)

has_bound : (earlier rest bounds : List ℕ) (function : Function) (bound : ℕ) → bounds ≡ earlier ++ bound ∷ rest
    → checked_bound (length earlier) earlier function ≡ Ok bound → HasBound bounds (length earlier) function
has_bound earlier rest bounds function bound is e =
    let f : ℕ = length earlier in
    let n = unless_ok (nesting_fault function.code) Nesting f _ bound e in
    let j = unless_ok (jump_fault function.code) Jump f _ bound n.1 in
    let s = unless_ok (slot_fault function.loops function.code) LoopSlot f _ bound j.1 in
    let o = unless_ok (order_fault f function.code) CallOrder f _ bound s.1 in
    let a = unless_ok (atomic_fault function.code) InAtomic f _ bound o.1 in
    let before : take f bounds ≡ earlier = ap (take f) is ∙ take_at earlier (bound ∷ rest) f refl in
    record {
      structured = record { nests = n.0; jumps = j.0; slots = s.0; atomics = a.0 };
      ordered = o.0;
      bound = ap (λ bs. slice_get bs f) is ∙ append_get earlier bound rest
          ∙ ap Some (sym (checked f earlier function bound e).1 ∙ ap (λ bs. bound_of bs function.code) (sym before));
    }

-- ---- each function of a module

-- the bounds begin with those so far
begin_with : (fs : List Function) (earlier bounds : List ℕ) → bounds_from earlier fs ≡ Ok bounds → (rest : List ℕ) × (bounds ≡ earlier ++ rest)
begin_with [] earlier bounds e = let is : bounds ≡ earlier = cc in ([], is ∙ sym (append-nil earlier))
begin_with (g ∷ fs) earlier bounds e =
    let w = with_ok earlier (checked_bound (length earlier) earlier g) (λ bs. bounds_from bs fs) bounds e in
    let r = begin_with fs (earlier ++ w.0 ∷ []) bounds w.2 in
    (w.0 ∷ r.0, r.1 ∙ append_assoc earlier (w.0 ∷ []) r.0)

each : (fs : List Function) (earlier bounds : List ℕ) (i : ℕ) (function : Function) → bounds_from earlier fs ≡ Ok bounds
    → slice_get fs i ≡ Some function → HasBound bounds (length earlier + i) function
each [] earlier bounds i function e at = absurd cc
each (g ∷ fs) earlier bounds zero function e at =
    let w = with_ok earlier (checked_bound (length earlier) earlier g) (λ bs. bounds_from bs fs) bounds e in
    let r = begin_with fs (earlier ++ w.0 ∷ []) bounds w.2 in
    let n : length earlier ≡ length earlier + 0 = omega arith in
    let same : g ≡ function = cc in
    subst (λ k. HasBound bounds k function) n (subst (λ (h : Function). HasBound bounds (length earlier) h) same
    (has_bound earlier r.0 bounds g w.0 (r.1 ∙ append_assoc earlier (w.0 ∷ []) r.0) w.1))
each (g ∷ fs) earlier bounds (suc i) function e at =
    let w = with_ok earlier (checked_bound (length earlier) earlier g) (λ bs. bounds_from bs fs) bounds e in
    let n : length (earlier ++ w.0 ∷ []) + i ≡ length earlier + suc i = omega (arith, length-append earlier (w.0 ∷ [])) in
    subst (λ k. HasBound bounds k function) n (each fs (earlier ++ w.0 ∷ []) bounds i function w.2 at)

pub bound_each : (m : Module) (bounds : List ℕ) (f : ℕ) (function : Function) → bounds_of m ≡ Ok bounds → function_at m f ≡ Some function
    → HasBound bounds f function
bound_each m bounds f function e at = let n : 0 + f ≡ f = omega arith in
    subst (λ k. HasBound bounds k function) n (each m.functions [] bounds f function e at)

-- the potential of each function falls
pub falls : (m : Module) (bounds : List ℕ) (f : ℕ) (function : Function) → bounds_of m ≡ Ok bounds → function_at m f ≡ Some function
    → PotentialFalls function.loops (take f bounds) (code_at m f)
falls m bounds f function e at = subst (λ o. PotentialFalls function.loops (take f bounds) (code_in o)) (sym at)
    (structured_falls function.loops (take f bounds) function.code (bound_each m bounds f function e at).structured)

-- ---- calls

index_before : (xs : List ℕ) (n i x : ℕ) → i < n → slice_get xs i ≡ Some x → slice_index (take n xs) i ≡ x
index_before [] n i x lt e = absurd cc
index_before (y ∷ ys) zero i x lt e = absurd (omega (arith, lt))
index_before (y ∷ ys) (suc n) zero x lt e = cc
index_before (y ∷ ys) (suc n) (suc i) x lt e = index_before ys n i x (omega (arith, lt)) e

pub index_is : (xs : List ℕ) (i x : ℕ) → slice_get xs i ≡ Some x → slice_index xs i ≡ x
index_is [] i x e = absurd cc
index_is (y ∷ ys) zero x e = cc
index_is (y ∷ ys) (suc i) x e = index_is ys i x e

-- the bound of a function is what it can take from its first instruction on
pub entry_left : (m : Module) (bounds : List ℕ) (f : ℕ) (function : Function) (slots : ℕ → ℕ) → bounds_of m ≡ Ok bounds
    → function_at m f ≡ Some function → potential (take f bounds) (code_at m f) 0 slots ≡ slice_index bounds f
entry_left m bounds f function slots e at =
    (falls m bounds f function e at).begins slots ∙ ap (λ o. bound_of (take f bounds) (code_in o)) at
    ∙ sym (index_is bounds f _ (bound_each m bounds f function e at).bound)

-- a call costs one step and the bound of the function that it calls
pub call_costs : (m : Module) (bounds : List ℕ) (f pc : ℕ) (function callee : Function) (i : Instr) → bounds_of m ≡ Ok bounds
    → function_at m f ≡ Some function → slice_get function.code pc ≡ Some i → is_call i.op ≡ true → function_at m i.x ≡ Some callee
    → cost (take f bounds) i ≡ 1 + slice_index bounds i.x
call_costs m bounds f pc function callee i e at is-instr is callee-is =
    let earlier : calls_earlier f i ≡ true = none_fails (λ n j. calls_earlier f j) function.code pc i
    (bound_each m bounds f function e at).ordered is-instr in
    let lt : i.x < f = ltb-true i.x f (ap (λ b. if b then nat_lt i.x f else true) (sym is) ∙ earlier) in
    let bound = (bound_each m bounds i.x callee e callee-is).bound in
    ap (λ b. if b then 1 + slice_index (take f bounds) i.x else 1) is
    ∙ ap (λ n. 1 + n) (index_before bounds f i.x _ lt bound ∙ sym (index_is bounds i.x _ bound))
