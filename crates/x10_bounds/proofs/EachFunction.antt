-- What the bounds of a module say of each of its functions.
use Rattle.std.proofs.Common.{◌≡◌, ℕ, zero, suc, List, [], ◌∷◌, ◌++◌, length, Some, Ok, subst}
use Rattle.std.specs.Prelude.{slice_get}
use Rattle.x10_model.specs.Modules.{Module, Function}
use Rattle.x10_model.specs.Ranges.{function_at}
use Rattle.x10_model.specs.Structure.{Nesting, Jump, LoopSlot, CallOrder, InAtomic, nesting_fault, jump_fault, slot_fault, order_fault, atomic_fault, checked_bound, bounds_from, bounds_of}
use Rattle.x10_bounds.specs.Potential.{IsStructured}
use Rattle.x10_bounds.specs.OpenFinishes.{FinishesMatch}
use Rattle.x10_bounds.specs.AtomicRegions.{RegionsMatch}
use Rattle.x10_bounds.proofs.OpenFinishes.{structured_matches}
use Rattle.x10_bounds.proofs.AtomicRegions.{structured_keeps}
use Rattle.x10_model.proofs.Bounds.{unless_ok, with_ok}

checked_structured : (f bound : ℕ) (earlier : List ℕ) (function : Function) → checked_bound f earlier function ≡ Ok bound
    → IsStructured function.loops function.code
checked_structured f bound earlier function e =
    let n = unless_ok (nesting_fault function.code) Nesting f _ bound e in
    let j = unless_ok (jump_fault function.code) Jump f _ bound n.1 in
    let s = unless_ok (slot_fault function.loops function.code) LoopSlot f _ bound j.1 in
    let o = unless_ok (order_fault f function.code) CallOrder f _ bound s.1 in
    let a = unless_ok (atomic_fault function.code) InAtomic f _ bound o.1 in
    record { nests = n.0; jumps = j.0; slots = s.0; atomics = a.0 }

each : (fs : List Function) (earlier bounds : List ℕ) (i : ℕ) (function : Function) → bounds_from earlier fs ≡ Ok bounds
    → slice_get fs i ≡ Some function → IsStructured function.loops function.code
each [] earlier bounds i function e at = absurd cc
each (g ∷ fs) earlier bounds zero function e at =
    let w = with_ok earlier (checked_bound (length earlier) earlier g) (λ bs. bounds_from bs fs) bounds e in
    let same : g ≡ function = cc in
    subst (λ (h : Function). IsStructured h.loops h.code) same (checked_structured (length earlier) w.0 earlier g w.1)
each (g ∷ fs) earlier bounds (suc i) function e at =
    let w = with_ok earlier (checked_bound (length earlier) earlier g) (λ bs. bounds_from bs fs) bounds e in
    each fs (earlier ++ w.0 ∷ []) bounds i function w.2 at

-- where a module has bounds, each function's structure holds
pub function_structured : (m : Module) (bounds : List ℕ) (f : ℕ) (function : Function) → bounds_of m ≡ Ok bounds → function_at m f ≡ Some function
    → IsStructured function.loops function.code
function_structured m bounds f function e at = each m.functions [] bounds f function e at

-- and its instructions stand in as many finishes as are open
pub function_matches : (m : Module) (bounds : List ℕ) (f : ℕ) (function : Function) → bounds_of m ≡ Ok bounds → function_at m f ≡ Some function
    → FinishesMatch function.code
function_matches m bounds f function e at = structured_matches function.loops function.code (function_structured m bounds f function e at)

-- and those stand in an atomic region that its ATOMB leads to
pub function_keeps : (m : Module) (bounds : List ℕ) (f : ℕ) (function : Function) → bounds_of m ≡ Ok bounds → function_at m f ≡ Some function
    → RegionsMatch function.code
function_keeps m bounds f function e at = structured_keeps function.loops function.code (function_structured m bounds f function e at)
