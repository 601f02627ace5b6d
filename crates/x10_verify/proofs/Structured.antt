-- What the bounds of a module say of each function: the last instruction ends it, and its bound is that of its code.
use Rattle.std.proofs.Common.{◌≡◌, ◌⊎◌, ℕ, zero, suc, ◌+◌, ◌-◌, ◌<◌, ◌≤◌, ◌^◌, Bool, true, false, cond, List, [], ◌∷◌, ◌++◌, length, Option, Some, None, Ok, Err, refl, sym, subst, inl, inr, arith, length-append}
use Rattle.std.specs.Prelude.{slice_get, nat_le}
use Rattle.std.proofs.lemmas.Bool.{cases_lt, and_parts}
use Rattle.x10_code.specs.declared.op.Op.{Op}
use Rattle.x10_code.specs.declared.op.Op.TheVariants as op
use Rattle.x10_code.specs.declared.instr.Instr.{Instr}
use Rattle.x10_model.specs.Modules.{Module, Function}
use Rattle.x10_model.specs.Structure.{BoundFault, Nesting, Jump, LoopSlot, CallOrder, InAtomic, around, bound_of, first_failing, nests, is_ret, is_last_ret, is_empty, ends_well, or_else, nesting_fault, jump_fault, slot_fault, order_fault, atomic_fault, checked_bound, bounds_from, bounds_of}
use Rattle.x10_model.proofs.Bounds.{unless_ok, with_ok}
use Rattle.x10_model.proofs.Lists.{append_front, append_get}
use Rattle.std.proofs.lemmas.Option.{same_Some, slice_get_within}

-- ---- no fault

small_ok : (b : Bool) (n x : ℕ) (fault : BoundFault) → cond b (Ok n) (Err fault) ≡ Ok x → n ≡ x
small_ok true n x fault e = cc
small_ok false n x fault e = absurd cc

-- a function that has a bound has the structure, and the bound is that of its code
pub checked : (function : ℕ) (earlier : List ℕ) (f : Function) (bound : ℕ) → checked_bound function earlier f ≡ Ok bound
    → (nesting_fault f.code ≡ None) × (bound_of earlier f.code ≡ bound)
checked function earlier f bound e =
    let n = unless_ok (nesting_fault f.code) Nesting function _ bound e in
    let j = unless_ok (jump_fault f.code) Jump function _ bound n.1 in
    let s = unless_ok (slot_fault f.loops f.code) LoopSlot function _ bound j.1 in
    let o = unless_ok (order_fault function f.code) CallOrder function _ bound s.1 in
    let a = unless_ok (atomic_fault f.code) InAtomic function _ bound o.1 in
    (n.0, small_ok (nat_le (bound_of earlier f.code) (2 ^ 48)) (bound_of earlier f.code) bound _ a.1)

-- ---- each function of a module

-- a function with its bound, after those before it
abbrev pub HasBound : Function → ℕ → Type 0
HasBound f bound = (earlier : List ℕ) × (nesting_fault f.code ≡ None) × (bound_of earlier f.code ≡ bound)

-- the bounds so far stay where they are
kept : (fs : List Function) (earlier bounds : List ℕ) (i x : ℕ) → bounds_from earlier fs ≡ Ok bounds → slice_get earlier i ≡ Some x
    → slice_get bounds i ≡ Some x
kept [] earlier bounds i x e g = subst (λ (bs : List ℕ). slice_get bs i ≡ Some x) (ok_is earlier bounds e) g
  where
    ok_is : (a b : List ℕ) → bounds_from a [] ≡ Ok b → a ≡ b
    ok_is a b h = cc
kept (f ∷ fs) earlier bounds i x e g =
    let w = with_ok earlier (checked_bound (length earlier) earlier f) (λ bs. bounds_from bs fs) bounds e in
    kept fs (earlier ++ w.0 ∷ []) bounds i x w.2 (append_front earlier (w.0 ∷ []) i x g)

each : (fs : List Function) (earlier bounds : List ℕ) (i : ℕ) (f : Function) → bounds_from earlier fs ≡ Ok bounds → slice_get fs i ≡ Some f
    → (bound : ℕ) × (slice_get bounds (length earlier + i) ≡ Some bound) × HasBound f bound
each [] earlier bounds i f e g = absurd cc
each (h ∷ fs) earlier bounds zero f e g =
    let w = with_ok earlier (checked_bound (length earlier) earlier h) (λ bs. bounds_from bs fs) bounds e in
    let c = checked (length earlier) earlier h w.0 w.1 in
    let here : slice_get bounds (length earlier) ≡ Some w.0 = kept fs (earlier ++ w.0 ∷ []) bounds (length earlier) w.0 w.2
    (append_get earlier w.0 []) in
    let at : length earlier + 0 ≡ length earlier = omega arith in
    (w.0, subst (λ n. slice_get bounds n ≡ Some w.0) (sym at) here, subst (λ (k : Function). HasBound k w.0) (same_Some h f g) (earlier, c.0, c.1))
each (h ∷ fs) earlier bounds (suc i) f e g =
    let w = with_ok earlier (checked_bound (length earlier) earlier h) (λ bs. bounds_from bs fs) bounds e in
    let r = each fs (earlier ++ w.0 ∷ []) bounds i f w.2 g in
    let at : length (earlier ++ w.0 ∷ []) + i ≡ length earlier + suc i = omega (arith, length-append earlier (w.0 ∷ [])) in
    (r.0, subst (λ n. slice_get bounds n ≡ Some r.0) at r.1, r.2)

-- each function of a module with bounds has its own
pub bounds_each : (m : Module) (bounds : List ℕ) (i : ℕ) (f : Function) → bounds_of m ≡ Ok bounds → slice_get m.functions i ≡ Some f
    → (bound : ℕ) × (slice_get bounds i ≡ Some bound) × HasBound f bound
bounds_each m bounds i f e g =
    let r = each m.functions [] bounds i f e g in
    let at : 0 + i ≡ i = omega arith in
    (r.0, subst (λ n. slice_get bounds n ≡ Some r.0) at r.1, r.2)

-- ---- the end of a function

or_none : (o p : Option ℕ) → or_else o p ≡ None → (o ≡ None) × (p ≡ None)
or_none None p e = (refl, e)
or_none (Some n) p e = absurd cc

ends : (code : List Instr) → nesting_fault code ≡ None → ends_well code ≡ true
ends code e = chosen (ends_well code) (length code - 1) (or_none (first_failing (λ pc i. nests i.op (around code pc)) 0 code)
    (cond (ends_well code) None (Some (length code - 1))) e).1
  where
    chosen : (b : Bool) (n : ℕ) → cond b None (Some n) ≡ None → b ≡ true
    chosen true n h = refl
    chosen false n h = absurd cc

ret_is : (o : Op) → is_ret o ≡ true → o ≡ op.Ret
ret_is op.Ret e = refl
ret_is _ e = absurd cc

last_is_ret : (o : Option Instr) (i : Instr) → is_last_ret o ≡ true → o ≡ Some i → i.op ≡ op.Ret
last_is_ret o i e f = ret_is i.op (subst (λ x. is_last_ret x ≡ true) f e)

-- an instruction that doesn't end its function has one after it
pub has_next : (code : List Instr) (pc : ℕ) (i : Instr) → nesting_fault code ≡ None → slice_get code pc ≡ Some i → (i.op ≡ op.Ret → ⊥)
    → pc + 1 < length code
has_next code pc i e g not-ret = next (cases_lt (pc + 1) (length code))
  where
    lt : pc < length code
    lt = slice_get_within code pc i g

    next : ((pc + 1) < length code) ⊎ (length code ≤ pc + 1) → pc + 1 < length code
    next (inl h) = h
    next (inr h) =
        let at : length code - 1 ≡ pc = omega (arith, lt, h) in
        absurd (not-ret (last_is_ret (slice_get code (length code - 1)) i
        (and_parts (is_empty (around code (length code))) (is_last_ret (slice_get code (length code - 1))) (ends code e)).1
        (subst (λ n. slice_get code n ≡ Some i) (sym at) g)))
