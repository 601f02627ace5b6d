-- Numbers: what the methods of 64-bit numbers give is what the machine's definitions give.
use Rattle.std.proofs.Common.{◌≡◌, ℕ, zero, suc, ◌<◌, ◌≤◌, ◌^◌, Bool, true, false, List, Some, None, refl, sym, ap, ap₂, subst, ◌∙◌, arith}
use Rattle.std.specs.Prelude.{ℤ, pos, negsuc, ◌+ℤ◌, ◌-ℤ◌, int_div, neg_ℤ, FitsSigned, ◌/◌, if◌then◌else◌}
use Rattle.std.specs.Int.{w64, cast_signed, cast_unsigned, int_wrap, int_wrapping_add, int_wrapping_sub, int_wrapping_div}
use Rattle.std.proofs.Math.Nat.{mod-eq_of_lt, div-le_self}
use Rattle.std.proofs.lemmas.Bool.Decides.{Decides-int_eq}
use Rattle.std.proofs.lemmas.Int.{to_z-of_z, int_wrap_fits, wrapping_add_is, wrapping_sub_is}
use Rattle.x10_code.specs.declared.instr.Instr.{Instr}
use Rattle.x10_model.specs.Modules.{Module}
use Rattle.x10_model.specs.Values.{Int}
use Rattle.x10_place.specs.declared.route.Number.{Number}
use Rattle.x10_place.specs.declared.route.Number.TheVariants as number
use Rattle.x10_heap.specs.Heaps.{HeapState}
use Rattle.x10_place.specs.Frames.{int_at, given}
use Rattle.x10_model.specs.Results.{is_zero, quotient, wrapped}

-- a number that isn't negative
wraps_pos : (n : ℕ) → n < 2 ^ 64 → cast_signed w64 n ≡ int_wrap w64 (pos n)
unfolding int_wrap
wraps_pos n lt = ap (cast_signed w64) (sym (mod-eq_of_lt lt))

wraps_fits : (z : ℤ) → FitsSigned w64 z → cast_signed w64 (cast_unsigned w64 z) ≡ int_wrap w64 z
wraps_fits z f = to_z-of_z w64 z f ∙ sym (int_wrap_fits w64 z f)

neg_fits : (n : ℕ) → n ≤ 2 ^ 63 → FitsSigned w64 (neg_ℤ (pos n))
neg_fits zero le = record { sfits = omega arith }
neg_fits (suc n) le = record { sfits = omega (arith, le) }

-- a quotient wraps for the least number by -1 alone
div_wraps : (x y : ℤ) → FitsSigned w64 x → FitsSigned w64 y → int_wrapping_div w64 x y ≡ int_wrap w64 (int_div x y)
div_wraps (pos a) (pos b) fx fy = wraps_fits (pos (a / b)) (record { sfits = omega (arith, fx.sfits, div-le_self a b) })
div_wraps (pos a) (negsuc b) fx fy = wraps_fits (neg_ℤ (pos (a / suc b))) (neg_fits (a / suc b) (omega (arith, fx.sfits, div-le_self a (suc b))))
div_wraps (negsuc a) (pos b) fx fy = wraps_fits (neg_ℤ (pos (suc a / b))) (neg_fits (suc a / b) (omega (arith, fx.sfits, div-le_self (suc a) b)))
div_wraps (negsuc a) (negsuc b) fx fy = wraps_pos (suc a / suc b) (omega (arith, fx.sfits, div-le_self (suc a) (suc b)))

-- ---- the operations

not_zero : (y : ℤ) (b : Bool) → is_zero y ≡ b → (y ≡ pos 0 → ⊥) → is_zero y ≡ false
not_zero y false e ne = e
not_zero y true e ne = absurd (ne ((Decides-int_eq y (pos 0)).0 e))

pub quotient_is : (x y : ℤ) (z : ℤ) → FitsSigned w64 x → FitsSigned w64 y → FitsSigned w64 z → (cast_unsigned w64 y ≡ 0 → ⊥)
    → z ≡ int_wrapping_div w64 (cast_signed w64 (cast_unsigned w64 x)) (cast_signed w64 (cast_unsigned w64 y))
    → Some (Int (cast_signed w64 (cast_unsigned w64 z))) ≡ quotient x y
quotient_is x y z fx fy fz ne e =
    let z-is : cast_signed w64 (cast_unsigned w64 z) ≡ int_wrap w64 (int_div x y) =
    to_z-of_z w64 z fz ∙ e ∙ ap₂ (λ m n. int_wrapping_div w64 m n) (to_z-of_z w64 x fx) (to_z-of_z w64 y fy) ∙ div_wraps x y fx fy in
    ap (λ v. Some (Int v)) z-is ∙ ap (λ b. if b then None else Some (wrapped (int_div x y)))
    (sym (not_zero y (is_zero y) refl (λ same. ne (ap (cast_unsigned w64) same))))

pub sum_is : (program : Module) (heap : HeapState) (words : List ℕ) (i : Instr) (n : Number) (x y : ℤ) → FitsSigned w64 x → FitsSigned w64 y
    → n ≡ number.Sum → x ≡ int_at words i.b → y ≡ int_at words i.c → Some (Int (int_wrapping_add w64 x y)) ≡ given n program heap words i
sum_is program heap words i n x y fx fy e ex ey =
    subst (λ o. Some (Int (int_wrapping_add w64 x y)) ≡ given o program heap words i) (sym e)
    (ap (λ z. Some (Int z)) (wrapping_add_is w64 x y fx fy ∙ ap₂ (λ m n. int_wrap w64 (m +ℤ n)) ex ey))

pub difference_is : (program : Module) (heap : HeapState) (words : List ℕ) (i : Instr) (n : Number) (x y : ℤ) → FitsSigned w64 x → FitsSigned w64 y
    → n ≡ number.Difference → x ≡ int_at words i.b → y ≡ int_at words i.c → Some (Int (int_wrapping_sub w64 x y)) ≡ given n program heap words i
difference_is program heap words i n x y fx fy e ex ey =
    subst (λ o. Some (Int (int_wrapping_sub w64 x y)) ≡ given o program heap words i) (sym e)
    (ap (λ z. Some (Int z)) (wrapping_sub_is w64 x y fx fy ∙ ap₂ (λ m n. int_wrap w64 (m -ℤ n)) ex ey))
