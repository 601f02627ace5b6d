-- Rows of kinds as functions of registers.
use Rattle.std.proofs.Common.{◌≡◌, ℕ, zero, suc, ◌<◌, List, [], ◌∷◌, length, set, Option, Some, None, refl, sym, ap, subst, ◌∙◌, inl, inr, arith}
use Rattle.x10_kinds.specs.declared.kind.Kind.{Kind}
use Rattle.x10_kinds.specs.declared.homes.Term.{Term}
use Rattle.x10_kinds.specs.declared.homes.Homes.{Homes}
use Rattle.x10_kinds.specs.Equations.{SameEquations, equations, written}
use Rattle.x10_model.specs.Maps.{with_entry}
use Rattle.x10_model.specs.Assignments.{set as set_kind}
use Rattle.x10_verify.specs.Known.{kind_coded, kind_in, state_of}
use Rattle.x10_verify.specs.Knowledge.{SameState}
use Rattle.x10_verify.specs.Merging.{parted}
use Rattle.x10_verify.proofs.Below.{entry_cases}

set_here : (xs : List ℕ) (i x : ℕ) → i < length xs → kind_in (set xs i x) i ≡ kind_coded x
set_here [] i x lt = absurd (omega arith)
set_here (y ∷ ys) zero x lt = refl
set_here (y ∷ ys) (suc i) x lt = set_here ys i x (omega arith)

set_elsewhere : (xs : List ℕ) (i j x : ℕ) → (j ≡ i → ⊥) → kind_in (set xs i x) j ≡ kind_in xs j
set_elsewhere [] i j x ne = refl
set_elsewhere (y ∷ ys) zero zero x ne = absurd (ne refl)
set_elsewhere (y ∷ ys) zero (suc j) x ne = refl
set_elsewhere (y ∷ ys) (suc i) zero x ne = refl
set_elsewhere (y ∷ ys) (suc i) (suc j) x ne = set_elsewhere ys i j x (λ e. ne (ap suc e))

pub kind_in-set : (xs : List ℕ) (i n : ℕ) (x : Option Kind) → kind_coded n ≡ x → i < length xs → (j : ℕ)
    → kind_in (set xs i n) j ≡ with_entry (kind_in xs) i x j
kind_in-set xs i n x is lt j = elim (entry_cases (Option Kind) i j) [
  | inl at ↦ subst (λ q. kind_in (set xs i n) q ≡ x) (sym at.0) (set_here xs i n lt ∙ is) ∙ sym (at.1 (kind_in xs) x)
  | inr off ↦ set_elsewhere xs i j n off.0 ∙ sym (off.1 (kind_in xs) x)
]

pub same_set : (kinds : List ℕ) (homes after : Homes) (r n : ℕ) (k : Kind) (like : Option Term) → kind_coded n ≡ Some k → r < length kinds
    → SameEquations (equations after) (written (equations homes) r like)
    → SameState (state_of (record { kinds = set kinds r n; homes = after })) (set_kind (state_of (record { kinds = kinds; homes = homes })) r k like)
same_set kinds homes after r n k like is lt same = record { kinds = kind_in-set kinds r n (Some k) is lt; homes = same }

pub same_parted : (kinds : List ℕ) (homes after : Homes) (r n : ℕ) (k : Option Kind) → kind_coded n ≡ k → r < length kinds
    → SameEquations (equations after) (written (equations homes) r None)
    → SameState (state_of (record { kinds = set kinds r n; homes = after })) (parted (state_of (record { kinds = kinds; homes = homes })) r k)
same_parted kinds homes after r n k is lt same = record { kinds = kind_in-set kinds r n k is lt; homes = same }
