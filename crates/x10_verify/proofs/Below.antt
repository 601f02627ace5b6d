-- The order of states, and maps that were changed at one number.
use Rattle.std.proofs.Common.{◌≡◌, ◌⊎◌, ℕ, Bool, true, false, ◌==◌, refl, sym, ◌∙◌, inl, inr}
use Rattle.std.proofs.lemmas.Bool.{eqb-true, eq-eqb}
use Rattle.x10_kinds.specs.declared.kind.Kind.{Kind}
use Rattle.x10_kinds.proofs.KindLemmas.{Fits-refl, Fits-trans}
use Rattle.x10_model.specs.Maps.{with_entry}
use Rattle.x10_model.specs.Assignments.{State, IsKind, IsBelow}
use Rattle.x10_verify.specs.Knowledge.{SameState}

-- ---- what a state knows

pub IsKind-down : (s t : State) (r : ℕ) (want : Kind) → IsBelow s t → IsKind t r want → IsKind s r want
IsKind-down s t r want below k =
    let h = below.kinds r k.0 k.1 in
    (h.0, h.1, Fits-trans h.0 k.0 want h.2 k.2)

pub IsBelow-refl : (s : State) → IsBelow s s
IsBelow-refl s = record { kinds = λ r want e. (want, e, Fits-refl want); homes = λ v w tv tw h. h }

pub IsBelow-trans : (s t u : State) → IsBelow s t → IsBelow t u → IsBelow s u
IsBelow-trans s t u a b = record {
  kinds = λ r want e. IsKind-down s t r want a (b.kinds r want e);
  homes = λ v w tv tw h. a.homes v w tv tw (b.homes v w tv tw h);
}

pub SameState-below : (s t : State) → SameState s t → IsBelow s t
SameState-below s t same = record { kinds = λ r want e. (want, same.kinds r ∙ e, Fits-refl want); homes = λ v w tv tw h. same.homes v w tv tw ∙ h }

pub SameState-sym : (s t : State) → SameState s t → SameState t s
SameState-sym s t same = record { kinds = λ r. sym (same.kinds r); homes = λ v w tv tw. sym (same.homes v w tv tw) }

-- ---- writing a register

-- an entry of maps that were changed at one number: the new value there, and elsewhere what it was
abbrev pub AtKey : (V : Type 0) → ℕ → ℕ → Type 0
AtKey V key other = (other ≡ key) × ((map : ℕ → V) (value : V) → with_entry map key value other ≡ value)

abbrev pub OffKey : (V : Type 0) → ℕ → ℕ → Type 0
OffKey V key other = (other ≡ key → ⊥) × ((map : ℕ → V) (value : V) → with_entry map key value other ≡ map other)

entry_chosen : (V : Type 0) (key other : ℕ) (b : Bool) → (other == key) ≡ b → AtKey V key other ⊎ OffKey V key other
entry_chosen V key other true e = inl (eqb-true other key e, λ map value. rw e refl)
entry_chosen V key other false e = inr ((λ same. absurd (let f = eq-eqb other key same in cc)), λ map value. rw e refl)

pub entry_cases : (V : Type 0) (key other : ℕ) → AtKey V key other ⊎ OffKey V key other
entry_cases V key other = entry_chosen V key other (other == key) refl
