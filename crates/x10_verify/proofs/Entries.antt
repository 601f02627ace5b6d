-- The state at the entry of a function, as it is built.
use Rattle.std.proofs.Common.{◌≡◌, ℕ, zero, suc, ◌+◌, ◌<◌, ◌≤◌, Bool, true, false, cond, List, [], ◌∷◌, length, set, replicate, drop, Option, Some, None, refl, sym, ap, subst, ◌∙◌, inl, inr, arith}
use Rattle.std.specs.Prelude.{slice_get}
use Rattle.std.proofs.lemmas.Bool.{cases_lt}
use Rattle.std.proofs.Math.ListN.{length-set}
use Rattle.x10_kinds.specs.declared.kind.Kind.{Kind}
use Rattle.x10_kinds.specs.declared.kind.Kind.TheVariants as kind
use Rattle.x10_kinds.specs.declared.homes.Term.{Term}
use Rattle.x10_kinds.specs.declared.homes.Term.TheVariants as term
use Rattle.x10_kinds.specs.declared.homes.Homes.{Homes}
use Rattle.x10_kinds.specs.Kinds.{has_place}
use Rattle.x10_kinds.specs.Equations.{Equations, IsTerm, SameEquations, alone, joined, equations}
use Rattle.x10_kinds.proofs.Equivalences.{equations_is, ways}
use Rattle.x10_kinds.proofs.Terms.{same_term-is}
use Rattle.x10_model.specs.declared.slot.Slot.{Slot}
use Rattle.x10_model.specs.Modules.{takes_flag}
use Rattle.x10_model.specs.Maps.{with_entry}
use Rattle.x10_model.specs.Assignments.{IsState, holds_place, parameter_kind, homes_here}
use Rattle.x10_verify.specs.declared.known.Known.{Known}
use Rattle.x10_verify.specs.Known.{kind_coded, kind_in, state_of, entered, FlagsFit}
use Rattle.x10_verify.specs.Knowledge.{SameState}
use Rattle.x10_verify.proofs.Below.{entry_cases}
use Rattle.x10_verify.proofs.Rows.{kind_in-set}
use Rattle.std.proofs.lemmas.Option.{same_Some, slice_get_past}

-- ---- kinds

pub none_in : (n r : ℕ) → kind_in (replicate n 0) r ≡ None
unfolding kind_coded
none_in zero r = refl
none_in (suc n) zero = refl
none_in (suc n) (suc r) = none_in n r

-- the kinds so far
pub record KindsTo (slots : List Slot) (kinds : List ℕ) (i : ℕ) : Type 0 where
  pub size : length kinds ≡ 64
  pub set : (r : ℕ) → r < i → kind_in kinds r ≡ parameter_kind (slice_get slots r)
  pub unset : (r : ℕ) → i ≤ r → kind_in kinds r ≡ None

pub kinds_begin : (slots : List Slot) (kinds : List ℕ) → length kinds ≡ 64 → ((r : ℕ) → kind_in kinds r ≡ None) → KindsTo slots kinds 0
kinds_begin slots kinds size none = record { size = size; set = λ r lt. absurd (omega arith); unset = λ r le. none r }

kind_of_slot : (slots : List Slot) (i : ℕ) (slot : Slot) → slice_get slots i ≡ Some slot → parameter_kind (slice_get slots i) ≡ Some slot.kind
kind_of_slot slots i slot e = ap parameter_kind e

pub kinds_go_on : (slots : List Slot) (kinds : List ℕ) (i n : ℕ) (slot : Slot) → KindsTo slots kinds i → i < 64 → slice_get slots i ≡ Some slot
    → kind_coded n ≡ Some slot.kind
    → KindsTo slots (set kinds i n) (i + 1)
kinds_go_on slots kinds i n slot h lt e coded = record { size = simp length-set h.size; set = set_all; unset = unset_all }
  where
    is : (r : ℕ) → kind_in (set kinds i n) r ≡ with_entry (kind_in kinds) i (Some slot.kind) r
    is r = kind_in-set kinds i n (Some slot.kind) coded (omega (arith, h.size)) r

    set_all : (r : ℕ) → r < i + 1 → kind_in (set kinds i n) r ≡ parameter_kind (slice_get slots r)
    set_all r less = elim (entry_cases (Option Kind) i r) [
      | inl at ↦ is r ∙ at.1 (kind_in kinds) (Some slot.kind) ∙ sym (ap parameter_kind (subst (λ q. slice_get slots q ≡ Some slot) (sym at.0) e))
      | inr off ↦ is r ∙ off.1 (kind_in kinds) (Some slot.kind) ∙ h.set r (below r (off.0) less)
    ]
      where
        below : (r : ℕ) → (r ≡ i → ⊥) → r < i + 1 → r < i
        below r ne l = elim (cases_lt r i) [ inl y ↦ y | inr n ↦ absurd (ne (omega arith)) ]

    unset_all : (r : ℕ) → i + 1 ≤ r → kind_in (set kinds i n) r ≡ None
    unset_all r le = elim (entry_cases (Option Kind) i r) [
      | inl at ↦ (let z = at.0 in absurd (omega arith))
      | inr off ↦ is r ∙ off.1 (kind_in kinds) (Some slot.kind) ∙ h.unset r (omega arith)
    ]

pub kinds_done : (slots : List Slot) (kinds : List ℕ) (i : ℕ) → KindsTo slots kinds i → length slots ≤ i → (r : ℕ)
    → kind_in kinds r ≡ parameter_kind (slice_get slots r)
kinds_done slots kinds i h le r = elim (cases_lt r i) [
  | inl lt ↦ h.set r lt
  | inr ge ↦ h.unset r ge
      ∙ sym (ap parameter_kind (slice_get_past slots r (omega arith)))
]

-- ---- homes

drop_at : (slots : List Slot) (i : ℕ) (slot : Slot) → slice_get slots i ≡ Some slot → drop i slots ≡ slot ∷ drop (suc i) slots
drop_at [] i slot e = absurd cc
drop_at (s ∷ ss) zero slot e = ap (λ x. x ∷ ss) (same_Some s slot e)
drop_at (s ∷ ss) (suc i) slot e = drop_at ss i slot e

all_dropped : (slots : List Slot) → drop (length slots) slots ≡ []
all_dropped [] = refl
all_dropped (s ∷ ss) = all_dropped ss

pub homes_end : (slots : List Slot) (from : ℕ) (homes : Homes) → from ≡ length slots → SameEquations (equations homes) alone
    → SameEquations (equations homes) (homes_here from (drop from slots))
homes_end slots from homes e same = subst (λ (rest : List Slot). SameEquations (equations homes) (homes_here from rest))
    (sym (ap (λ n. drop n slots) e ∙ all_dropped slots)) same

-- one parameter more in front
front : (slots : List Slot) (from : ℕ) (slot : Slot) (r : Equations) → slice_get slots from ≡ Some slot
    → SameEquations r (homes_here from (slot ∷ drop (suc from) slots)) → SameEquations r (homes_here from (drop from slots))
front slots from slot r e same = subst (λ (rest : List Slot). SameEquations r (homes_here from rest)) (sym (drop_at slots from slot e)) same

joined_same : (r s : Equations) (t u : Term) → IsTerm t → IsTerm u → SameEquations r s → SameEquations (joined r t u) (joined s t u)
joined_same r s t u tt' ut same v w tv tw =
    rw (same v w tv tw, same v t tv tt', same u w ut tw, same v u tv ut, same t w tt' tw) refl

pub homes_flagged : (slots : List Slot) (from : ℕ) (slot : Slot) (rest after : Homes) → slice_get slots from ≡ Some slot → slot.home_here ≡ true
    → from < 64 → SameEquations (equations rest) (homes_here (from + 1) (drop (from + 1) slots))
    → SameEquations (equations after) (joined (equations rest) (term.Reg from) term.Here)
    → SameEquations (equations after) (homes_here from (drop from slots))
homes_flagged slots from slot rest after e flag lt same join = front slots from slot (equations after) e flagged
  where
    flagged : SameEquations (equations after) (cond slot.home_here (joined (homes_here (from + 1) (drop (suc from) slots)) (term.Reg from) term.Here)
        (homes_here (from + 1) (drop (suc from) slots)))
    flagged v w tv tw = rw flag (join v w tv tw ∙ joined_same (equations rest) (homes_here (from + 1) (drop (suc from) slots))
        (term.Reg from) term.Here lt tt (subst (λ n. SameEquations (equations rest) (homes_here (from + 1) (drop n slots))) one same) v w tv tw)
      where
        one : from + 1 ≡ suc from
        one = omega arith

pub homes_plain : (slots : List Slot) (from : ℕ) (slot : Slot) (rest : Homes) → slice_get slots from ≡ Some slot → slot.home_here ≡ false
    → SameEquations (equations rest) (homes_here (from + 1) (drop (from + 1) slots))
    → SameEquations (equations rest) (homes_here from (drop from slots))
homes_plain slots from slot rest e flag same = front slots from slot (equations rest) e plain
  where
    plain : SameEquations (equations rest) (cond slot.home_here (joined (homes_here (from + 1) (drop (suc from) slots)) (term.Reg from) term.Here)
        (homes_here (from + 1) (drop (suc from) slots)))
    plain v w tv tw = rw flag (subst (λ n. SameEquations (equations rest) (homes_here (from + 1) (drop n slots))) one same v w tv tw)
      where
        one : from + 1 ≡ suc from
        one = omega arith

-- ---- validity

-- register q is none of the parameters from register r on that ask for a home
abbrev pub IsUnflagged : ℕ → ℕ → List Slot → Type 0
IsUnflagged q r slots = (i : ℕ) (slot : Slot) → slice_get slots i ≡ Some slot → slot.home_here ≡ true → r + i ≡ q → ⊥

later : (q r : ℕ) (s : Slot) (slots : List Slot) → IsUnflagged q r (s ∷ slots) → IsUnflagged q (r + 1) slots
later q r s slots h i slot e flag at = h (suc i) slot e flag (omega arith)

reg_is : (a b : ℕ) → term.Reg a ≡ term.Reg b → a ≡ b
reg_is a b e = cc

here_is : (q : ℕ) → term.Here ≡ term.Reg q → ⊥
here_is q e = cc

-- what the equations of the other parameters say of a register
abbrev pub IsAlone : Equations → ℕ → Type 0
IsAlone r q = (t : Term) → r (term.Reg q) t ≡ true → t ≡ term.Reg q

joined_alone : (inner : Equations) (r q : ℕ) → IsAlone inner q → (r ≡ q → ⊥) → IsAlone (joined inner (term.Reg r) term.Here) q
joined_alone inner r q h ne t e = elim (ways inner (term.Reg r) term.Here (term.Reg q) t e) [
  | inl direct ↦ h t direct
  | inr rest ↦ elim rest [
    | inl forth ↦ absurd (ne (reg_is r q (h (term.Reg r) forth.0)))
    | inr back ↦ absurd (here_is q (h term.Here back.0))
  ]
]

front_alone : (b : Bool) (inner : Equations) (r q : ℕ) → IsAlone inner q → (b ≡ true → r ≡ q → ⊥)
    → IsAlone (cond b (joined inner (term.Reg r) term.Here) inner) q
front_alone true inner r q h ne = joined_alone inner r q h (ne refl)
front_alone false inner r q h ne = h

-- such a register is alone
homes_alone : (q : ℕ) (slots : List Slot) (r : ℕ) → IsUnflagged q r slots → IsAlone (homes_here r slots) q
homes_alone q [] r h t e = sym (same_term-is (term.Reg q) t e)
homes_alone q (s ∷ slots) r h t e =
    front_alone s.home_here (homes_here (r + 1) slots) r q (homes_alone q slots (r + 1) (later q r s slots h))
    (λ flag same. h 0 s refl flag (omega arith)) t e

flag_has_place : (k : Kind) → takes_flag k ≡ true → has_place k ≡ true
flag_has_place (kind.GRef c) e = refl
flag_has_place kind.Int e = absurd cc
flag_has_place kind.Place e = refl
flag_has_place kind.Text e = absurd cc
flag_has_place kind.Rail e = absurd cc
flag_has_place (kind.Obj c) e = absurd cc
flag_has_place (kind.Opt c) e = absurd cc

-- a register without a place is none of the flagged parameters
unflagged : (slots : List Slot) (q : ℕ) → FlagsFit slots → holds_place (parameter_kind (slice_get slots q)) ≡ false → IsUnflagged q 0 slots
unflagged slots q fits none i slot e flag at =
    let here : slice_get slots q ≡ Some slot = subst (λ n. slice_get slots n ≡ Some slot) (is at) e in
    let plain : has_place slot.kind ≡ false = subst (λ o. holds_place (parameter_kind o) ≡ false) here none in
    absurd (let placed = flag_has_place slot.kind (fits i slot e flag) in cc)
  where
    is : 0 + i ≡ q → i ≡ q
    is f = omega arith

pub entry_valid : (slots : List Slot) (k : Known) → FlagsFit slots → SameState (state_of k) (entered slots) → IsState (state_of k)
entry_valid slots k fits same = record {
  equivalence = equations_is k.homes;
  alone = λ r t lt none it e. homes_alone r slots 0 (unflagged slots r fits (subst (λ o. holds_place o ≡ false) (same.kinds r) none)) t
      (sym (same.homes (term.Reg r) t lt it) ∙ e);
}
