-- How what a row says is taken apart: registers one by one, the field of a class, and where an effect leads.
use Rattle.std.proofs.Common.{◌≡◌, ℕ, suc, ◌+◌, List, ◌∷◌, Option, Some, None, refl, ap, subst, ◌∙◌, arith}
use Rattle.std.specs.Prelude.{slice_get}
use Rattle.x10_kinds.specs.declared.kind.Kind.{Kind}
use Rattle.x10_kinds.specs.declared.homes.Term.{Term}
use Rattle.x10_code.specs.declared.op.Op.{Op}
use Rattle.x10_code.specs.declared.rule.Effect.{Effect}
use Rattle.x10_model.specs.declared.slot.Slot.{Slot}
use Rattle.x10_model.specs.Assignments.{State, Point, Edges, IsKind, FitsAs, KindsAre, SlotsAre, Permits, field_in, edges_of}

-- ---- registers one by one

pub first_kind : (s : State) (r : ℕ) (k : Kind) (kinds : List Kind) → KindsAre s r (k ∷ kinds) → IsKind s r k
first_kind s r k kinds h = let at : r + 0 ≡ r = omega arith in subst (λ q. IsKind s q k) at (h 0 k refl)

pub next_kinds : (s : State) (r : ℕ) (k : Kind) (kinds : List Kind) → KindsAre s r (k ∷ kinds) → KindsAre s (r + 1) kinds
next_kinds s r k kinds h n want e = let at : r + suc n ≡ r + 1 + n = omega arith in subst (λ q. IsKind s q want) at (h (suc n) want e)

pub first_slot : (s : State) (at : Term) (r : ℕ) (slot : Slot) (slots : List Slot) → SlotsAre s at r (slot ∷ slots) → FitsAs s at r slot
first_slot s at r slot slots h = let same : r + 0 ≡ r = omega arith in subst (λ q. FitsAs s at q slot) same (h 0 slot refl)

pub next_slots : (s : State) (at : Term) (r : ℕ) (slot : Slot) (slots : List Slot) → SlotsAre s at r (slot ∷ slots) → SlotsAre s at (r + 1) slots
next_slots s at r slot slots h n next e = let same : r + suc n ≡ r + 1 + n = omega arith in subst (λ q. FitsAs s at q next) same (h (suc n) next e)

-- ---- fields

pub class_of_field : (o : Option (List Kind)) (c : ℕ) (field : Kind) → field_in o c ≡ Some field
    → (kinds : List Kind) × (o ≡ Some kinds) × (slice_get kinds c ≡ Some field)
class_of_field None c field e = absurd cc
class_of_field (Some kinds) c field e = (kinds, refl, e)

-- ---- where it leads

pub leads : {e : Effect} (o : Op) (p : Point) (s : State) (out : Edges) (permits : Permits o p s out) → permits.0 ≡ e → out ≡ edges_of o p s e
leads o p s out permits same = permits.2 ∙ ap (λ x. edges_of o p s x) same
