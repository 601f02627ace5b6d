-- What can be decided of registers and values.
use Rattle.std.proofs.Common.{◌≡◌, ◌⊎◌, ℕ, zero, suc, ◌+◌, ◌<◌, Bool, true, false, List, [], ◌∷◌, length, Option, Some, None, refl, ap, subst, inl, inr, arith}
use Rattle.std.specs.Prelude.{IsTrue, slice_get}
use Rattle.std.proofs.lemmas.Bool.{cases_lt, cases_eq}
use Rattle.x10_kinds.specs.declared.kind.Kind.{Kind}
use Rattle.x10_kinds.specs.declared.kind.Kind.TheVariants as kind
use Rattle.x10_model.specs.Maps.{Pairwise}
use Rattle.x10_model.specs.declared.slot.Slot.{Slot}
use Rattle.x10_model.specs.Values.{Value, Int, Place, Text, Rail, Object, Null, Ref, Cell, Fields, Bytes, Cells, IsOfKind}
use Rattle.x10_model.specs.Signatures.{HasHome, FitsSlotAt}
use Rattle.x10_model.specs.Moves.{Situation, Holds, HoldsFrom, GivesBack}
use Rattle.x10_model.specs.Wrong.{Want, Anything, AnInt, APlace, AText, ARail, AnObject, AReference, AnIntOrText, AnObjectOrNull, APlaceOrReference, Meets}
use Rattle.x10_model.proofs.Found.{Met}
use Rattle.std.proofs.lemmas.Option.{same_Some}
use Rattle.x10_model.proofs.Lists.{same_some, none_some}

pub and_then : {A B C : Type 0} → A ⊎ C → (A → B ⊎ C) → B ⊎ C
and_then (inl a) f = f a
and_then (inr c) f = inr c

pub below_or_not : (m n : ℕ) → (m < n) ⊎ (m < n → ⊥)
below_or_not m n = elim (cases_lt m n) [ inl lt ↦ inl lt | inr le ↦ inr (λ lt. omega arith) ]

pub both_or_not : {A B : Type 0} → A ⊎ (A → ⊥) → B ⊎ (B → ⊥) → (A × B) ⊎ (A × B → ⊥)
both_or_not (inl a) (inl b) = inl (a, b)
both_or_not (inl a) (inr n) = inr (λ p. n p.1)
both_or_not (inr n) b = inr (λ p. n p.0)

-- there is something at each number below the length
pub get_below : {X : Type 0} (xs : List X) (i : ℕ) → i < length xs → (x : X) × (slice_get xs i ≡ Some x)
get_below [] i lt = absurd (omega arith)
get_below (x ∷ xs) zero lt = (x, refl)
get_below (x ∷ xs) (suc i) lt = get_below xs i (omega arith)

-- a list has a first element, or is empty
pub empty_or_not : {X : Type 0} (xs : List X) → ((x : X) × (rest : List X) × (xs ≡ x ∷ rest)) ⊎ (xs ≡ [])
empty_or_not [] = inr refl
empty_or_not (x ∷ xs) = inl (x, xs, refl)

-- ---- cells

rail_cell : (o : Option Cell) → ((bytes : List ℕ) × (o ≡ Some (Bytes bytes))) ⊎ ((bytes : List ℕ) × (o ≡ Some (Bytes bytes)) → ⊥)
rail_cell None = inr (λ h. none_some None (Bytes h.0) refl h.1)
rail_cell (Some (Bytes bytes)) = inl (bytes, refl)
rail_cell (Some (Fields class fields)) = inr (λ h. absurd (let e = same_Some (Fields class fields) (Bytes h.0) h.1 in cc))

object_cell : (o : Option Cell) → ((class : ℕ) × (fields : List Value) × (o ≡ Some (Fields class fields)))
    ⊎ ((class : ℕ) × (fields : List Value) × (o ≡ Some (Fields class fields)) → ⊥)
object_cell None = inr (λ h. none_some None (Fields h.0 h.1) refl h.2)
object_cell (Some (Bytes bytes)) = inr (λ h. absurd (let e = same_Some (Bytes bytes) (Fields h.0 h.1) h.2 in cc))
object_cell (Some (Fields class fields)) = inl (class, fields, refl)

class_is : (d c : ℕ) (xs ys : List Value) → Fields d xs ≡ Fields c ys → d ≡ c
class_is d c xs ys e = cc

class_cell : (o : Option Cell) (c : ℕ) → ((fields : List Value) × (o ≡ Some (Fields c fields)))
    ⊎ ((fields : List Value) × (o ≡ Some (Fields c fields)) → ⊥)
class_cell None c = inr (λ h. none_some None (Fields c h.0) refl h.1)
class_cell (Some (Bytes bytes)) c = inr (λ h. absurd (let e = same_Some (Bytes bytes) (Fields c h.0) h.1 in cc))
class_cell (Some (Fields d fields)) c = elim (cases_eq d c) [
  | inl e ↦ inl (fields, ap (λ k. Some (Fields k fields)) e)
  | inr n ↦ inr (λ h. n (class_is d c fields h.0 (same_Some (Fields d fields) (Fields c h.0) h.1)))
]

-- ---- what is asked of a register

abbrev pub MeetsOrNot : Cells → Want → Value → Type 0
MeetsOrNot cells want v = Meets cells want v ⊎ (Meets cells want v → ⊥)

nested : (cells : Cells) (r : ℕ) → MeetsOrNot cells AnObject (Object r)
nested cells r = elim (object_cell (cells r)) [ inl h ↦ inl (h.0, (h.1, h.2)) | inr n ↦ inr (λ m. n (m.0, m.1.0, m.1.1)) ]

pub meets_or_not : (cells : Cells) (want : Want) (v : Value) → MeetsOrNot cells want v
meets_or_not cells Anything v = inl tt
meets_or_not cells AnInt (Int z) = inl tt
meets_or_not cells APlace (Place p) = inl tt
meets_or_not cells AText (Text t) = inl tt
meets_or_not cells ARail (Rail r) = rail_cell (cells r)
meets_or_not cells AnObject (Object r) = nested cells r
meets_or_not cells AReference (Ref home id class) = inl tt
meets_or_not cells AnIntOrText (Int z) = inl tt
meets_or_not cells AnIntOrText (Text t) = inl tt
meets_or_not cells AnObjectOrNull (Object r) = inl tt
meets_or_not cells AnObjectOrNull Null = inl tt
meets_or_not cells APlaceOrReference (Place p) = inl tt
meets_or_not cells APlaceOrReference (Ref home id class) = inl tt
meets_or_not cells _ _ = inr (λ h. h)

held_or_not : (s : Situation) (r : ℕ) (want : Want) (o : Option Value) → s.stay.top.registers r ≡ o
    → Met s r want ⊎ ((v : Value) → Holds s r v → Meets s.place.cells want v → ⊥)
held_or_not s r want None e = inr (λ v h m. none_some (s.stay.top.registers r) v e h)
held_or_not s r want (Some v) e = elim (meets_or_not s.place.cells want v) [
  | inl m ↦ inl (v, e, m)
  | inr n ↦ inr (λ w h m. n (subst (λ u. Meets s.place.cells want u) (same_some (s.stay.top.registers r) w v h e) m))
]

pub met_or_not : (s : Situation) (r : ℕ) (want : Want) → Met s r want ⊎ ((v : Value) → Holds s r v → Meets s.place.cells want v → ⊥)
met_or_not s r want = held_or_not s r want (s.stay.top.registers r) refl

-- ---- kinds, slots and arguments

of_kind_or_not : (cells : Cells) (v : Value) (k : Kind) → IsOfKind cells v k ⊎ (IsOfKind cells v k → ⊥)
of_kind_or_not cells (Int z) kind.Int = inl tt
of_kind_or_not cells (Place p) kind.Place = inl tt
of_kind_or_not cells (Text t) kind.Text = inl tt
of_kind_or_not cells (Rail r) kind.Rail = rail_cell (cells r)
of_kind_or_not cells (Object r) (kind.Obj c) = class_cell (cells r) c
of_kind_or_not cells (Object r) (kind.Opt c) = class_cell (cells r) c
of_kind_or_not cells Null (kind.Opt c) = inl tt
of_kind_or_not cells (Ref home id class) (kind.GRef c) = cases_eq class c
of_kind_or_not cells _ _ = inr (λ h. h)

home_or_not : (at : ℕ) (v : Value) → HasHome at v ⊎ (HasHome at v → ⊥)
home_or_not at (Ref home id class) = cases_eq home at
home_or_not at _ = inr (λ h. h)

pub flag_or_not : (at : ℕ) (v : Value) (flag : Bool) → (IsTrue flag → HasHome at v) ⊎ ((IsTrue flag → HasHome at v) → ⊥)
flag_or_not at v false = inl (λ t. absurd cc)
flag_or_not at v true = elim (home_or_not at v) [ inl h ↦ inl (λ t. h) | inr n ↦ inr (λ f. n (f refl)) ]

pub fits_or_not : (cells : Cells) (at : ℕ) (v : Value) (slot : Slot)
    → FitsSlotAt (IsOfKind cells) at v slot ⊎ (FitsSlotAt (IsOfKind cells) at v slot → ⊥)
fits_or_not cells at v slot = elim (both_or_not (of_kind_or_not cells v slot.kind) (flag_or_not at v slot.home_here)) [
  | inl p ↦ inl (record { kind = p.0; home = p.1 })
  | inr n ↦ inr (λ f. n (f.kind, f.home))
]

-- the registers from r on hold values that fit, or they don't
abbrev pub Held : {Y : Type 0} → Situation → (Value → Y → Type 0) → ℕ → List Y → Type 0
Held s R r ys = (vs : List Value) × HoldsFrom s r vs × Pairwise R vs ys

abbrev pub HeldOrNot : {Y : Type 0} → Situation → (Value → Y → Type 0) → ℕ → List Y → Type 0
HeldOrNot s R r ys = Held s R r ys ⊎ ((vs : List Value) → HoldsFrom s r vs → Pairwise R vs ys → ⊥)

no_value : {Y : Type 0} (s : Situation) (R : Value → Y → Type 0) (r : ℕ) (y : Y) (ys : List Y) → s.stay.top.registers r ≡ None → (vs : List Value)
    → HoldsFrom s r vs → Pairwise R vs (y ∷ ys) → ⊥
no_value s R r y ys e [] h p = p
no_value s R r y ys e (v ∷ vs) h p = none_some (s.stay.top.registers r) v e h.0

misfit : {Y : Type 0} (s : Situation) (R : Value → Y → Type 0) (r : ℕ) (y : Y) (ys : List Y) (v : Value) → s.stay.top.registers r ≡ Some v
    → (R v y → ⊥) → (vs : List Value) → HoldsFrom s r vs → Pairwise R vs (y ∷ ys) → ⊥
misfit s R r y ys v e n [] h p = p
misfit s R r y ys v e n (w ∷ vs) h p = n (subst (λ u. R u y) (same_some (s.stay.top.registers r) w v h.0 e) p.0)

later_misfit : {Y : Type 0} (s : Situation) (R : Value → Y → Type 0) (r : ℕ) (y : Y) (ys : List Y)
    → ((vs : List Value) → HoldsFrom s (r + 1) vs → Pairwise R vs ys → ⊥) → (vs : List Value) → HoldsFrom s r vs → Pairwise R vs (y ∷ ys) → ⊥
later_misfit s R r y ys n [] h p = p
later_misfit s R r y ys n (w ∷ vs) h p = n vs h.1 p.1

first_held : {Y : Type 0} (s : Situation) (R : Value → Y → Type 0) (each : (v : Value) (y : Y) → R v y ⊎ (R v y → ⊥)) (r : ℕ) (y : Y) (ys : List Y)
    (o : Option Value) → s.stay.top.registers r ≡ o → HeldOrNot s R (r + 1) ys → HeldOrNot s R r (y ∷ ys)
first_held s R each r y ys None e rest = inr (no_value s R r y ys e)
first_held s R each r y ys (Some v) e (inr n) = inr (later_misfit s R r y ys n)
first_held s R each r y ys (Some v) e (inl h) = elim (each v y) [ inl f ↦ inl (v ∷ h.0, (e, h.1), (f, h.2)) | inr n ↦ inr (misfit s R r y ys v e n) ]

pub arguments_or_not : {Y : Type 0} (s : Situation) (R : Value → Y → Type 0) (each : (v : Value) (y : Y) → R v y ⊎ (R v y → ⊥)) (r : ℕ) (ys : List Y)
    → HeldOrNot s R r ys
arguments_or_not s R each r [] = inl ([], tt, tt)
arguments_or_not s R each r (y ∷ ys) = first_held s R each r y ys (s.stay.top.registers r) refl (arguments_or_not s R each (r + 1) ys)

pub slots_or_not : (s : Situation) (at r : ℕ) (slots : List Slot) → HeldOrNot s (FitsSlotAt (IsOfKind s.place.cells) at) r slots
slots_or_not s at r slots = arguments_or_not s (FitsSlotAt (IsOfKind s.place.cells) at) (fits_or_not s.place.cells at) r slots

pub kinds_or_not : (s : Situation) (r : ℕ) (kinds : List Kind) → HeldOrNot s (IsOfKind s.place.cells) r kinds
kinds_or_not s r kinds = arguments_or_not s (IsOfKind s.place.cells) (of_kind_or_not s.place.cells) r kinds

pub kind_or_not : (cells : Cells) (v : Value) (k : Kind) → IsOfKind cells v k ⊎ (IsOfKind cells v k → ⊥)
kind_or_not cells v k = of_kind_or_not cells v k

-- ---- results

no_result : (s : Situation) (slot : Slot) → s.stay.top.registers s.instr.a ≡ None → (v : Option Value) → GivesBack s (Some slot) v → ⊥
no_result s slot e None g = g
no_result s slot e (Some v) g = none_some (s.stay.top.registers s.instr.a) v e g.0

bad_result : (s : Situation) (slot : Slot) (v : Value) → s.stay.top.registers s.instr.a ≡ Some v
    → (FitsSlotAt (IsOfKind s.place.cells) s.here v slot → ⊥) → (w : Option Value) → GivesBack s (Some slot) w → ⊥
bad_result s slot v e n None g = g
bad_result s slot v e n (Some w) g = n (subst (λ u. FitsSlotAt (IsOfKind s.place.cells) s.here u slot)
    (same_some (s.stay.top.registers s.instr.a) w v g.0 e) g.1)

result_held : (s : Situation) (slot : Slot) (o : Option Value) → s.stay.top.registers s.instr.a ≡ o
    → ((v : Option Value) × GivesBack s (Some slot) v) ⊎ ((v : Option Value) → GivesBack s (Some slot) v → ⊥)
result_held s slot None e = inr (no_result s slot e)
result_held s slot (Some v) e = elim (fits_or_not s.place.cells s.here v slot)
    [ inl f ↦ inl (Some v, (e, f)) | inr n ↦ inr (bad_result s slot v e n) ]

pub gives_or_not : (s : Situation) (slot : Option Slot) → ((v : Option Value) × GivesBack s slot v) ⊎ ((v : Option Value) → GivesBack s slot v → ⊥)
gives_or_not s None = inl (None, tt)
gives_or_not s (Some slot) = result_held s slot (s.stay.top.registers s.instr.a) refl
