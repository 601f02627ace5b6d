-- What a move found: operands, arguments and objects.
use Rattle.std.proofs.Common.{◌≡◌, ℕ, zero, suc, List, [], ◌∷◌, Option, Some, sym, subst}
use Rattle.std.specs.Prelude.{slice_get}
use Rattle.x10_model.specs.Maps.{IsIn}
use Rattle.x10_model.specs.Modules.{Function}
use Rattle.x10_model.specs.Ranges.{function_at, parameters_of}
use Rattle.x10_model.specs.Values.{Value, Int, Place, Text, Rail, Object, Null, Ref, Fields, Cells, IsOfKind}
use Rattle.x10_model.specs.Signatures.{FitSlots}
use Rattle.x10_model.specs.Places as places
use Rattle.x10_model.specs.Places.{Setting, Stay, CallFrame, Effect}
use Rattle.x10_model.specs.Moves.{Situation, Holds, HoldsFrom, Passes}
use Rattle.x10_model.specs.Results.{place_of, line_of}
use Rattle.x10_model.specs.Wrong.{Want, AnIntOrText, APlaceOrReference, Meets}
use Rattle.std.proofs.lemmas.Option.{same_Some}
use Rattle.x10_model.proofs.Lists.{same_some}

-- ---- lists

pub nil_cons : {X : Type 0} (xs : List X) (y : X) (ys : List X) → xs ≡ [] → xs ≡ y ∷ ys → ⊥
nil_cons xs y ys e f = cc

pub cons_nil : {X : Type 0} (x : X) (xs : List X) → x ∷ xs ≡ [] → ⊥
cons_nil x xs e = cc

pub head_is : {X : Type 0} (x y : X) (xs ys : List X) → x ∷ xs ≡ y ∷ ys → x ≡ y
head_is x y xs ys e = cc

-- ---- operands

-- the register holds what is asked for
abbrev pub Met : Situation → ℕ → Want → Type 0
Met s r want = (v : Value) × Holds s r v × Meets s.place.cells want v

abbrev pub AllMet : Situation → List (ℕ × Want) → Type 0
AllMet s [] = Unit {0}
AllMet s (a ∷ as') = Met s a.0 a.1 × AllMet s as'

pub met_member : (s : Situation) (xs : List (ℕ × Want)) (i r : ℕ) (want : Want) → AllMet s xs → slice_get xs i ≡ Some (r, want) → Met s r want
met_member s [] i r want h e = absurd cc
met_member s (x ∷ xs) zero r want h e = subst (λ (p : ℕ × Want). Met s p.0 p.1) (same_Some x (r, want) e) h.0
met_member s (x ∷ xs) (suc i) r want h e = met_member s xs i r want h.1 e

pub met_in : (s : Situation) (xs : List (ℕ × Want)) (r : ℕ) (want : Want) → AllMet s xs → IsIn (r, want) xs → Met s r want
met_in s xs r want h m = met_member s xs m.0 r want h m.1

pub placed : (cells : Cells) (v : Value) (p : ℕ) → place_of v ≡ Some p → Meets cells APlaceOrReference v
placed cells (Place q) p e = tt
placed cells (Ref home id class) p e = tt
placed cells (Int z) p e = absurd cc
placed cells (Text t) p e = absurd cc
placed cells (Rail r) p e = absurd cc
placed cells (Object r) p e = absurd cc
placed cells Null p e = absurd cc

pub printed : (cells : Cells) (v : Value) (line : places.Line) → line_of v ≡ Some line → Meets cells AnIntOrText v
printed cells (Int z) l e = tt
printed cells (Text t) l e = tt
printed cells (Place q) l e = absurd cc
printed cells (Ref home id class) l e = absurd cc
printed cells (Rail r) l e = absurd cc
printed cells (Object r) l e = absurd cc
printed cells Null l e = absurd cc

-- ---- arguments and results

abbrev pub Passed : Situation → ℕ → Type 0
Passed s at = (vs : List Value) × HoldsFrom s s.instr.b vs × FitSlots (IsOfKind s.place.cells) at vs
    (parameters_of (function_at s.setting.program s.instr.x))

pub passed_at : (s : Situation) (at : ℕ) (callee : Function) (vs : List Value) → Passes s at callee vs → Passed s at
passed_at s at callee vs p = (
  vs,
  p.held,
  subst (λ (f : Option Function). FitSlots (IsOfKind s.place.cells) at vs (parameters_of f))
      (sym p.callee_is) p.fit,
)

pub place_is : (p q : ℕ) → Place p ≡ Place q → p ≡ q
place_is p q e = cc

pub held_place : (s : Situation) (r p q : ℕ) → Holds s r (Place p) → Holds s r (Place q) → p ≡ q
held_place s r p q e f = place_is p q (same_some (s.stay.top.registers r) (Place p) (Place q) e f)

-- ---- objects

pub object_is : (r t : ℕ) → Object r ≡ Object t → r ≡ t
object_is r t e = cc

pub held_object : (s : Situation) (r p q : ℕ) → Holds s r (Object p) → Holds s r (Object q) → p ≡ q
held_object s r p q e f = object_is p q (same_some (s.stay.top.registers r) (Object p) (Object q) e f)

pub ref_is : (h i c h' i' c' : ℕ) → Ref h i c ≡ Ref h' i' c' → (h ≡ h') × (i ≡ i') × (c ≡ c')
ref_is h i c h' i' c' e = (cc, cc, cc)

pub held_ref : (s : Situation) (r h i c h' i' c' : ℕ) → Holds s r (Ref h i c) → Holds s r (Ref h' i' c') → (h ≡ h') × (i ≡ i') × (c ≡ c')
held_ref s r h i c h' i' c' e f = ref_is h i c h' i' c' (same_some (s.stay.top.registers r) (Ref h i c) (Ref h' i' c') e f)

pub fields_is : (c d : ℕ) (xs ys : List Value) → Fields c xs ≡ Fields d ys → (c ≡ d) × (xs ≡ ys)
fields_is c d xs ys e = (cc, cc)

-- two readings of one object agree
pub same_object : (cells : Cells) (r t c d : ℕ) (xs ys : List Value) → r ≡ t → cells r ≡ Some (Fields c xs) → cells t ≡ Some (Fields d ys)
    → (c ≡ d) × (xs ≡ ys)
same_object cells r t c d xs ys h e f = fields_is c d xs ys (same_some (cells t) (Fields c xs) (Fields d ys)
    (subst (λ k. cells k ≡ Some (Fields c xs)) h e) f)
