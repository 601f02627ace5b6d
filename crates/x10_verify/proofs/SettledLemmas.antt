-- What an instruction asks is met in each state that knows more, its effect is the only one, and it is a right one.
use Rattle.std.proofs.Common.{◌≡◌, ◌⊎◌, ℕ, ◌+◌, Bool, true, false, Option, Some, None, refl, sym, ap, subst, ◌∙◌, inl, inr, rules}
use Rattle.std.proofs.lemmas.Option.{same_Some}
use Rattle.x10_kinds.specs.declared.kind.Kind.{Kind}
use Rattle.x10_kinds.specs.declared.kind.Kind.TheVariants as kind
use Rattle.x10_kinds.specs.declared.homes.Term.{Term}
use Rattle.x10_kinds.specs.declared.homes.Term.TheVariants as term
use Rattle.x10_kinds.specs.Kinds.{Fits, has_place}
use Rattle.x10_kinds.specs.Equations.{IsTerm}
use Rattle.x10_model.specs.declared.slot.Slot.{Slot}
use Rattle.x10_model.specs.Modules.{Module, Function, takes_flag}
use Rattle.x10_model.specs.Ranges.{function_at}
use Rattle.x10_model.specs.Assignments.{State, IsBelow, IsKind, IsPlaced, Point, FitsAs, ReturnsWell, like_if, holds_place}
use Rattle.x10_code.specs.declared.rule.Effect.{Effect}
use Rattle.x10_code.specs.declared.rule.Effect.TheVariants.{Keeps, Sets, Joins}
use Rattle.x10_code.specs.declared.rule.Outcome.{Outcome}
use Rattle.x10_code.specs.declared.rule.Outcome.TheVariants.{Fixed, Copies, Calls, Returns, Makes, Gets, Puts, Unwraps, Locates, Exports, Opens, FindsHere, FindsSame, Starts, Prints}
use Rattle.x10_code.specs.declared.rule.Rule.{Rule}
use Rattle.x10_model.specs.Assignments.{IsKindIf, IsPlaceTerm, IsCalled, GivesResult, Settles, Grants, field_of}
use Rattle.x10_verify.specs.Effects.{IsNarrow, StandsFor, IsSoundIn, IsSoundFixed, IsSoundOutcome, Leaves}
use Rattle.x10_verify.proofs.Below.{IsKind-down}

-- ---- what is asked

asked_down : (s t : State) (r : ℕ) (want : Option Kind) → IsBelow s t → IsKindIf t r want → IsKindIf s r want
asked_down s t r None below h = tt
asked_down s t r (Some k) below h = IsKind-down s t r k below h

placed_down : (s t : State) (r : ℕ) → IsBelow s t → IsPlaced t r → IsPlaced s r
placed_down s t r below (inl k) = inl (IsKind-down s t r kind.Place below k)
placed_down s t r below (inr k) = inr (k.0, IsKind-down s t r (kind.GRef k.0) below k.1)

printed_down : (s t : State) (r : ℕ) → IsBelow s t → (IsKind t r kind.Int) ⊎ (IsKind t r kind.Text) → (IsKind s r kind.Int) ⊎ (IsKind s r kind.Text)
printed_down s t r below (inl k) = inl (IsKind-down s t r kind.Int below k)
printed_down s t r below (inr k) = inr (IsKind-down s t r kind.Text below k)

pub place_is_term : (s : State) (at : Term) → IsNarrow s → IsPlaceTerm s at → IsTerm at
place_is_term s term.Here narrow h = tt
place_is_term s (term.Place p) narrow h = absurd h
place_is_term s (term.Reg r) narrow h = narrow r h.0 h.1

place_down : (s t : State) (at : Term) → IsBelow s t → IsPlaceTerm t at → IsPlaceTerm s at
place_down s t term.Here below h = tt
place_down s t (term.Place p) below h = h
place_down s t (term.Reg r) below h = IsKind-down s t r kind.Place below h

fits_down : (s t : State) (at : Term) (r : ℕ) (slot : Slot) → IsNarrow s → IsTerm at → IsBelow s t → FitsAs t at r slot → FitsAs s at r slot
fits_down s t at r slot narrow it below f =
    let k = IsKind-down s t r slot.kind below f.0 in
    (k, λ h. below.homes (term.Reg r) at (narrow r k.0 k.1) it (f.1 h))

called_down : (p : Point) (s t : State) (at : Term) (callee : Function) → IsNarrow s → IsBelow s t → IsCalled p t at callee → IsCalled p s at callee
called_down p s t at callee narrow below h =
    let place = place_down s t at below h.place in
    record {
      place = place;
      there = h.there;
      arguments = λ n slot e.
          fits_down s t at (p.instr.b + n) slot narrow (place_is_term s at narrow place) below (h.arguments n slot e);
    }

returns_down : (p : Point) (s t : State) (slot : Option Slot) → IsNarrow s → IsBelow s t → ReturnsWell p t slot → ReturnsWell p s slot
returns_down p s t None narrow below r = r
returns_down p s t (Some slot) narrow below r = fits_down s t term.Here p.instr.a slot narrow tt below r

-- kinds that fit stand for a place together
fits_place : (k l : Kind) → Fits k l → has_place k ≡ has_place l
fits_place kind.Int l f = ap has_place f
fits_place kind.Place l f = ap has_place f
fits_place kind.Text l f = ap has_place f
fits_place kind.Rail l f = ap has_place f
fits_place (kind.Obj c) (kind.Opt d) f = refl
fits_place (kind.Obj c) l f = search rules
fits_place (kind.Opt c) l f = ap has_place f
fits_place (kind.GRef c) l f = ap has_place f

-- what an outcome asks of a state holds of each that knows more, and what it leaves is no less
pub settles_down : (o : Outcome) (p : Point) (s t : State) (f : Effect) → IsNarrow s → IsBelow s t → Settles o p t f
    → (e : Effect) × Settles o p s e × Leaves e f
settles_down (Fixed x) p s t f narrow below h = (x, refl, inl (sym h))
settles_down Copies p s t f narrow below h =
    let k = below.kinds p.instr.b h.0 h.1 in
    let same : like_if (has_place h.0) (term.Reg p.instr.b) ≡ like_if (has_place k.0) (term.Reg p.instr.b) =
    ap (λ b. like_if b (term.Reg p.instr.b)) (sym (fits_place k.0 h.0 k.2)) in (
      Sets k.0 (like_if (has_place k.0) (term.Reg p.instr.b)),
      (k.0, k.1, refl),
      inr (k.0, h.0, like_if (has_place k.0) (term.Reg p.instr.b), k.2, refl, h.2 ∙ ap (λ l. Sets h.0 l) same),
    )
settles_down (Calls at) p s t f narrow below h = (f, (h.0, called_down p s t at h.0 narrow below h.1, h.2), inl refl)
settles_down Returns p s t f narrow below h = (f, (returns_down p s t p.function.result narrow below h.0, h.1), inl refl)
settles_down Makes p s t f narrow below h = (f, (h.0, h.1, λ n want e. IsKind-down s t (p.instr.b + n) want below (h.2 n want e), h.3), inl refl)
settles_down Gets p s t f narrow below h = (f, (h.0, h.1, IsKind-down s t p.instr.b (kind.Obj h.0) below h.2, h.3, h.4), inl refl)
settles_down Puts p s t f narrow below h = (
  f,
  (
    h.0,
    h.1,
    IsKind-down s t p.instr.a (kind.Obj h.0) below h.2,
    h.3,
    IsKind-down s t p.instr.b h.1 below h.4,
    h.5,
  ),
  inl refl,
)
settles_down Unwraps p s t f narrow below h = (f, (h.0, IsKind-down s t p.instr.b (kind.Opt h.0) below h.1, h.2), inl refl)
settles_down Locates p s t f narrow below h = (f, (h.0, IsKind-down s t p.instr.b (kind.GRef h.0) below h.1, h.2), inl refl)
settles_down Exports p s t f narrow below h = (f, (h.0, IsKind-down s t p.instr.b (kind.Obj h.0) below h.1, h.2), inl refl)
settles_down Opens p s t f narrow below h =
    let k = IsKind-down s t p.instr.b (kind.GRef h.0) below h.1 in
    (f, (h.0, k, below.homes (term.Reg p.instr.b) term.Here (narrow p.instr.b k.0 k.1) tt h.2, h.3), inl refl)
settles_down FindsHere p s t f narrow below h = (f, (placed_down s t p.instr.a below h.0, h.1), inl refl)
settles_down FindsSame p s t f narrow below h = (f, (placed_down s t p.instr.a below h.0, placed_down s t p.instr.b below h.1, h.2), inl refl)
settles_down (Starts at) p s t f narrow below h = (f, (h.0, called_down p s t at h.0 narrow below h.1, h.2, h.3), inl refl)
settles_down Prints p s t f narrow below h = (f, (printed_down s t p.instr.a below h.0, h.1), inl refl)

-- ---- one effect

kind_once : (s : State) (r : ℕ) (k l : Kind) → s.kinds r ≡ Some k → s.kinds r ≡ Some l → k ≡ l
kind_once s r k l e f = same_Some k l (sym e ∙ f)

object_is : (k : Kind) (c : ℕ) → Fits k (kind.Obj c) → k ≡ kind.Obj c
object_is k c f = search rules

reference_is : (k : Kind) (c : ℕ) → Fits k (kind.GRef c) → k ≡ kind.GRef c
reference_is k c f = search rules

maybe_once : (k : Kind) (c d : ℕ) → Fits k (kind.Opt c) → Fits k (kind.Opt d) → c ≡ d
maybe_once k c d f g = search rules

object_class : (c d : ℕ) → kind.Obj c ≡ kind.Obj d → c ≡ d
object_class c d e = cc

pub object_once : (s : State) (r : ℕ) (c d : ℕ) → IsKind s r (kind.Obj c) → IsKind s r (kind.Obj d) → c ≡ d
object_once s r c d h g = object_class c d (sym (object_is h.0 c h.2) ∙ kind_once s r h.0 g.0 h.1 g.1 ∙ object_is g.0 d g.2)

unwrapped_once : (s : State) (r : ℕ) (c d : ℕ) → IsKind s r (kind.Opt c) → IsKind s r (kind.Opt d) → c ≡ d
unwrapped_once s r c d h g = maybe_once g.0 c d (subst (λ k. Fits k (kind.Opt c)) (kind_once s r h.0 g.0 h.1 g.1) h.2) g.2

reference_class : (c d : ℕ) → kind.GRef c ≡ kind.GRef d → c ≡ d
reference_class c d e = cc

reference_once : (s : State) (r : ℕ) (c d : ℕ) → IsKind s r (kind.GRef c) → IsKind s r (kind.GRef d) → c ≡ d
reference_once s r c d h g = reference_class c d (sym (reference_is h.0 c h.2) ∙ kind_once s r h.0 g.0 h.1 g.1 ∙ reference_is g.0 d g.2)

back_once : (p : Point) (at : Term) (slot : Option Slot) (e f : Effect) → GivesResult p at slot e → GivesResult p at slot f → e ≡ f
back_once p at None e f h g = h.1 ∙ sym g.1
back_once p at (Some slot) e f h g = h ∙ sym g

field_once : (p : Point) (c d : ℕ) (k l : Kind) → c ≡ d → field_of p.program c p.instr.c ≡ Some k → field_of p.program d p.instr.c ≡ Some l → k ≡ l
field_once p c d k l same h g = same_Some k l (sym h ∙ ap (λ x. field_of p.program x p.instr.c) same ∙ g)

pub settles_once : (o : Outcome) (p : Point) (s : State) (e f : Effect) → Settles o p s e → Settles o p s f → e ≡ f
settles_once (Fixed x) p s e f h g = h ∙ sym g
settles_once Copies p s e f h g = h.2 ∙ ap (λ k. Sets k (like_if (has_place k) (term.Reg p.instr.b))) (kind_once s p.instr.b h.0 g.0 h.1 g.1)
    ∙ sym g.2
settles_once (Calls at) p s e f h g =
    let same : g.0 ≡ h.0 = same_Some g.0 h.0 (sym g.1.there ∙ h.1.there) in
    back_once p at h.0.result e f h.2 (subst (λ (c : Function). GivesResult p at c.result f) same g.2)
settles_once Returns p s e f h g = h.1 ∙ sym g.1
settles_once Makes p s e f h g = h.3 ∙ sym g.3
settles_once Gets p s e f h g = h.4 ∙ ap (λ k. Sets k None) (field_once p h.0 g.0 h.1 g.1 (object_once s p.instr.b h.0 g.0 h.2 g.2) h.3 g.3) ∙ sym g.4
settles_once Puts p s e f h g = h.5 ∙ sym g.5
settles_once Unwraps p s e f h g = h.2 ∙ ap (λ c. Sets (kind.Obj c) None) (unwrapped_once s p.instr.b h.0 g.0 h.1 g.1) ∙ sym g.2
settles_once Locates p s e f h g = h.2 ∙ sym g.2
settles_once Exports p s e f h g = h.2 ∙ ap (λ c. Sets (kind.GRef c) (Some term.Here)) (object_once s p.instr.b h.0 g.0 h.1 g.1) ∙ sym g.2
settles_once Opens p s e f h g = h.3 ∙ ap (λ c. Sets (kind.Obj c) None) (reference_once s p.instr.b h.0 g.0 h.1 g.1) ∙ sym g.3
settles_once FindsHere p s e f h g = h.1 ∙ sym g.1
settles_once FindsSame p s e f h g = h.2 ∙ sym g.2
settles_once (Starts at) p s e f h g = h.3 ∙ sym g.3
settles_once Prints p s e f h g = h.1 ∙ sym g.1

-- ---- a right effect

fixed_sound : (s : State) (e : Effect) → IsSoundFixed e → IsSoundIn s e
fixed_sound s Keeps h = tt
fixed_sound s (Sets k None) h = tt
fixed_sound s (Sets k (Some term.Here)) h = (h, tt)
fixed_sound s (Sets k (Some (term.Place p))) h = h
fixed_sound s (Sets k (Some (term.Reg r))) h = absurd h
fixed_sound s (Joins t u) h = absurd h

-- a register that has a kind with a place
stands_reg : (s : State) (r : ℕ) (k : Kind) → IsNarrow s → s.kinds r ≡ Some k → has_place k ≡ true → StandsFor s (term.Reg r)
stands_reg s r k narrow is placed = (narrow r k is, ap holds_place is ∙ placed)

stands_kind : (s : State) (r : ℕ) (want : Kind) → IsNarrow s → has_place want ≡ true → IsKind s r want → StandsFor s (term.Reg r)
stands_kind s r want narrow placed h = stands_reg s r h.0 narrow h.1 (fits_place h.0 want h.2 ∙ placed)

placed_stands : (s : State) (r : ℕ) → IsNarrow s → IsPlaced s r → StandsFor s (term.Reg r)
placed_stands s r narrow (inl k) = stands_kind s r kind.Place narrow refl k
placed_stands s r narrow (inr k) = stands_kind s r (kind.GRef k.0) narrow refl k.1

place_stands : (s : State) (at : Term) → IsNarrow s → IsPlaceTerm s at → StandsFor s at
place_stands s term.Here narrow h = tt
place_stands s (term.Place p) narrow h = absurd h
place_stands s (term.Reg r) narrow h = stands_kind s r kind.Place narrow refl h

copied_sound : (s : State) (r : ℕ) (k : Kind) (b : Bool) → IsNarrow s → s.kinds r ≡ Some k → has_place k ≡ b
    → IsSoundIn s (Sets k (like_if b (term.Reg r)))
copied_sound s r k true narrow is placed = (placed, stands_reg s r k narrow is placed)
copied_sound s r k false narrow is placed = tt

flag_place : (k : Kind) → takes_flag k ≡ true → has_place k ≡ true
flag_place (kind.GRef c) e = refl
flag_place _ e = absurd cc

-- a result that fits says only of a global reference where its home is
abbrev pub FlagFits : Option Slot → Type 0
FlagFits None = Unit {0}
FlagFits (Some slot) = slot.home_here ≡ true → takes_flag slot.kind ≡ true

like_sound : (s : State) (at : Term) (k : Kind) (b : Bool) → StandsFor s at → (b ≡ true → takes_flag k ≡ true) → IsSoundIn s (Sets k (like_if b at))
like_sound s at k true stands flag = (flag_place k (flag refl), stands)
like_sound s at k false stands flag = tt

back_sound : (p : Point) (s : State) (at : Term) (slot : Option Slot) (e : Effect) → StandsFor s at → FlagFits slot → GivesResult p at slot e
    → IsSoundIn s e
back_sound p s at None e stands flag h = subst (λ x. IsSoundIn s x) (sym h.1) tt
back_sound p s at (Some slot) e stands flag h = subst (λ x. IsSoundIn s x) (sym h) (like_sound s at slot.kind slot.home_here stands flag)

kept : (s : State) (e f : Effect) → e ≡ f → IsSoundIn s f → IsSoundIn s e
kept s e f same h = subst (λ x. IsSoundIn s x) (sym same) h

-- the results of all functions fit
abbrev pub ResultsFit : Module → Type 0
ResultsFit program = (f : ℕ) (function : Function) → function_at program f ≡ Some function → FlagFits function.result

pub settles_sound : (o : Outcome) (p : Point) (s : State) (e : Effect) → IsNarrow s → ResultsFit p.program → IsSoundOutcome o → Settles o p s e
    → IsSoundIn s e
settles_sound (Fixed x) p s e narrow fit sound h = kept s e x h (fixed_sound s x sound)
settles_sound Copies p s e narrow fit sound h = kept s e _ h.2 (copied_sound s p.instr.b h.0 (has_place h.0) narrow h.1 refl)
settles_sound (Calls at) p s e narrow fit sound h = back_sound p s at h.0.result e (place_stands s at narrow h.1.place)
    (fit p.instr.x h.0 h.1.there) h.2
settles_sound Returns p s e narrow fit sound h = kept s e Keeps h.1 tt
settles_sound Makes p s e narrow fit sound h = kept s e (Sets (kind.Obj p.instr.x) None) h.3 tt
settles_sound Gets p s e narrow fit sound h = kept s e (Sets h.1 None) h.4 tt
settles_sound Puts p s e narrow fit sound h = kept s e Keeps h.5 tt
settles_sound Unwraps p s e narrow fit sound h = kept s e (Sets (kind.Obj h.0) None) h.2 tt
settles_sound Locates p s e narrow fit sound h = kept s e (Sets kind.Place (Some (term.Reg p.instr.b))) h.2
    (refl, stands_kind s p.instr.b (kind.GRef h.0) narrow refl h.1)
settles_sound Exports p s e narrow fit sound h = kept s e (Sets (kind.GRef h.0) (Some term.Here)) h.2 (refl, tt)
settles_sound Opens p s e narrow fit sound h = kept s e (Sets (kind.Obj h.0) None) h.3 tt
settles_sound FindsHere p s e narrow fit sound h = kept s e (Joins (term.Reg p.instr.a) term.Here) h.1 (placed_stands s p.instr.a narrow h.0, tt)
settles_sound FindsSame p s e narrow fit sound h = kept s e (Joins (term.Reg p.instr.a) (term.Reg p.instr.b)) h.2
    (placed_stands s p.instr.a narrow h.0, placed_stands s p.instr.b narrow h.1)
settles_sound (Starts at) p s e narrow fit sound h = kept s e Keeps h.3 tt
settles_sound Prints p s e narrow fit sound h = kept s e Keeps h.1 tt

-- ---- rows

pub grants_down : (r : Rule) (p : Point) (s t : State) (f : Effect) → IsNarrow s → IsBelow s t → Grants r p t f
    → (e : Effect) × Grants r p s e × Leaves e f
grants_down r p s t f narrow below h =
    let d = settles_down r.outcome p s t f narrow below h.settles in (
      d.0,
      record {
        a = asked_down s t p.instr.a r.a below h.a;
        b = asked_down s t p.instr.b r.b below h.b;
        c = asked_down s t p.instr.c r.c below h.c;
        settles = d.1;
      },
      d.2,
    )

pub grants_once : (r : Rule) (p : Point) (s : State) (e f : Effect) → Grants r p s e → Grants r p s f → e ≡ f
grants_once r p s e f h g = settles_once r.outcome p s e f h.settles g.settles

pub grants_sound : (r : Rule) (p : Point) (s : State) (e : Effect) → IsNarrow s → ResultsFit p.program → IsSoundOutcome r.outcome → Grants r p s e
    → IsSoundIn s e
grants_sound r p s e narrow fit sound h = settles_sound r.outcome p s e narrow fit sound h.settles
