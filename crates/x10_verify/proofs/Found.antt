-- What a fault of flow says is a reason that there is no consistent assignment.
use Rattle.std.proofs.Common.{◌≡◌, ℕ, ◌+◌, ◌<◌, Option, Some, None, refl, sym, ap, subst, ◌∙◌, inl, inr, arith}
use Rattle.std.specs.Prelude.{slice_get}
use Rattle.std.proofs.lemmas.Option.{same_Some, slice_get_within}
use Rattle.x10_kinds.specs.declared.kind.Kind.{Kind}
use Rattle.x10_kinds.specs.declared.kind.Kind.TheVariants as kind
use Rattle.x10_kinds.specs.declared.homes.Term.{Term}
use Rattle.x10_kinds.specs.declared.homes.Term.TheVariants as term
use Rattle.x10_code.specs.declared.instr.Instr.{Instr}
use Rattle.x10_code.specs.Table.{form_of}
use Rattle.x10_model.specs.Maps.{IsIn}
use Rattle.x10_model.specs.declared.slot.Slot.{Slot}
use Rattle.x10_model.specs.Modules.{Module, Function, FitsImage}
use Rattle.x10_model.specs.Ranges.{function_at, instr_in}
use Rattle.x10_model.specs.Structure.{is_target}
use Rattle.x10_model.specs.Assignments.{State, IsBelow, IsKind, IsPlaced, FitsAs, ReturnsWell, Point, Edges, Permits, AreInRange, entry_state, parameter_kind}
use Rattle.x10_verify.specs.declared.fault.FlowCause.{FlowCause}
use Rattle.x10_verify.specs.declared.fault.FlowCause.TheVariants as flow
use Rattle.x10_code.specs.declared.rule.Effect.{Effect}
use Rattle.x10_code.specs.declared.rule.Effect.TheVariants.{Keeps, Sets, Joins}
use Rattle.x10_code.specs.declared.rule.Outcome.{Outcome}
use Rattle.x10_code.specs.declared.rule.Outcome.TheVariants.{Fixed, Copies, Calls, Returns, Makes, Gets, Puts, Unwraps}
use Rattle.x10_code.specs.declared.rule.Outcome.TheVariants.{Locates, Exports, Opens, FindsHere, FindsSame, Starts, Prints}
use Rattle.x10_code.specs.declared.rule.Rule.{Rule}
use Rattle.x10_verify.specs.Knowledge.{Follows, entered, handed_on, merged, restated, LeastAt, point}
use Rattle.x10_verify.specs.Merging.{IsMet}
use Rattle.x10_verify.specs.Effects.{IsNarrow, CanApply}
use Rattle.x10_code.specs.Rules.{rule_for, goes_on_of}
use Rattle.x10_model.specs.Assignments.{IsKindIf, field_of, IsPlaceTerm, IsCalled, GivesResult, Settles, Grants, after}
use Rattle.x10_verify.specs.declared.want.Want.{Want}
use Rattle.x10_verify.specs.declared.want.Want.TheVariants.{Anything, Fitting, AnObject, AnObjectOrNull, AReference, APlaceOrReference, AnIntOrText}
use Rattle.x10_verify.specs.Causes.{Meets, IsRefused, IsUnfit, HasNoField, IsNoPlace, IsUncalled, IsUnreturned, IsCauseOf, IsCauseAt}
use Rattle.x10_verify.specs.LawsOfFaults.{CausesRefuteRules, FollowedIsKnown, FoundIsWithout}
use Rattle.x10_verify.proofs.Below.{entry_cases}
use Rattle.x10_verify.proofs.SettledLemmas.{object_once, grants_sound}
use Rattle.x10_verify.proofs.Tables.{table_sound, can_apply, results_fit}
use Rattle.x10_verify.proofs.WorkListLemmas.{least_on, least_jump, least_never, least_same}
use Rattle.x10_verify.proofs.Stepped.{edges_in}
use Rattle.x10_verify.proofs.Wholes.{function_fits, has_names}
use Rattle.x10_model.proofs.Lists.{none_some}

-- ---- a cause and a rule

refused_not : (s : State) (r : ℕ) (want : Want) (why : FlowCause) (have : Kind) → IsRefused s r want why → s.kinds r ≡ Some have → Meets want have → ⊥
refused_not s r want flow.Unset have h is m = none_some (s.kinds r) have h is
refused_not s r want flow.Kind have h is m = h.2 (subst (Meets want) (same_Some have h.0 (sym is ∙ h.1)) m)
refused_not s r want flow.Home have h is m = h
refused_not s r want flow.Result have h is m = h

unkind_not : (s : State) (r : ℕ) (want : Kind) (why : FlowCause) → IsRefused s r (Fitting want) why → IsKind s r want → ⊥
unkind_not s r want why h k = refused_not s r (Fitting want) why k.0 h k.1 k.2

unfit_not : (s : State) (at : Term) (r : ℕ) (slot : Slot) (why : FlowCause) → IsUnfit s at r slot why → FitsAs s at r slot → ⊥
unfit_not s at r slot flow.Home h f = (let e = h.1 in let g = f.1 h.0 in absurd cc)
unfit_not s at r slot flow.Unset h f = unkind_not s r slot.kind flow.Unset h f.0
unfit_not s at r slot flow.Kind h f = unkind_not s r slot.kind flow.Kind h f.0
unfit_not s at r slot flow.Result h f = h

no_place_not : (s : State) (at : Term) (why : FlowCause) → IsNoPlace s at why → IsPlaceTerm s at → ⊥
no_place_not s term.Here why h p = h
no_place_not s (term.Reg r) why h p = unkind_not s r kind.Place why h p
no_place_not s (term.Place q) why h p = p

uncalled_not : (at : Term) (p : Point) (s : State) (why : FlowCause) (callee : Function) → IsUncalled at p s why → IsCalled p s at callee → ⊥
uncalled_not at p s why callee (inl h) c = no_place_not s at why h c.place
uncalled_not at p s why callee (inr (inl h)) c = none_some (function_at p.program p.instr.x) callee h.1 c.there
uncalled_not at p s why callee (inr (inr (other, n, slot, there, is, h))) c =
    let same : other ≡ callee = same_Some other callee (sym there ∙ c.there) in
    unfit_not s at (p.instr.b + n) slot why h (c.arguments n slot (subst (λ (g : Function). slice_get g.parameters n ≡ Some slot) same is))

given_not : (p : Point) (at : Term) (o : Option Slot) (e : Effect) → o ≡ None → (p.instr.a ≡ 0 → ⊥) → GivesResult p at o e → ⊥
given_not p at None e none other g = other g.0
given_not p at (Some slot) e none other g = absurd cc

unreturned_not : (p : Point) (s : State) (o : Option Slot) (why : FlowCause) → IsUnreturned p s o why → ReturnsWell p s o → ⊥
unreturned_not p s None why h r = h.1 r
unreturned_not p s (Some slot) why h r = unfit_not s term.Here p.instr.a slot why h r

-- the class of an object in a register has the field, or it hasn't
no_field_not : (p : Point) (s : State) (r : ℕ) (why : FlowCause) (class : ℕ) (field : Kind) → HasNoField p s r why → IsKind s r (kind.Obj class)
    → field_of p.program class p.instr.c ≡ Some field → ⊥
no_field_not p s r flow.Kind class field h k is =
    none_some (field_of p.program class p.instr.c) field (subst (λ c. field_of p.program c p.instr.c ≡ None) (object_once s r h.0 class h.1 k) h.2) is
no_field_not p s r flow.Unset class field h k is = h
no_field_not p s r flow.Home class field h k is = h
no_field_not p s r flow.Result class field h k is = h

-- a value that is put is of the field's kind, or it isn't
put_not : (p : Point) (s : State) (why : FlowCause) (c d : ℕ) (k l : Kind) → IsKind s p.instr.a (kind.Obj c) → IsKind s p.instr.a (kind.Obj d)
    → field_of p.program c p.instr.c ≡ Some k → field_of p.program d p.instr.c ≡ Some l
    → IsRefused s p.instr.b (Fitting k) why → IsKind s p.instr.b l → ⊥
put_not p s why c d k l hc hd hk hl h g =
    let same : c ≡ d = object_once s p.instr.a c d hc hd in
    let kinds : k ≡ l = same_Some k l (sym hk ∙ ap (λ n. field_of p.program n p.instr.c) same ∙ hl) in
    unkind_not s p.instr.b l why (subst (λ x. IsRefused s p.instr.b (Fitting x) why) kinds h) g

object_not : (s : State) (r : ℕ) (why : FlowCause) (class : ℕ) → IsRefused s r AnObject why → IsKind s r (kind.Obj class) → ⊥
object_not s r why class h k = refused_not s r AnObject why k.0 h k.1 (class, k.2)

reference_not : (s : State) (r : ℕ) (why : FlowCause) (class : ℕ) → IsRefused s r AReference why → IsKind s r (kind.GRef class) → ⊥
reference_not s r why class h k = refused_not s r AReference why k.0 h k.1 (class, k.2)

placed_not : (s : State) (r : ℕ) (why : FlowCause) → IsRefused s r APlaceOrReference why → IsPlaced s r → ⊥
placed_not s r why h (inl k) = refused_not s r APlaceOrReference why k.0 h k.1 (inl k.2)
placed_not s r why h (inr k) = refused_not s r APlaceOrReference why k.1.0 h k.1.1 (inr (k.0, k.1.2))

-- an outcome that settles asks for nothing that is missing
settled_not : (o : Outcome) (p : Point) (s : State) (why : FlowCause) (e : Effect) → IsCauseOf o p s why → Settles o p s e → ⊥
settled_not (Fixed x) p s why e h g = h
settled_not Copies p s why e h g = refused_not s p.instr.b Anything why g.0 h g.1 tt
settled_not (Calls at) p s why e (inl h) g = uncalled_not at p s why g.0 h g.1
settled_not (Calls at) p s why e (inr (callee, result, there, none, other)) g =
    given_not p at g.0.result e (subst (λ (f : Function). f.result ≡ None) (same_Some callee g.0 (sym there ∙ g.1.there)) none) other g.2
settled_not Returns p s why e h g = unreturned_not p s p.function.result why h g.0
settled_not Makes p s why e (inl h) g = none_some (slice_get p.program.classes p.instr.x) g.0 h.1 g.1
settled_not Makes p s why e (inr (kinds, n, want, there, is, h)) g =
    unkind_not s (p.instr.b + n) want why h (g.2 n want (subst (λ ks. slice_get ks n ≡ Some want) (same_Some kinds g.0 (sym there ∙ g.1)) is))
settled_not Gets p s why e (inl h) g = object_not s p.instr.b why g.0 h g.2
settled_not Gets p s why e (inr h) g = no_field_not p s p.instr.b why g.0 g.1 h g.2 g.3
settled_not Puts p s why e (inl h) g = object_not s p.instr.a why g.0 h g.2
settled_not Puts p s why e (inr (inl h)) g = no_field_not p s p.instr.a why g.0 g.1 h g.2 g.3
settled_not Puts p s why e (inr (inr (class, field, is, there, h))) g = put_not p s why class g.0 field g.1 is g.2 there g.3 h g.4
settled_not Unwraps p s why e h g = refused_not s p.instr.b AnObjectOrNull why g.1.0 h g.1.1 (g.0, g.1.2)
settled_not Locates p s why e h g = reference_not s p.instr.b why g.0 h g.1
settled_not Exports p s why e h g = object_not s p.instr.b why g.0 h g.1
settled_not Opens p s why e (inl h) g = reference_not s p.instr.b why g.0 h g.1
settled_not Opens p s why e (inr h) g = (let a = h.1 in let b = g.2 in absurd cc)
settled_not FindsHere p s why e h g = placed_not s p.instr.a why h g.0
settled_not FindsSame p s why e (inl h) g = placed_not s p.instr.a why h g.0
settled_not FindsSame p s why e (inr h) g = placed_not s p.instr.b why h g.1
settled_not (Starts at) p s why e (inl h) g = uncalled_not at p s why g.0 h g.1
settled_not (Starts at) p s why e (inr (callee, result, there, some)) g =
    some (subst (λ (f : Function). f.result ≡ None) (same_Some g.0 callee (sym g.1.there ∙ there)) g.2)
settled_not Prints p s why e h (inl k, g) = refused_not s p.instr.a AnIntOrText why k.0 h k.1 (inl k.2)
settled_not Prints p s why e h (inr k, g) = refused_not s p.instr.a AnIntOrText why k.0 h k.1 (inr k.2)

asked_not : (s : State) (r q : ℕ) (o : Option Kind) (want : Kind) (why : FlowCause) → o ≡ Some want → r ≡ q → IsRefused s r (Fitting want) why
    → IsKindIf s q o → ⊥
asked_not s r q None want why is here h a = absurd cc
asked_not s r q (Some k) want why is here h a = unkind_not s q k why
    (subst (λ n. IsRefused s n (Fitting k) why) here (subst (λ x. IsRefused s r (Fitting x) why) (sym (same_Some k want is)) h)) a

granted_not : (row : Rule) (p : Point) (s : State) (why : FlowCause) (e : Effect) → IsCauseAt row p s why → Grants row p s e → ⊥
granted_not row p s why e (inl (r, want, inl at, h)) g = asked_not s r p.instr.a row.a want why at.0 at.1 h g.a
granted_not row p s why e (inl (r, want, inr (inl at), h)) g = asked_not s r p.instr.b row.b want why at.0 at.1 h g.b
granted_not row p s why e (inl (r, want, inr (inr at), h)) g = asked_not s r p.instr.c row.c want why at.0 at.1 h g.c
granted_not row p s why e (inr h) g = settled_not row.outcome p s why e h g.settles

pub causes_refute_rules : CausesRefuteRules
causes_refute_rules p s why out cause permits = granted_not (rule_for p.instr.op p.instr) p s why permits.0 cause permits.1

-- ---- what follows

entry_narrow : (m : Module) (f : ℕ) (function : Function) → FitsImage m → function_at m f ≡ Some function → IsNarrow (entry_state function)
entry_narrow m f function fits there r k is = go (slice_get function.parameters r) refl is
  where
    go : (o : Option Slot) → slice_get function.parameters r ≡ o → parameter_kind o ≡ Some k → r < 64
    go None e h = absurd cc
    go (Some slot) e h = omega (arith, slice_get_within function.parameters r slot e, (function_fits m f function fits there).parameters)

after_narrow : (a : ℕ) (s : State) (e : Effect) → IsNarrow s → CanApply a e → IsNarrow (after a s e)
after_narrow a s Keeps narrow can r k is = narrow r k is
after_narrow a s (Joins t u) narrow can r k is = narrow r k is
after_narrow a s (Sets kind like) narrow can r k is = elim (entry_cases (Option Kind) a r) [
  | inl here ↦ (let e = here.0 in let lt = can.0 in omega arith)
  | inr off ↦ narrow r k (sym (off.1 s.kinds (Some kind)) ∙ is)
]

-- a state that follows is least, and speaks of the registers that there may be
record IsPassed (program : Module) (function : Function) (pc : ℕ) (s : State) : Type 0 where
  least : LeastAt program function pc s
  narrow : IsNarrow s

passed_entry : (m : Module) (f : ℕ) (function : Function) → FitsImage m → function_at m f ≡ Some function
    → IsPassed m function 0 (entry_state function)
passed_entry m f function fits there = record {
  least = record { below = λ states consistent. consistent.entry; follows = entered };
  narrow = entry_narrow m f function fits there;
}

passed_edge : (m : Module) (f : ℕ) (function : Function) (pc : ℕ) (s : State) (instr : Instr) (out : Edges) (edge : ℕ × State) → FitsImage m
    → AreInRange m → function_at m f ≡ Some function
    → IsPassed m function pc s → slice_get function.code pc ≡ Some instr → Permits instr.op (point m function pc instr) s out → IsIn edge out
    → IsPassed m function edge.0 edge.1
passed_edge m f function pc s instr out edge fits range there passed is parts leads =
    let p = point m function pc instr in
    let results = results_fit m fits in
    let named = has_names m f fits range pc instr (ap (λ o. instr_in o pc) there ∙ is) in
    let sound = grants_sound (rule_for instr.op instr) p s parts.0 passed.narrow results (table_sound instr.op instr named.small.place) parts.1 in
    let can = can_apply p s parts.0 passed.narrow results named parts.1 in
    elim (edges_in (goes_on_of instr.op) (is_target (form_of instr.op).x) (pc + 1) instr.x (after instr.a s parts.0) s edge
    (subst (λ o. IsIn edge o) parts.2 leads)) [
      | inl on ↦ subst (λ (e : ℕ × State). IsPassed m function e.0 e.1) (sym on.1) (record {
        least = least_on m function pc s instr parts.0 passed.narrow is passed.least parts.1 sound on.0;
        narrow = after_narrow instr.a s parts.0 passed.narrow can;
      })
      | inr jump ↦ subst (λ (e : ℕ × State). IsPassed m function e.0 e.1) (sym jump.1) (record {
        least = least_jump m function pc s instr parts.0 passed.narrow is passed.least parts.1 jump.0;
        narrow = passed.narrow;
      })
    ]

passed_merged : (m : Module) (function : Function) (pc : ℕ) (s t u : State) → IsPassed m function pc s → IsPassed m function pc t → IsMet s t u
    → IsPassed m function pc u
passed_merged m function pc s t u h g met = record {
  least = record {
    below = λ states consistent. (
        let x = h.least.below states consistent in
        let y = g.least.below states consistent in
        let same : y.0 ≡ x.0 = same_Some y.0 x.0 (sym y.1 ∙ x.1) in
        (x.0, x.1, met.least x.0 (consistent.valid pc x.0 x.1) x.2 (subst (IsBelow t) same y.2)));
    follows = merged pc s t u h.least.follows g.least.follows met;
  };
  narrow = met.kept.narrow;
}

passed : (m : Module) (f : ℕ) (function : Function) → FitsImage m → AreInRange m → function_at m f ≡ Some function → (pc : ℕ) (s : State)
    → Follows m function pc s → IsPassed m function pc s
passed m f function fits range there pc s entered = passed_entry m f function fits there
passed m f function fits range there pc' s' (handed_on pc s instr out edge h is permits leads) =
    passed_edge m f function pc s instr out edge fits range there (passed m f function fits range there pc s h) is permits leads
passed m f function fits range there pc' s' (merged pc s t u h g met) =
    passed_merged m function pc s t u (passed m f function fits range there pc s h) (passed m f function fits range there pc t g) met
passed m f function fits range there pc' s' (restated pc s t h same) =
    let before = passed m f function fits range there pc s h in
    record { least = least_same m function pc s t same before.least; narrow = λ r k is. before.narrow r k (sym (same.kinds r) ∙ is) }

pub followed_is_known : FollowedIsKnown
followed_is_known m f pc function s fits range there follows a = (passed m f function fits range there pc s follows).least.below a.0 a.1

-- ---- what is found

pub found_is_without : FoundIsWithout
found_is_without m f pc function why fits range there found a =
    let h = passed m f function fits range there pc found.state found.follows in
    least_never m function pc found.state found.instr h.narrow found.is_instr h.least
    (λ e. granted_not (rule_for found.instr.op found.instr) (point m function pc found.instr) found.state why e found.cause) a
