-- From what was asked and found to whether a rule holds.
use Rattle.std.proofs.Common.{◌≡◌, ℕ, ◌+◌, ◌<◌, ◌≤◌, List, length, Option, Some, None, Result, Ok, Err, refl, sym, ap, subst, ◌∙◌, arith}
use Rattle.std.specs.Prelude.{slice_get, IfErr, MatchResult}
use Rattle.std.specs.Result.{IsErr}
use Rattle.std.proofs.lemmas.Option.{same_Some, slice_get_within}
use Rattle.x10_kinds.specs.declared.kind.Kind.{Kind}
use Rattle.x10_kinds.specs.declared.homes.Term.{Term}
use Rattle.x10_image.specs.Parts.{Signature, signature_of}
use Rattle.x10_model.specs.declared.slot.Slot.{Slot}
use Rattle.x10_model.specs.Modules.{Function}
use Rattle.x10_model.specs.Assignments.{State, Point, IsKind, FitsAs, like_if}
use Rattle.x10_verify.specs.declared.fault.FlowCause.{FlowCause}
use Rattle.x10_code.specs.declared.rule.Effect.{Effect}
use Rattle.x10_code.specs.declared.rule.Effect.TheVariants.{Keeps, Sets}
use Rattle.x10_code.specs.declared.rule.Outcome.TheVariants.{Calls, Starts}
use Rattle.x10_code.specs.declared.rule.Rule.{Rule}
use Rattle.x10_verify.specs.Effects.{IsNarrow}
use Rattle.x10_model.specs.Assignments.{IsKindIf, IsCalled, GivesResult, KindsAre, SlotsAre, Settles, Grants}
use Rattle.x10_verify.specs.Effects.{Decides}

pub if_err : {T E : Type 0} {A B : E → Type 0} (r : Result T E) → IfErr r A → ((e : E) → A e → B e) → IfErr r B
if_err (Ok x) h f = tt
if_err (Err e) h f = f e h

pub unmatched : {X E : Type 0} (P : X → Type 0) (Q : E → Type 0) (r : Result X E) → IsErr r → ((e : E) → Q e) → MatchResult r P Q
unmatched P Q (Ok x) is never = absurd cc
unmatched P Q (Err e) is never = never e

pub undecided : (P : Effect → Type 0) (r : Result Effect FlowCause) → IsErr r → ((e : Effect) → P e → ⊥) → Decides P r
undecided P (Ok e) is never = absurd cc
undecided P (Err c) is never = never

-- what was asked, and then settled, is granted
pub granted : (r : Rule) (p : Point) (s : State) (answer : Result Effect FlowCause) → IsKindIf s p.instr.a r.a → IsKindIf s p.instr.b r.b
    → IsKindIf s p.instr.c r.c → Decides (Settles r.outcome p s) answer → Decides (Grants r p s) answer
granted r p s (Ok e) a b c d = record { a = a; b = b; c = c; settles = d }
granted r p s (Err x) a b c d = λ e h. d e h.settles

-- ---- registers one after another

pub all_slots : (s : State) (at : Term) (first : ℕ) (slots : List Slot) (n : ℕ)
    → ((k : ℕ) (slot : Slot) → k < n → slice_get slots k ≡ Some slot → FitsAs s at (first + k) slot) → length slots ≤ n → SlotsAre s at first slots
all_slots s at first slots n each le k slot e = let h : k < length slots = slice_get_within slots k slot e in each k slot (omega arith) e

pub all_kinds : (s : State) (first : ℕ) (kinds : List Kind) (n : ℕ)
    → ((k : ℕ) (want : Kind) → k < n → slice_get kinds k ≡ Some want → IsKind s (first + k) want) → length kinds ≤ n → KindsAre s first kinds
all_kinds s first kinds n each le k want e = let h : k < length kinds = slice_get_within kinds k want e in each k want (omega arith) e

pub slot_past : (s : State) (at : Term) (first n : ℕ) (slots : List Slot) (slot : Slot) → IsNarrow s → slice_get slots n ≡ Some slot → 64 ≤ first + n
    → SlotsAre s at first slots → ⊥
slot_past s at first n slots slot narrow e le all =
    let k = (all n slot e).0 in
    let h : first + n < 64 = narrow (first + n) k.0 k.1 in
    absurd (omega arith)

pub kind_past : (s : State) (first n : ℕ) (kinds : List Kind) (want : Kind) → IsNarrow s → slice_get kinds n ≡ Some want → 64 ≤ first + n
    → KindsAre s first kinds → ⊥
kind_past s first n kinds want narrow e le all =
    let k = all n want e in
    let h : first + n < 64 = narrow (first + n) k.0 k.1 in
    absurd (omega arith)

-- ---- calls

-- a function whose parameters are met, with its signature
abbrev pub Found : Point → State → Term → Signature → Type 0
Found p s at signature = (callee : Function) × IsCalled p s at callee × (signature ≡ signature_of callee)

pub result_is : (signature : Signature) (callee : Function) (slot : Option Slot) → signature ≡ signature_of callee → signature.result ≡ slot
    → callee.result ≡ slot
result_is signature callee slot e r = sym (ap (λ (x : Signature). x.result) e) ∙ r

same_callee : (p : Point) (s : State) (at : Term) (f g : Function) → IsCalled p s at f → IsCalled p s at g → f ≡ g
same_callee p s at f g a b = same_Some f g (sym a.there ∙ b.there)

pub calls_some : (p : Point) (s : State) (at : Term) (signature : Signature) (slot : Slot) → Found p s at signature → signature.result ≡ Some slot
    → Settles (Calls at) p s (Sets slot.kind (like_if slot.home_here at))
calls_some p s at signature slot h e = (
  h.0,
  h.1,
  subst (λ o. GivesResult p at o (Sets slot.kind (like_if slot.home_here at)))
      (sym (result_is signature h.0 (Some slot) h.2 e)) refl,
)

pub calls_none : (p : Point) (s : State) (at : Term) (signature : Signature) → Found p s at signature → signature.result ≡ None → p.instr.a ≡ 0
    → Settles (Calls at) p s Keeps
calls_none p s at signature h e a = (h.0, h.1, subst (λ o. GivesResult p at o Keeps) (sym (result_is signature h.0 None h.2 e)) (a, refl))

pub calls_bad : (p : Point) (s : State) (at : Term) (signature : Signature) → Found p s at signature → signature.result ≡ None → (p.instr.a ≡ 0 → ⊥)
    → (e : Effect) → Settles (Calls at) p s e → ⊥
calls_bad p s at signature h e a f g =
    let same = same_callee p s at g.0 h.0 g.1 h.1 in
    let none : g.0.result ≡ None = ap (λ (x : Function). x.result) same ∙ result_is signature h.0 None h.2 e in
    a (subst (λ o. GivesResult p at o f) none g.2).0

pub starts_none : (p : Point) (s : State) (at : Term) (signature : Signature) → Found p s at signature → signature.result ≡ None
    → Settles (Starts at) p s Keeps
starts_none p s at signature h e = (h.0, h.1, result_is signature h.0 None h.2 e, refl)

pub starts_bad : (p : Point) (s : State) (at : Term) (signature : Signature) → Found p s at signature → (signature.result ≡ None → ⊥) → (e : Effect)
    → Settles (Starts at) p s e → ⊥
starts_bad p s at signature h some f g =
    let same = same_callee p s at h.0 g.0 h.1 g.1 in
    some (ap (λ (x : Signature). x.result) h.2 ∙ ap (λ (x : Function). x.result) same ∙ g.2)
