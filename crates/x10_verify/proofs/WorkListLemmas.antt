-- One instruction of the work list keeps the states so far sound and least.
use Rattle.std.proofs.Common.{◌≡◌, ◌⊎◌, ℕ, ◌+◌, ◌<◌, ◌≤◌, Bool, true, false, List, ◌++◌, length, Option, Some, None, refl, sym, ap, subst, ◌∙◌, inl, inr, arith}
use Rattle.std.specs.Prelude.{slice_get}
use Rattle.std.proofs.lemmas.Bool.{cases_eq, cases_Bool}
use Rattle.std.proofs.lemmas.Option.{same_Some, slice_get_past, slice_get_within}
use Rattle.x10_code.specs.declared.instr.Instr.{Instr}
use Rattle.x10_code.specs.Table.{form_of}
use Rattle.x10_model.specs.Maps.{IsIn}
use Rattle.x10_model.specs.Modules.{Module, Function}
use Rattle.x10_model.specs.Structure.{is_target}
use Rattle.x10_model.specs.Assignments.{State, IsBelow, Edges, Permits, Reaches, IsConsistent, HasAssignment, entry_state}
use Rattle.x10_verify.specs.declared.known.Known.{Known}
use Rattle.x10_verify.specs.declared.states.Entry.{Entry}
use Rattle.x10_code.specs.declared.rule.Effect.{Effect}
use Rattle.x10_verify.specs.Knowledge.{LeastAt, SameState, handed_on, merged, restated, point}
use Rattle.x10_verify.specs.Known.{state_of}
use Rattle.x10_verify.specs.Effects.{IsKept, IsNarrow, IsSoundIn, Leaves}
use Rattle.x10_code.specs.Rules.{rule_for, goes_on_of}
use Rattle.x10_model.specs.Assignments.{Grants, after, edge_if, edges_of}
use Rattle.x10_verify.specs.States.{state_in, stated, waits, waits_in, is_waiting, IsMetIn, Arrives}
use Rattle.x10_verify.specs.Solving.{Holds}
use Rattle.x10_verify.proofs.Below.{IsBelow-refl, IsBelow-trans, SameState-below}
use Rattle.x10_verify.proofs.Effects.{after_below}
use Rattle.x10_verify.proofs.SettledLemmas.{grants_down, grants_once}
use Rattle.x10_model.proofs.Lists.{set_same, none_some, set_here, set_off}

-- ---- what every consistent assignment knows

-- the rule of an assignment, where s knows at least as much: the edges of an effect that leaves no more
rule_at : (program : Module) (function : Function) (at : ℕ) (s : State) (instr : Instr) → IsNarrow s → slice_get function.code at ≡ Some instr
    → LeastAt program function at s
    → (states : ℕ → Option State) → IsConsistent program function states
    → (t : State) × (f : Effect) × (e : Effect) × IsBelow s t × Grants (rule_for instr.op instr) (point program function at instr) s e
    × Leaves e f
    × ((edge : ℕ × State) → IsIn edge (edges_of instr.op (point program function at instr) t f) → Reaches states edge)
rule_at program function at s instr narrow is least states consistent =
    let l = least.below states consistent in
    let h = consistent.permitted at l.0 l.1 in
    let same : h.0 ≡ instr = same_Some h.0 instr (sym h.2 ∙ is) in
    let parts : Permits instr.op (point program function at instr) l.0 h.1 =
    subst (λ (i : Instr). Permits i.op (point program function at i) l.0 h.1) same h.3 in
    let down = grants_down (rule_for instr.op instr) (point program function at instr) s l.0 parts.0 narrow l.2 parts.1 in
    (l.0, parts.0, down.0, l.2, down.1, down.2, λ edge m. h.4 edge (subst (λ out. IsIn edge out) (sym parts.2) m))

edge_first : (b : Bool) (pc : ℕ) (s : State) (rest : Edges) → b ≡ true → IsIn (pc, s) (edge_if b pc s ++ rest)
edge_first true pc s rest e = (0, refl)
edge_first false pc s rest e = absurd cc

edge_second : (a b : Bool) (pc x : ℕ) (s t : State) → b ≡ true → IsIn (x, t) (edge_if a pc s ++ edge_if b x t)
edge_second true true pc x s t e = (1, refl)
edge_second false true pc x s t e = (0, refl)
edge_second a false pc x s t e = absurd cc

pub least_on : (program : Module) (function : Function) (at : ℕ) (s : State) (instr : Instr) (e : Effect) → IsNarrow s
    → slice_get function.code at ≡ Some instr → LeastAt program function at s
    → Grants (rule_for instr.op instr) (point program function at instr) s e → IsSoundIn s e → goes_on_of instr.op ≡ true
    → LeastAt program function (at + 1) (after instr.a s e)
least_on program function at s instr e narrow is least grants sound on = record {
  follows = handed_on at s instr (edges_of instr.op (point program function at instr) s e) (at + 1, after instr.a s e) least.follows is
      (e, grants, refl)
      (edge_first (goes_on_of instr.op) (at + 1) (after instr.a s e) (edge_if (is_target (form_of instr.op).x) instr.x s) on);
  below = λ states consistent. (
      let r = rule_at program function at s instr narrow is least states consistent in
      let same : e ≡ r.2 = grants_once (rule_for instr.op instr) (point program function at instr) s e r.2 grants r.4 in
      let leaves : Leaves e r.1 = subst (λ x. Leaves x r.1) (sym same) r.5 in
      let reached = r.6 (at + 1, after instr.a r.0 r.1) (edge_first (goes_on_of instr.op) (at + 1) (after instr.a r.0 r.1)
      (edge_if (is_target (form_of instr.op).x) instr.x r.0) on) in (
        reached.0,
        reached.1,
        IsBelow-trans (after instr.a s e) (after instr.a r.0 r.1) reached.0
            (after_below instr.a s r.0 e r.1 sound leaves r.3) reached.2,
      ));
}

pub least_jump : (program : Module) (function : Function) (at : ℕ) (s : State) (instr : Instr) (e : Effect) → IsNarrow s
    → slice_get function.code at ≡ Some instr → LeastAt program function at s
    → Grants (rule_for instr.op instr) (point program function at instr) s e → is_target (form_of instr.op).x ≡ true
    → LeastAt program function instr.x s
least_jump program function at s instr e narrow is least grants jumps = record {
  follows = handed_on at s instr (edges_of instr.op (point program function at instr) s e) (instr.x, s) least.follows is (e, grants, refl)
      (edge_second (goes_on_of instr.op) (is_target (form_of instr.op).x) (at + 1) instr.x (after instr.a s e) s jumps);
  below = λ states consistent. (
      let r = rule_at program function at s instr narrow is least states consistent in
      let reached = r.6 (instr.x, r.0) (edge_second (goes_on_of instr.op) (is_target (form_of instr.op).x) (at + 1) instr.x
      (after instr.a r.0 r.1) r.0 jumps) in
      (reached.0, reached.1, IsBelow-trans s r.0 reached.0 r.3 reached.2));
}

pub least_never : (program : Module) (function : Function) (at : ℕ) (s : State) (instr : Instr) → IsNarrow s → slice_get function.code at ≡ Some instr
    → LeastAt program function at s
    → ((e : Effect) → Grants (rule_for instr.op instr) (point program function at instr) s e → ⊥) → HasAssignment program function → ⊥
least_never program function at s instr narrow is least never a =
    let r = rule_at program function at s instr narrow is least a.0 a.1 in
    never r.2 r.4

pub least_past : (program : Module) (function : Function) (pc : ℕ) (s : State) → length function.code ≤ pc → LeastAt program function pc s
    → HasAssignment program function → ⊥
least_past program function pc s le least a =
    let l = least.below a.0 a.1 in
    let h = a.1.permitted pc l.0 l.1 in
    none_some (slice_get function.code pc) h.0 (slice_get_past function.code pc le) h.2

pub least_same : (program : Module) (function : Function) (pc : ℕ) (s t : State) → SameState t s → LeastAt program function pc s
    → LeastAt program function pc t
least_same program function pc s t alike least = record {
  follows = restated pc s t least.follows alike;
  below = λ states consistent. (
      let l = least.below states consistent in
      (l.0, l.1, IsBelow-trans t s l.0 (SameState-below t s alike) l.2));
}

-- ---- while an instruction is looked at

-- The states so far, but for the rule of `at`, whose state is s or which waits again. Nothing before `front` waits.
pub record Works (program : Module) (function : Function) (at : ℕ) (s : State) (front : ℕ) (table : List Entry) : Type 0 where
  pub inside : (q : ℕ) → length function.code ≤ q → stated table q ≡ None
  pub entry : Reaches (stated table) (0, entry_state function)
  pub kept : (q : ℕ) (t : State) → stated table q ≡ Some t → IsKept t
  pub settled : (q : ℕ) (t : State) → (q ≡ at → ⊥) → stated table q ≡ Some t → waits table q ≡ false → Holds program function (stated table) q t
  pub least : (q : ℕ) (t : State) → stated table q ≡ Some t → LeastAt program function q t
  pub behind : (q : ℕ) → q < front → waits table q ≡ false
  pub own : (stated table at ≡ Some s) ⊎ (waits table at ≡ true)

-- what is known of an entry that has received a state
received_cases : (o : Option State) (s u : State) → IsMetIn o s u → IsKept s → ((v : State) → o ≡ Some v → IsKept v)
    → IsKept u × IsBelow s u × ((v : State) → o ≡ Some v → IsBelow v u)
received_cases None s u met ks kv = (subst IsKept (sym met) ks, subst (λ x. IsBelow s x) (sym met) (IsBelow-refl s), λ v e. absurd cc)
received_cases (Some v) s u met ks kv =
    let m = met (kv v refl) ks in
    (m.kept, m.second, λ w e. subst (λ x. IsBelow x u) (same_Some v w e) m.first)

received_least : (program : Module) (function : Function) (pc : ℕ) (o : Option State) (s u : State) → IsMetIn o s u → IsKept s
    → ((v : State) → o ≡ Some v → IsKept v) → LeastAt program function pc s → ((v : State) → o ≡ Some v → LeastAt program function pc v)
    → LeastAt program function pc u
received_least program function pc None s u is ks kv ls lv = subst (λ x. LeastAt program function pc x) (sym is) ls
received_least program function pc (Some v) s u is ks kv ls lv =
    let m = is (kv v refl) ks in
    record {
      follows = merged pc v s u (lv v refl).follows ls.follows m;
      below = λ states consistent. (
          let a = ls.below states consistent in
          let b = (lv v refl).below states consistent in
          let same : b.0 ≡ a.0 = same_Some b.0 a.0 (sym b.1 ∙ a.1) in
          (a.0, a.1, m.least a.0 (consistent.valid pc a.0 a.1) (subst (λ x. IsBelow v x) same b.2) a.2));
    }

-- ---- one way more

pub record Arrived (old : List Entry) (target : ℕ) (s : State) (new : List Entry) (changed : Bool) (u : State) : Type 0 where
  pub elsewhere : (q : ℕ) → (q ≡ target → ⊥) → slice_get new q ≡ slice_get old q
  pub here : stated new target ≡ Some u
  pub same : changed ≡ false → new ≡ old
  pub waiting : changed ≡ true → waits new target ≡ true
  pub met : IsMetIn (stated old target) s u

pub arrived : (old : List Entry) (target : ℕ) (known : Known) (new : List Entry) (changed : Bool) (a : Arrives old target known new changed)
    → Arrived old target (state_of known) new changed (state_of a.entry.known)
arrived old target known new changed a = record {
  elsewhere = λ q ne. ap (λ xs. slice_get xs q) a.is ∙ set_off old target q a.entry ne;
  here = ap state_in there ∙ a.received.reached;
  same = λ f. a.is ∙ set_same old target a.entry (a.was ∙ ap Some (sym (a.received.same f)));
  waiting = λ f. ap waits_in there ∙ ap is_waiting (a.received.waiting f);
  met = subst (λ o. IsMetIn o (state_of known) (state_of a.entry.known)) (sym (ap state_in a.was)) a.received.met;
}
  where
    there : slice_get new target ≡ Some a.entry
    there = ap (λ xs. slice_get xs target) a.is ∙ set_here old target a.entry (slice_get_within old target a.before a.was)

-- each state that there was is at or below the one that there is
grown : (old : List Entry) (target : ℕ) (s : State) (new : List Entry) (changed : Bool) (u : State) → Arrived old target s new changed u → IsKept s
    → ((q : ℕ) (v : State) → stated old q ≡ Some v → IsKept v)
    → (q : ℕ) (v : State) → stated old q ≡ Some v → (w : State) × (stated new q ≡ Some w) × IsBelow v w
grown old target s new changed u a ks kept q v e = elim (cases_eq q target) [
  | inl at ↦ (
    u,
    ap (stated new) at ∙ a.here,
    (received_cases (stated old target) s u a.met ks (λ x f. kept target x f)).2 v
        (ap (stated old) (sym at) ∙ e),
  )
  | inr ne ↦ (v, ap state_in (a.elsewhere q ne) ∙ e, IsBelow-refl v)
]

pub reaches_on : (old : List Entry) (target : ℕ) (s : State) (new : List Entry) (changed : Bool) (u : State) → Arrived old target s new changed u
    → IsKept s → ((q : ℕ) (v : State) → stated old q ≡ Some v → IsKept v)
    → (edge : ℕ × State) → Reaches (stated old) edge → Reaches (stated new) edge
reaches_on old target s new changed u a ks kept edge r =
    let g = grown old target s new changed u a ks kept edge.0 r.0 r.1 in
    (g.0, g.1, IsBelow-trans edge.1 r.0 g.0 r.2 g.2)

-- the instruction that is looked at has its state still, or waits again
pub works_on : (program : Module) (function : Function) (at : ℕ) (s : State) (front next : ℕ) (old : List Entry) (target : ℕ) (t : State)
    (new : List Entry) (changed : Bool) (u : State)
    → Arrived old target t new changed u → target < length function.code → IsKept t → LeastAt program function target t → next ≤ front
    → (changed ≡ true → next ≤ target)
    → Works program function at s front old → Works program function at s next new
works_on program function at s front next old target t new changed u a lt kt lt' le room h = record {
  inside = λ q ge. ap state_in (a.elsewhere q (λ e. absurd (omega arith))) ∙ h.inside q ge;
  entry = reaches_on old target t new changed u a kt h.kept (0, entry_state function) h.entry;
  kept = λ q v e. elim (cases_eq q target) [
    | inl at' ↦ subst IsKept (same_Some u v (sym a.here ∙ ap (stated new) (sym at') ∙ e)) cases.0
    | inr ne ↦ h.kept q v (ap state_in (sym (a.elsewhere q ne)) ∙ e)
  ];
  settled = settled_on;
  least = λ q v e. elim (cases_eq q target) [
    | inl at' ↦ subst (λ x. LeastAt program function x v) (sym at')
        (subst (λ x. LeastAt program function target x) (same_Some u v (sym a.here ∙ ap (stated new) (sym at') ∙ e))
        (received_least program function target (stated old target) t u a.met kt (λ x f. h.kept target x f) lt' (λ x f. h.least target x f)))
    | inr ne ↦ h.least q v (ap state_in (sym (a.elsewhere q ne)) ∙ e)
  ];
  behind = λ q less. elim (cases_eq q target) [
    | inl at' ↦ elim (cases_Bool changed) [
      | inl is ↦ (let no' : next ≤ target = room is in absurd (omega arith))
      | inr not ↦ ap (λ xs. waits xs q) (a.same not) ∙ h.behind q (omega arith)
    ]
    | inr ne ↦ ap waits_in (a.elsewhere q ne) ∙ h.behind q (omega arith)
  ];
  own = elim (cases_Bool changed) [
    | inr not ↦ subst (λ xs. (stated xs at ≡ Some s) ⊎ (waits xs at ≡ true)) (sym (a.same not)) h.own
    | inl is ↦ elim (cases_eq at target) [
      | inl here ↦ inr (ap (waits new) here ∙ a.waiting is)
      | inr ne ↦ subst (λ o. (state_in o ≡ Some s) ⊎ (waits_in o ≡ true)) (sym (a.elsewhere at ne)) h.own
    ]
  ];
}
  where
    cases : IsKept u × IsBelow t u × ((v : State) → stated old target ≡ Some v → IsBelow v u)
    cases = received_cases (stated old target) t u a.met kt (λ x f. h.kept target x f)

    more : (q : ℕ) (v : State) → Holds program function (stated old) q v → Holds program function (stated new) q v
    more q v o = (o.0, o.1, o.2, o.3, λ edge m. reaches_on old target t new changed u a kt h.kept edge (o.4 edge m))

    settled_on : (q : ℕ) (v : State) → (q ≡ at → ⊥) → stated new q ≡ Some v → waits new q ≡ false → Holds program function (stated new) q v
    settled_on q v ne e w = elim (cases_eq q target) [
      | inr off ↦ more q v (h.settled q v ne (ap state_in (sym (a.elsewhere q off)) ∙ e) (ap waits_in (sym (a.elsewhere q off)) ∙ w))
      | inl here ↦ elim (cases_Bool changed) [
        | inl is ↦ absurd (let f = a.waiting is in let g : waits new target ≡ false = ap (waits new) (sym here) ∙ w in cc)
        | inr not ↦ more q v (h.settled q v ne (ap (λ xs. stated xs q) (sym (a.same not)) ∙ e) (ap (λ xs. waits xs q) (sym (a.same not)) ∙ w))
      ]
    ]

pub reaches_here : (old : List Entry) (target : ℕ) (s : State) (new : List Entry) (changed : Bool) (u : State) → Arrived old target s new changed u
    → IsKept s → ((q : ℕ) (v : State) → stated old q ≡ Some v → IsKept v) → Reaches (stated new) (target, s)
reaches_here old target s new changed u a ks kept = (u, a.here, (received_cases (stated old target) s u a.met ks (λ x f. kept target x f)).1)
