-- One waiting instruction more: the states so far stay sound and least, or there is no consistent assignment.
use Rattle.std.proofs.Common.{◌≡◌, ◌⊎◌, ℕ, zero, suc, ◌+◌, ◌<◌, ◌≤◌, Bool, true, false, List, ◌++◌, length, Some, Result, refl, sym, ap, subst, ◌∙◌, inl, inr, arith}
use Rattle.std.specs.Prelude.{slice_get}
use Rattle.std.proofs.lemmas.Bool.{cases_eq}
use Rattle.x10_code.specs.declared.instr.Instr.{Instr}
use Rattle.x10_code.specs.declared.operands.Operand.TheVariants as operand
use Rattle.x10_code.specs.Table.{form_of}
use Rattle.x10_model.specs.Maps.{IsIn}
use Rattle.x10_model.specs.Modules.{Module, Function}
use Rattle.x10_model.specs.Structure.{is_target}
use Rattle.x10_model.specs.Assignments.{State, IsState, Reaches, HasAssignment, entry_state, holds_place}
use Rattle.x10_verify.specs.declared.fault.FlowCause.{FlowCause}
use Rattle.x10_verify.specs.declared.known.Known.{Known}
use Rattle.x10_verify.specs.declared.states.Mark.{Mark}
use Rattle.x10_verify.specs.declared.states.Mark.TheVariants.{Waiting, Done}
use Rattle.x10_verify.specs.declared.states.Entry.{Entry}
use Rattle.x10_code.specs.declared.rule.Effect.{Effect}
use Rattle.x10_verify.specs.Knowledge.{LeastAt, SameState, point}
use Rattle.x10_verify.specs.Known.{state_of}
use Rattle.x10_verify.specs.Effects.{IsKept, IsNarrow, IsSoundIn}
use Rattle.x10_code.specs.Rules.{rule_for, goes_on_of}
use Rattle.x10_model.specs.Assignments.{Grants, after, edge_if, edges_of}
use Rattle.x10_verify.specs.States.{IsDone, Takes, state_if, state_in, stated, waits, waits_in, is_waiting, total}
use Rattle.x10_verify.specs.declared.fault.FlowCause.TheVariants as flow
use Rattle.x10_verify.specs.Causes.{IsCauseAt}
use Rattle.x10_verify.specs.Solving.{Holds, LeadsOut, Shows, Solves, Jumps, JumpsIf, GoesOn, GoesOnIf, Stops}
use Rattle.x10_verify.proofs.Below.{IsBelow-trans, SameState-below, SameState-sym}
use Rattle.x10_verify.proofs.Effects.{after_state}
use Rattle.x10_verify.proofs.SettledLemmas.{grants_sound, ResultsFit}
use Rattle.x10_verify.proofs.WorkListLemmas.{Works, Arrived, arrived, works_on, reaches_on, reaches_here, least_on, least_jump, least_never, least_past, least_same}
use Rattle.x10_verify.proofs.Tables.{table_sound}
use Rattle.x10_verify.proofs.Tabled.{arrives_size, arrives_total, done_total}
use Rattle.std.proofs.Math.ListN.{length-set}
use Rattle.x10_kinds.specs.declared.homes.Term.TheVariants as term
use Rattle.x10_model.proofs.Lists.{set_here, set_off}
use Rattle.std.proofs.lemmas.Option.{same_Some, slice_get_within}

-- an instruction that waits has a state
waiting_state : (m : Mark) (k : Known) → is_waiting m ≡ true → state_if m k ≡ Some (state_of k)
waiting_state Waiting k e = refl
waiting_state _ k e = absurd cc

-- ---- the instruction is taken

pub taken_state : (old : List Entry) (at : ℕ) (known : Known) (new : List Entry) → Takes old at known new → stated old at ≡ Some (state_of known)
taken_state old at known new t = ap state_in t.was ∙ waiting_state t.before.mark t.before.known t.waited ∙ ap (λ k. Some (state_of k)) t.known_is

pub takes : (program : Module) (function : Function) (at : ℕ) (known : Known) (old new : List Entry) → Takes old at known new
    → Solves program function at old → Works program function at (state_of known) (at + 1) new
takes program function at known old new t h = record {
  inside = λ q ge. same q ∙ h.inside q ge;
  entry = on (0, entry_state function) h.entry;
  kept = λ q s e. h.kept q s (sym (same q) ∙ e);
  settled = λ q s ne e w. (let o = h.settled q s (sym (same q) ∙ e) (ap waits_in (sym (off q ne)) ∙ w) in
      (o.0, o.1, o.2, o.3, λ edge m. on edge (o.4 edge m)));
  least = λ q s e. h.least q s (sym (same q) ∙ e);
  behind = λ q less. elim (cases_eq q at) [
    | inl here ↦ ap (waits new) here ∙ ap waits_in there
    | inr ne ↦ ap waits_in (off q ne) ∙ h.behind q (omega arith)
  ];
  own = inl (same at ∙ taken_state old at known new t);
}
  where
    done : Entry
    done = record { mark = Done; known = t.before.known }

    there : slice_get new at ≡ Some done
    there = ap (λ xs. slice_get xs at) t.is ∙ set_here old at done (slice_get_within old at t.before t.was)

    off : (q : ℕ) → (q ≡ at → ⊥) → slice_get new q ≡ slice_get old q
    off q ne = ap (λ xs. slice_get xs q) t.is ∙ set_off old at q done ne

    same : (q : ℕ) → stated new q ≡ stated old q
    same q = elim (cases_eq q at) [
      | inl here ↦ ap (stated new) here ∙ ap state_in there ∙ ap (λ k. Some (state_of k)) t.known_is ∙ sym (taken_state old at known new t)
          ∙ ap (stated old) (sym here)
      | inr ne ↦ ap state_in (off q ne)
    ]

    on : (edge : ℕ × State) → Reaches (stated old) edge → Reaches (stated new) edge
    on edge r = (r.0, same edge.0 ∙ r.1, r.2)

-- ---- what follows

kept_state : (s t : State) → SameState t s → IsState s → IsNarrow t → IsKept t
kept_state s t same is narrow = record {
  state = record {
    equivalence = record {
      reflexive = λ v tv. same.homes v v tv tv ∙ is.equivalence.reflexive v tv;
      symmetric = λ v w tv tw e. same.homes w v tw tv ∙ is.equivalence.symmetric v w tv tw (sym (same.homes v w tv tw) ∙ e);
      transitive = λ u v w tu tv tw a b. same.homes u w tu tw ∙ is.equivalence.transitive u v w tu tv tw (sym (same.homes u v tu tv) ∙ a)
          (sym (same.homes v w tv tw) ∙ b);
    };
    alone = λ r x lt none tx e. is.alone r x lt (subst (λ o. holds_place o ≡ false) (same.kinds r) none) tx
        (sym (same.homes (term.Reg r) x lt tx) ∙ e);
  };
  narrow = narrow;
}

pub record Followed (program : Module) (function : Function) (at : ℕ) (s : State) (instr : Instr) (next : ℕ) (table : List Entry)
    (jumps : Bool) : Type 0 where
  pub works : Works program function at s next table
  pub near : next ≤ at + 1
  pub jumped : jumps ≡ true → Reaches (stated table) (instr.x, s)

pub jump_on : (program : Module) (function : Function) (at len : ℕ) (instr : Instr) (known : Known) (effect : Effect) (old new : List Entry)
    (next : ℕ) (b : Bool) → length function.code ≡ len → is_target (form_of instr.op).x ≡ b → slice_get function.code at ≡ Some instr
    → IsKept (state_of known) → LeastAt program function at (state_of known)
    → Grants (rule_for instr.op instr) (point program function at instr) (state_of known) effect → JumpsIf b instr at len known old next new
    → Works program function at (state_of known) (at + 1) old → Followed program function at (state_of known) instr next new b
jump_on program function at len instr known effect old new next false size jumps is kept least grants j w = record {
  works = subst (λ n. Works program function at (state_of known) n new) (sym j.0)
      (subst (λ t. Works program function at (state_of known) (at + 1) t) (sym j.1) w);
  near = (let e = j.0 in omega arith);
  jumped = λ f. absurd cc;
}
jump_on program function at len instr known effect old new next true size jumps is kept least grants j w = record {
  works = works_on program function at (state_of known) (at + 1) next old instr.x (state_of known) new j.0 (state_of j.2.entry.known) a
      (let l = j.1 in omega arith) kept (least_jump program function at (state_of known) instr effect kept.narrow is least grants jumps) near room w;
  near = near;
  jumped = λ f. reaches_here old instr.x (state_of known) new j.0 (state_of j.2.entry.known) a kept w.kept;
}
  where
    a : Arrived old instr.x (state_of known) new j.0 (state_of j.2.entry.known)
    a = arrived old instr.x known new j.0 j.2

    near : next ≤ at + 1
    near = elim j.3 [ inl back ↦ (let e = back.2 in let l = back.1 in omega arith) | inr on ↦ (let e = on.1 in omega arith) ]

    room : j.0 ≡ true → next ≤ instr.x
    room f = elim j.3 [ inl back ↦ (let e = back.2 in omega arith) | inr on ↦ (let l = on.0 f in let e = on.1 in omega arith) ]

pub record Passed (program : Module) (function : Function) (at : ℕ) (s : State) (instr : Instr) (effect : Effect) (next : ℕ) (table : List Entry)
    (jumps on : Bool) : Type 0 where
  pub works : Works program function at s next table
  pub jumped : jumps ≡ true → Reaches (stated table) (instr.x, s)
  pub onward : on ≡ true → Reaches (stated table) (at + 1, after instr.a s effect)

pub go_on_on : (program : Module) (function : Function) (at len : ℕ) (instr : Instr) (known : Known) (effect : Effect) (old new : List Entry)
    (next : ℕ) (j b : Bool) → length function.code ≡ len → goes_on_of instr.op ≡ b → slice_get function.code at ≡ Some instr
    → IsKept (state_of known) → LeastAt program function at (state_of known)
    → Grants (rule_for instr.op instr) (point program function at instr) (state_of known) effect → IsSoundIn (state_of known) effect
    → GoesOnIf b instr at len effect known old new → Followed program function at (state_of known) instr next old j
    → Passed program function at (state_of known) instr effect next new j b
go_on_on program function at len instr known effect old new next j false size on is kept least grants sound g f = record {
  works = subst (λ t. Works program function at (state_of known) next t) (sym g) f.works;
  jumped = λ e. subst (λ t. Reaches (stated t) (instr.x, state_of known)) (sym g) (f.jumped e);
  onward = λ e. absurd cc;
}
go_on_on program function at len instr known effect old new next j true size on is kept least grants sound g f = record {
  works = works_on program function at (state_of known) next next old (at + 1) (state_of g.1) new g.0 (state_of g.5.entry.known) a
      (let l = g.2 in omega arith) kept_t
      (least_same program function (at + 1) (after instr.a (state_of known) effect) (state_of g.1) (g.4 kept.state)
      (least_on program function at (state_of known) instr effect kept.narrow is least grants sound on)) (omega arith) (λ e. f.near) f.works;
  jumped = λ e. reaches_on old (at + 1) (state_of g.1) new g.0 (state_of g.5.entry.known) a kept_t f.works.kept (instr.x, state_of known)
      (f.jumped e);
  onward = λ e. (let r = reaches_here old (at + 1) (state_of g.1) new g.0 (state_of g.5.entry.known) a kept_t f.works.kept in (
    r.0,
    r.1,
    IsBelow-trans (after instr.a (state_of known) effect) (state_of g.1) r.0
        (SameState-below (after instr.a (state_of known) effect) (state_of g.1)
        (SameState-sym (state_of g.1) (after instr.a (state_of known) effect) (g.4 kept.state))) r.2,
  ));
}
  where
    a : Arrived old (at + 1) (state_of g.1) new g.0 (state_of g.5.entry.known)
    a = arrived old (at + 1) g.1 new g.0 g.5

    kept_t : IsKept (state_of g.1)
    kept_t = kept_state (after instr.a (state_of known) effect) (state_of g.1) (g.4 kept.state)
        (after_state instr.a (state_of known) effect sound kept.state) g.3

-- ---- the rule holds again

pub edges_in : (a b : Bool) (pc x : ℕ) (s t : State) (edge : ℕ × State) → IsIn edge (edge_if a pc s ++ edge_if b x t)
    → ((a ≡ true) × (edge ≡ (pc, s))) ⊎ ((b ≡ true) × (edge ≡ (x, t)))
edges_in true b pc x s t edge (zero, e) = inl (refl, sym (same_Some (pc, s) edge e))
edges_in true true pc x s t edge (suc zero, e) = inr (refl, sym (same_Some (x, t) edge e))
edges_in true true pc x s t edge (suc (suc i), e) = absurd cc
edges_in true false pc x s t edge (suc i, e) = absurd cc
edges_in false true pc x s t edge (zero, e) = inr (refl, sym (same_Some (x, t) edge e))
edges_in false true pc x s t edge (suc i, e) = absurd cc
edges_in false false pc x s t edge (i, e) = absurd cc

pub finishes : (program : Module) (function : Function) (at : ℕ) (s : State) (instr : Instr) (effect : Effect) (next : ℕ) (table : List Entry)
    → slice_get function.code at ≡ Some instr
    → Grants (rule_for instr.op instr) (point program function at instr) s effect
    → Passed program function at s instr effect next table (is_target (form_of instr.op).x) (goes_on_of instr.op)
    → Solves program function next table
finishes program function at s instr effect next table is grants p = record {
  inside = p.works.inside;
  entry = p.works.entry;
  kept = p.works.kept;
  settled = λ q t e w. elim (cases_eq q at) [
    | inr ne ↦ p.works.settled q t ne e w
    | inl here ↦ subst (λ n. Holds program function (stated table) n t) (sym here)
        (holds t (ap (stated table) (sym here) ∙ e) (ap (waits table) (sym here) ∙ w))
  ];
  least = p.works.least;
  behind = p.works.behind;
}
  where
    reached : (edge : ℕ × State) → IsIn edge (edges_of instr.op (point program function at instr) s effect) → Reaches (stated table) edge
    reached edge m = elim (edges_in (goes_on_of instr.op) (is_target (form_of instr.op).x) (at + 1) instr.x (after instr.a s effect) s edge m) [
      | inl first ↦ subst (λ e. Reaches (stated table) e) (sym first.1) (p.onward first.0)
      | inr second ↦ subst (λ e. Reaches (stated table) e) (sym second.1) (p.jumped second.0)
    ]

    holds : (t : State) → stated table at ≡ Some t → waits table at ≡ false → Holds program function (stated table) at t
    holds t e w = elim p.works.own [
      | inr waiting ↦ absurd (let f = waiting in cc)
      | inl own ↦ subst (λ x. Holds program function (stated table) at x) (same_Some s t (sym own ∙ e))
          (instr, edges_of instr.op (point program function at instr) s effect, is, (effect, grants, refl), reached)
    ]

-- ---- the whole step

pub step_on : (program : Module) (function : Function) (at len : ℕ) (instr : Instr) (known : Known) (effect : Effect) (next : ℕ)
    (t0 t1 t2 t3 : List Entry) → length function.code ≡ len → slice_get function.code at ≡ Some instr
    → ResultsFit program → ((form_of instr.op).x ≡ operand.Place → instr.x < 64) → Takes t0 at known t1
    → Grants (rule_for instr.op instr) (point program function at instr) (state_of known) effect
    → JumpsIf (is_target (form_of instr.op).x) instr at len known t1 next t2 → GoesOnIf (goes_on_of instr.op) instr at len effect known t2 t3
    → Solves program function at t0 → Solves program function next t3
step_on program function at len instr known effect next t0 t1 t2 t3 size is fit place t grants j g h =
    let own = taken_state t0 at known t1 t in
    let kept : IsKept (state_of known) = h.kept at (state_of known) own in
    let least : LeastAt program function at (state_of known) = h.least at (state_of known) own in
    let sound = grants_sound (rule_for instr.op instr) (point program function at instr) (state_of known) effect kept.narrow fit
    (table_sound instr.op instr place) grants in
    let w = takes program function at known t0 t1 t h in
    let f = jump_on program function at len instr known effect t1 t2 next (is_target (form_of instr.op).x) size refl is kept least grants j w in
    let p = go_on_on program function at len instr known effect t2 t3 next (is_target (form_of instr.op).x)
    (goes_on_of instr.op) size refl is kept least grants sound g f in
    finishes program function at (state_of known) instr effect next t3 is grants p

-- the state of a taken instruction stays in the table
pub taken_there : (old : List Entry) (at : ℕ) (known : Known) (new : List Entry) → Takes old at known new → stated new at ≡ Some (state_of known)
taken_there old at known new t = ap state_in (ap (λ xs. slice_get xs at) t.is
    ∙ set_here old at (record { mark = Done; known = t.before.known }) (slice_get_within old at t.before t.was))
    ∙ ap (λ k. Some (state_of k)) t.known_is

-- what is done, and where it stands
pub taken_entry : (old : List Entry) (at : ℕ) (known : Known) (new : List Entry) → Takes old at known new
    → (entry : Entry) × (slice_get new at ≡ Some entry) × (entry.known ≡ known)
taken_entry old at known new t = (
  record { mark = Done; known = t.before.known },
  ap (λ xs. slice_get xs at) t.is ∙ set_here old at (record { mark = Done; known = t.before.known }) (slice_get_within old at t.before t.was),
  t.known_is,
)

pub taken_done : (old : List Entry) (at : ℕ) (known : Known) (new : List Entry) → Takes old at known new → IsDone new at
taken_done old at known new t = (
  t.before.known,
  ap (λ xs. slice_get xs at) t.is
      ∙ set_here old at (record { mark = Done; known = t.before.known }) (slice_get_within old at t.before t.was),
)

-- what is read where it is kept is what was taken
pub taken_read : (old : List Entry) (at : ℕ) (known read : Known) (new : List Entry) → Takes old at known new
    → ((entry : Entry) → slice_get new at ≡ Some entry → read ≡ entry.known) → Takes old at read new
taken_read old at known read new t reads = let e = taken_entry old at known new t in subst (λ k. Takes old at k new) (sym (reads e.0 e.1 ∙ e.2)) t

-- where the state that was taken is led
pub jumped_on : (instr : Instr) (at len : ℕ) (old : List Entry) (known : Known) (t1 : List Entry) (r : Result ℕ FlowCause) (t2 : List Entry)
    → Takes old at known t1
    → ((entry : Entry) → slice_get t1 at ≡ Some entry → Jumps instr at len entry.known t1 r t2) → Jumps instr at len known t1 r t2
jumped_on instr at len old known t1 r t2 t says = let e = taken_entry old at known t1 t in
    subst (λ (k : Known). Jumps instr at len k t1 r t2) e.2 (says e.0 e.1)

-- where it goes on, after that
pub handed_on : (instr : Instr) (at len : ℕ) (effect : Effect) (old : List Entry) (known : Known) (t1 t2 : List Entry) (r : Result Unit FlowCause)
    (t3 : List Entry) → Takes old at known t1 → slice_get t2 at ≡ slice_get t1 at
    → ((entry : Entry) → slice_get t2 at ≡ Some entry → GoesOn instr at len effect entry.known t2 r t3) → GoesOn instr at len effect known t2 r t3
handed_on instr at len effect old known t1 t2 r t3 t same says = let e = taken_entry old at known t1 t in
    subst (λ (k : Known). GoesOn instr at len effect k t2 r t3) e.2 (says e.0 (same ∙ e.1))

-- the table keeps its length
jump_size : (instr : Instr) (at len : ℕ) (known : Known) (next : ℕ) (t1 t2 : List Entry) (b : Bool) → JumpsIf b instr at len known t1 next t2
    → length t2 ≡ length t1
jump_size instr at len known next t1 t2 false j = ap length j.1
jump_size instr at len known next t1 t2 true j = arrives_size t1 instr.x known t2 j.0 j.2

go_on_size : (instr : Instr) (at len : ℕ) (effect : Effect) (known : Known) (t2 t3 : List Entry) (b : Bool)
    → GoesOnIf b instr at len effect known t2 t3 → length t3 ≡ length t2
go_on_size instr at len effect known t2 t3 false g = ap length g
go_on_size instr at len effect known t2 t3 true g = arrives_size t2 (at + 1) g.1 t3 g.0 g.5

pub jumped_size : (instr : Instr) (at len : ℕ) (known : Known) (next : ℕ) (t0 t1 t2 : List Entry) → Takes t0 at known t1
    → JumpsIf (is_target (form_of instr.op).x) instr at len known t1 next t2 → length t2 ≡ length t0
jumped_size instr at len known next t0 t1 t2 t j =
    jump_size instr at len known next t1 t2 (is_target (form_of instr.op).x) j ∙ ap length t.is
    ∙ length-set t0 at (record { mark = Done; known = t.before.known })

pub step_size : (instr : Instr) (at len : ℕ) (known : Known) (effect : Effect) (next : ℕ) (t0 t1 t2 t3 : List Entry) → Takes t0 at known t1
    → JumpsIf (is_target (form_of instr.op).x) instr at len known t1 next t2 → GoesOnIf (goes_on_of instr.op) instr at len effect known t2 t3
    → length t3 ≡ length t0
step_size instr at len known effect next t0 t1 t2 t3 t j g =
    go_on_size instr at len effect known t2 t3 (goes_on_of instr.op) g ∙ jumped_size instr at len known next t0 t1 t2 t j

-- a rule that does not hold
pub step_refused : (program : Module) (function : Function) (at : ℕ) (instr : Instr) (known : Known) (why : FlowCause) (t0 t1 : List Entry)
    → slice_get function.code at ≡ Some instr → Takes t0 at known t1
    → ((e : Effect) → Grants (rule_for instr.op instr) (point program function at instr) (state_of known) e → ⊥)
    → IsCauseAt (rule_for instr.op instr) (point program function at instr) (state_of known) why
    → Solves program function at t0 → (HasAssignment program function → ⊥) × Stops program function at why × Shows program function at why t1
step_refused program function at instr known why t0 t1 is t never cause h =
    let own = taken_state t0 at known t1 t in
    let least = h.least at (state_of known) own in (
      least_never program function at (state_of known) instr (h.kept at (state_of known) own).narrow is least never,
      inl (record { instr = instr; state = state_of known; is_instr = is; follows = least.follows; cause = cause }),
      record {
        least = (takes program function at known t0 t1 t h).least;
        stops = inl (instr, state_of known, is, taken_there t0 at known t1 t, cause);
      },
    )

-- a jump out of the function
pub step_jumps_out : (program : Module) (function : Function) (at len : ℕ) (instr : Instr) (known : Known) (effect : Effect) (why : FlowCause)
    (t0 t1 t2 : List Entry) → length function.code ≡ len → slice_get function.code at ≡ Some instr → Takes t0 at known t1
    → Grants (rule_for instr.op instr) (point program function at instr) (state_of known) effect → is_target (form_of instr.op).x ≡ true
    → len ≤ instr.x → why ≡ flow.Unset → t2 ≡ t1
    → Solves program function at t0 → (HasAssignment program function → ⊥) × Stops program function at why × Shows program function at why t2
step_jumps_out program function at len instr known effect why t0 t1 t2 size is t grants jumps out unset same h =
    let own = taken_state t0 at known t1 t in
    let least = h.least at (state_of known) own in
    let leads : LeadsOut function at instr why = (unset, inl (jumps, (let e : length function.code ≤ instr.x = omega arith in e))) in (
      least_past program function instr.x (state_of known) (omega arith)
          (least_jump program function at (state_of known) instr effect (h.kept at (state_of known) own).narrow is least grants jumps),
      inr (instr, is, leads),
      subst (λ x. Shows program function at why x) (sym same) (record
          { least = (takes program function at known t0 t1 t h).least; stops = inr (instr, is, leads) }),
    )

-- the last instruction goes on
pub step_runs_out : (program : Module) (function : Function) (at len : ℕ) (instr : Instr) (known : Known) (effect : Effect) (why : FlowCause)
    (next : ℕ) (t0 t1 t2 t3 : List Entry) → length function.code ≡ len → slice_get function.code at ≡ Some instr → ResultsFit program
    → ((form_of instr.op).x ≡ operand.Place → instr.x < 64) → Takes t0 at known t1
    → Grants (rule_for instr.op instr) (point program function at instr) (state_of known) effect
    → JumpsIf (is_target (form_of instr.op).x) instr at len known t1 next t2
    → goes_on_of instr.op ≡ true → len ≤ at + 1 → why ≡ flow.Unset → t3 ≡ t2
    → Solves program function at t0 → (HasAssignment program function → ⊥) × Stops program function at why × Shows program function at why t3
step_runs_out program function at len instr known effect why next t0 t1 t2 t3 size is fit place t grants j on out unset same h =
    let own = taken_state t0 at known t1 t in
    let kept : IsKept (state_of known) = h.kept at (state_of known) own in
    let least = h.least at (state_of known) own in
    let sound = grants_sound (rule_for instr.op instr) (point program function at instr) (state_of known) effect kept.narrow fit
    (table_sound instr.op instr place) grants in
    let f = jump_on program function at len instr known effect t1 t2 next (is_target (form_of instr.op).x) size refl is kept least grants j
    (takes program function at known t0 t1 t h) in
    let leads : LeadsOut function at instr why = (unset, inr (on, (let e : length function.code ≤ at + 1 = omega arith in e))) in (
      least_past program function (at + 1) (after instr.a (state_of known) effect) (omega arith)
          (least_on program function at (state_of known) instr effect kept.narrow is least grants sound on),
      inr (instr, is, leads),
      subst (λ x. Shows program function at why x) (sym same) (record { least = f.works.least; stops = inr (instr, is, leads) }),
    )

-- ---- how often the table can change

jump_total : (instr : Instr) (at len : ℕ) (known : Known) (old new : List Entry) (next : ℕ) (b : Bool) → JumpsIf b instr at len known old next new
    → ((next ≡ at + 1) × (total new ≤ total old)) ⊎ ((next ≤ at) × (total new < total old))
jump_total instr at len known old new next false j = inl (j.0, (let e : total new ≡ total old = ap total j.1 in omega arith))
jump_total instr at len known old new next true j =
    let t = arrives_total old instr.x known new j.0 j.2 in
    elim j.3 [
      | inl back ↦ inr ((let e = back.2 in let l = back.1 in omega arith), t.1 back.0)
      | inr on ↦ inl (on.1, t.0)
    ]

go_on_total : (instr : Instr) (at len : ℕ) (effect : Effect) (known : Known) (old new : List Entry) (b : Bool)
    → GoesOnIf b instr at len effect known old new → total new ≤ total old
go_on_total instr at len effect known old new false g = let e : total new ≡ total old = ap total g in omega arith
go_on_total instr at len effect known old new true g = (arrives_total old (at + 1) g.1 new g.0 g.5).0

pub step_total : (instr : Instr) (at len : ℕ) (known : Known) (effect : Effect) (next : ℕ) (t0 t1 t2 t3 : List Entry) → Takes t0 at known t1
    → JumpsIf (is_target (form_of instr.op).x) instr at len known t1 next t2 → GoesOnIf (goes_on_of instr.op) instr at len effect known t2 t3
    → ((next ≡ at + 1) × (total t3 ≤ total t0)) ⊎ ((next ≤ at) × (total t3 < total t0))
step_total instr at len known effect next t0 t1 t2 t3 t j g =
    let a : total t1 ≤ total t0 = subst (λ xs. total xs ≤ total t0) (sym t.is) (done_total t0 at t.before t.was t.waited) in
    let c : total t3 ≤ total t2 = go_on_total instr at len effect known t2 t3 (goes_on_of instr.op) g in
    elim (jump_total instr at len known t1 t2 next (is_target (form_of instr.op).x) j) [
      | inl on ↦ inl (on.0, (let b : total t2 ≤ total t1 = on.1 in omega arith))
      | inr back ↦ inr (back.0, (let b : total t2 < total t1 = back.1 in omega arith))
    ]
