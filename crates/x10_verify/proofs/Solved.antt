-- The beginning and the end of the work list, and why it ends.
use Rattle.std.proofs.Common.{◌≡◌, ◌⊎◌, ℕ, zero, suc, ◌+◌, ◌-◌, ◌*◌, ◌<◌, ◌≤◌, Bool, true, false, List, length, Some, None, refl, sym, ap, subst, ◌∙◌, inl, inr, arith}
use Rattle.std.specs.Prelude.{slice_get}
use Rattle.std.proofs.Math.Nat.{suc-mul}
use Rattle.std.proofs.lemmas.Bool.{cases_eq, cases_lt, cases_Bool}
use Rattle.std.proofs.lemmas.Option.{same_Some}
use Rattle.x10_model.specs.Modules.{Module, Function}
use Rattle.x10_model.specs.Assignments.{State, IsState, entry_state}
use Rattle.x10_verify.specs.declared.known.Known.{Known}
use Rattle.x10_verify.specs.declared.states.Entry.{Entry}
use Rattle.x10_verify.specs.Effects.{IsKept, IsNarrow}
use Rattle.x10_verify.specs.Known.{entered, state_of}
use Rattle.x10_verify.specs.Knowledge as knowledge
use Rattle.x10_verify.specs.Knowledge.{LeastAt, SameState}
use Rattle.x10_verify.specs.Least.{IsLeast}
use Rattle.x10_verify.specs.Solving.{IsSolved, Solves}
use Rattle.x10_verify.specs.States.{state_in, stated, waits, IsFresh, IsMetIn, Arrives}
use Rattle.x10_verify.proofs.Below.{IsBelow-trans, SameState-below, SameState-sym}
use Rattle.x10_verify.proofs.WorkListLemmas.{Arrived, arrived}
use Rattle.x10_model.proofs.Lists.{none_some}

-- with the state at the entry alone
pub begins : (program : Module) (function : Function) (known : Known) (old new : List Entry) (changed : Bool) → 0 < length function.code → IsFresh old
    → Arrives old 0 known new changed
    → SameState (state_of known) (entered function.parameters) → IsState (state_of known) → IsNarrow (state_of known) → Solves program function 0 new
begins program function known old new changed some fresh arrives same state narrow = record {
  inside = λ q ge. off q (λ e. absurd (omega arith));
  entry = (
    state_of known,
    here,
    SameState-below (entry_state function) (state_of known)
        (SameState-sym (state_of known) (entry_state function) same),
  );
  kept = λ q s e. subst IsKept (only q s e).1 (record { state = state; narrow = narrow });
  settled = λ q s e w. absurd (let f = waiting in let g : waits new 0 ≡ false = ap (waits new) (sym (only q s e).0) ∙ w in cc);
  least = λ q s e. subst (λ n. LeastAt program function n s) (sym (only q s e).0) (subst (λ x. LeastAt program function 0 x) (only q s e).1 least);
  behind = λ q lt. absurd (omega arith);
}
  where
    a : Arrived old 0 (state_of known) new changed (state_of arrives.entry.known)
    a = arrived old 0 known new changed arrives

    is : state_of arrives.entry.known ≡ state_of known
    is = subst (λ o. IsMetIn o (state_of known) (state_of arrives.entry.known)) (fresh 0) a.met

    here : stated new 0 ≡ Some (state_of known)
    here = a.here ∙ ap Some is

    off : (q : ℕ) → (q ≡ 0 → ⊥) → stated new q ≡ None
    off q ne = ap state_in (a.elsewhere q ne) ∙ fresh q

    only : (q : ℕ) (s : State) → stated new q ≡ Some s → (q ≡ 0) × (state_of known ≡ s)
    only q s e = elim (cases_eq q 0) [
      | inl first ↦ (first, same_Some (state_of known) s (sym here ∙ ap (stated new) (sym first) ∙ e))
      | inr ne ↦ absurd (none_some (stated new q) s (off q ne) e)
    ]

    waiting : waits new 0 ≡ true
    waiting = elim (cases_Bool changed) [
      | inl changes ↦ a.waiting changes
      | inr stays ↦ absurd (none_some (stated new 0) (state_of known) (ap (λ t. stated t 0) (a.same stays) ∙ fresh 0) here)
    ]

    least : LeastAt program function 0 (state_of known)
    least = record {
      follows = knowledge.restated 0 (entry_state function) (state_of known) knowledge.entered same;
      below = λ states consistent. (
          let r = consistent.entry in
          (r.0, r.1, IsBelow-trans (state_of known) (entry_state function) r.0 (SameState-below (state_of known) (entry_state function) same) r.2));
    }

-- none waits any more
pub solved : (program : Module) (function : Function) (at len : ℕ) (table : List Entry) → length function.code ≡ len → len ≤ at
    → Solves program function at table → IsLeast program function (stated table)
solved program function at len table size le h = record {
  consistent = record {
    entry = h.entry;
    valid = λ pc s e. (h.kept pc s e).state;
    permitted = λ pc s e. elim (cases_lt pc len) [
      | inl lt ↦ h.settled pc s e (h.behind pc (omega arith))
      | inr ge ↦ absurd (none_some (stated table pc) s (h.inside pc (omega arith)) e)
    ];
  };
  below = λ pc s e a. (h.least pc s e).below a.0 a.1;
}

pub solved_least : (program : Module) (function : Function) (table : List Entry) → IsSolved program function table
    → IsLeast program function (stated table)
solved_least program function table h = solved program function h.0 (length function.code) table refl h.1 h.2

-- and nothing is left of the function
pub cleared : (program : Module) (function : Function) (at len : ℕ) (old new : List Entry) → length function.code ≡ len
    → Solves program function at old → ((q : ℕ) → q < len → state_in (slice_get new q) ≡ None)
    → ((q : ℕ) → len ≤ q → slice_get new q ≡ slice_get old q) → IsFresh new
cleared program function at len old new size h below above q = elim (cases_lt q len) [
  | inl lt ↦ below q lt
  | inr ge ↦ ap state_in (above q ge) ∙ h.inside q (omega arith)
]

-- an instruction that does not wait
pub passed_by : (program : Module) (function : Function) (at : ℕ) (table : List Entry) → waits table at ≡ false → Solves program function at table
    → Solves program function (at + 1) table
passed_by program function at table w h = record {
  inside = h.inside;
  entry = h.entry;
  kept = h.kept;
  settled = h.settled;
  least = h.least;
  behind = λ q lt. elim (cases_eq q at) [ inl here ↦ ap (waits table) here ∙ w | inr ne ↦ h.behind q (omega arith) ];
}

-- ---- the end of the list

mul_le : (a b k : ℕ) → a ≤ b → a * k ≤ b * k
mul_le zero b k le = omega (arith)
mul_le (suc a) zero k le = absurd (omega arith)
mul_le (suc a) (suc b) k le = let h : a * k ≤ b * k = mul_le a b k (omega arith) in omega (arith, suc-mul a k, suc-mul b k)

pub measure_falls : (before after len at next : ℕ) → at < len → ((next ≡ at + 1) × (after ≤ before)) ⊎ ((next ≤ at) × (after < before))
    → after * (len + 1) + (len - next) < before * (len + 1) + (len - at)
measure_falls before after len at next lt (inl on) =
    let h : after * (len + 1) ≤ before * (len + 1) = mul_le after before (len + 1) on.1 in
    let e : next ≡ at + 1 = on.0 in
    omega arith
measure_falls before after len at next lt (inr back) =
    let h : suc after * (len + 1) ≤ before * (len + 1) = mul_le (suc after) before (len + 1) (omega arith) in
    let e : next ≤ at = back.0 in
    omega (arith, suc-mul after (len + 1))
