-- A register that is known to be set is shown as the value that the machine's register holds.
use Rattle.std.proofs.Common.{◌≡◌, ℕ, List, Option, Some, None, slice_get, slice_index, refl, subst}
use Rattle.x10_kinds.specs.declared.kind.Kind.{Kind}
use Rattle.x10_kinds.specs.Kinds.{Fits}
use Rattle.x10_kinds.proofs.KindLemmas.{Fits-antisym}
use Rattle.x10_model.proofs.Lists.{same_some}
use Rattle.x10_model.specs.Modules.{Module, Function}
use Rattle.x10_model.specs.Ranges.{function_at}
use Rattle.x10_model.specs.Assignments.{State, IsKind}
use Rattle.x10_model.specs.Places as machine
use Rattle.x10_heap.specs.Words.{Context}
use Rattle.x10_place.specs.declared.call_frame.CallFrame.{CallFrame}
use Rattle.x10_place.specs.StandsFor.{Assigned, StandsForFrame}
use Rattle.x10_verify.specs.Flows.{FlowFacts, kind_of, states_of}
use Rattle.x10_verify.specs.Least.{IsLeast}
use Rattle.x10_states.proofs.ValueLaws.{shown}
use Rattle.x10_states.specs.Kinds.{AreLeast, kind_by, known_kind}
use Rattle.x10_states.specs.Laws.{IsShownAsHeld}

-- the state of which the kind of a register is known
record Knows (o : Option State) (r : ℕ) (k : Kind) : Type 0 where
  state : State
  is_state : o ≡ Some state
  is_kind : state.kinds r ≡ Some k

knows : (o : Option State) (r : ℕ) (k : Kind) → kind_of o r ≡ Some k → Knows o r k
knows None r k e = absurd cc
knows (Some s) r k e = record { state = s; is_state = refl; is_kind = e }

-- two least assignments know the same kinds
same_kinds : (m : Module) (function : Function) (a b : ℕ → Option State) (pc r : ℕ) (k : Kind) (t : State) → IsLeast m function a → IsLeast m function b
    → kind_of (a pc) r ≡ Some k → b pc ≡ Some t → t.kinds r ≡ Some k
same_kinds m function a b pc r k t la lb e there =
    let s = knows (a pc) r k e in
    let down = lb.below pc t there (a, la.consistent) in
    let up = la.below pc s.state s.is_state (b, lb.consistent) in
    let of_t : IsKind t r k = down.2.kinds r k (subst (λ (u : State). u.kinds r ≡ Some k) (same_some (a pc) s.state down.0 s.is_state down.1) s.is_kind) in
    let of_s : IsKind s.state r of_t.0 = up.2.kinds r of_t.0 (subst (λ (u : State). u.kinds r ≡ Some of_t.0) (same_some (b pc) t up.0 there up.1) of_t.1) in
    subst (λ (j : Kind). t.kinds r ≡ Some j)
    (Fits-antisym of_t.0 k of_t.2 (subst (λ (j : Kind). Fits j of_t.0) (same_some (s.state.kinds r) of_s.0 k of_s.1 s.is_kind) of_s.2)) of_t.1

held : (m : Module) (assigned : Assigned m) (x : Context) (f : CallFrame) (c : machine.CallFrame) (r : ℕ) (k : Kind) (o : Option FlowFacts)
    → ((function : Function) (flow : FlowFacts) → function_at m f.function ≡ Some function → o ≡ Some flow → IsLeast m function (states_of flow))
    → StandsForFrame m assigned x f c → kind_by o f.pc r ≡ Some k → IsShownAsHeld x.heap k (slice_index f.registers.items r) (c.registers r)
held m assigned x f c r k None least stands e = absurd cc
held m assigned x f c r k (Some flow) least stands e =
    let own = assigned f.function stands.function stands.is_function in
    let is_kind = same_kinds m stands.function (states_of flow) own.0 f.pc r k stands.state (least stands.function flow stands.is_function refl) own.1 e
    stands.is_state in
    let word = stands.words r k is_kind in
    (word.0, word.1, shown x k (slice_index f.registers.items r) word.0 word.2)

pub shown_as_held : (m : Module) (flows : List FlowFacts) (assigned : Assigned m) (x : Context) (f : CallFrame) (c : machine.CallFrame) (r : ℕ) (k : Kind)
    → AreLeast m flows → StandsForFrame m assigned x f c → known_kind flows f.function f.pc r ≡ Some k
    → IsShownAsHeld x.heap k (slice_index f.registers.items r) (c.registers r)
shown_as_held m flows assigned x f c r k least stands e =
    held m assigned x f c r k (slice_get flows f.function) (λ function flow here there. least.least f.function function flow here there) stands e
