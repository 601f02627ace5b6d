-- A call frame that stands for one of the machine: the verifier's rule at its instruction, and call frames after it.
use Rattle.std.proofs.Common.{◌≡◌, ℕ, ◌+◌, ◌<◌, ◌≤◌, List, [], ◌∷◌, length, get_or, set, Option, Some, sym, ap, subst, ◌∙◌, inl, inr, arith, get_or-set_same, get_or-set_other}
use Rattle.std.specs.Prelude.{slice_get, slice_index, slice_set}
use Rattle.std.proofs.lemmas.Option.{same_Some}
use Rattle.std.proofs.lemmas.Bool.{cases_eq}
use Rattle.x10_kinds.specs.declared.kind.Kind.{Kind}
use Rattle.x10_kinds.specs.declared.homes.Term.{Term}
use Rattle.x10_code.specs.declared.instr.Instr.{Instr}
use Rattle.x10_model.specs.Maps.{with_entry, IsIn}
use Rattle.x10_model.specs.Modules.{Module, Function}
use Rattle.x10_model.specs.Ranges.{function_at, IsInRange}
use Rattle.x10_model.specs.Places as machine
use Rattle.x10_model.specs.Assignments.{State, Point, Edges, Permits, Reaches}
use Rattle.x10_model.specs.Assignments.{set as set_kind}
use Rattle.x10_model.proofs.Maps.{at_key, off_key}
use Rattle.x10_place.specs.declared.call_frame.CallFrame.{CallFrame}
use Rattle.x10_heap.specs.Heaps.{HeapState}
use Rattle.x10_heap.specs.Words.{Context}
use Rattle.x10_place.specs.Homes.{AreHomes}
use Rattle.x10_place.specs.Frames.{Becomes, space_of, HasSizes, IsFetchedFor}
use Rattle.x10_place.specs.StandsFor.{Assigned, HoldRegisters, StandsForFrame}
use Rattle.x10_place.proofs.Words.{words_weaken}
use Rattle.x10_place.proofs.Homes.{homes_weaken}

-- ---- what an assignment says of an instruction

-- the assignment of a function says this of an instruction
abbrev pub HasState : (program : Module) → Assigned program → ℕ → ℕ → State → Type 0
HasState program assigned n pc s = (function : Function) × (is : function_at program n ≡ Some function) × ((assigned n function is).0 pc ≡ Some s)

pub has_state : (program : Module) (assigned : Assigned program) (m n pc q : ℕ) (s : State) → m ≡ n → pc ≡ q → HasState program assigned m pc s
    → HasState program assigned n q s
has_state program assigned m n pc q s e g h = subst (λ k. HasState program assigned k q s) e (subst (λ k. HasState program assigned m k s) g h)

-- a call frame of the same function, at an instruction, with these words in its registers, and these turns in its slots
pub record FrameAfter (f g : CallFrame) (pc : ℕ) (words loops : List ℕ) : Type 0 where
  pub function_is : g.function ≡ f.function
  pub pc_is : g.pc ≡ pc
  pub words_are : g.registers.items ≡ words
  pub loops_are : g.loops ≡ loops

pub after_of : (f g : CallFrame) (heap kept : HeapState) (pc : ℕ) (words loops : List ℕ) → g.function ≡ f.function
    → Becomes (space_of g heap) pc words loops kept → FrameAfter f g pc words loops
after_of f g heap kept pc words loops same b = record { function_is = same; pc_is = b.pc_is; words_are = b.words_are; loops_are = b.loops_are }

-- to the next instruction
abbrev pub onward : Point → State → Edges
onward p s = (p.pc + 1, s) ∷ []

-- to the next instruction, or to x with what was known before
abbrev pub onward_or : Point → State → State → Edges
onward_or p s before = (p.pc + 1, s) ∷ (p.instr.x, before) ∷ []

-- register a is written
abbrev pub gives : Point → State → Kind → Option Term → State
gives p s kind like = set_kind s p.instr.a kind like

abbrev pub point_of : Module → Function → CallFrame → Instr → Point
point_of program function f i = record { program = program; function = function; pc = f.pc; instr = i }

-- the turns of a loop are written
pub slots_written : (cl : ℕ → ℕ) (l : List ℕ) (a n : ℕ) → a < 8 → length l ≡ 8 → ((slot : ℕ) → slot < 8 → cl slot ≡ slice_index l slot) → (slot : ℕ)
    → slot < 8 → with_entry cl a n slot ≡ slice_index (slice_set l a n) slot
slots_written cl l a n lt eight same slot less = elim (cases_eq slot a) [
  | inl at ↦ ap (λ q. with_entry cl a n q) at ∙ at_key cl a n ∙ sym (get_or-set_same l a n 0 (omega (arith, lt, eight)))
      ∙ ap (λ q. get_or (set l a n) q 0) (sym at)
  | inr off ↦ off_key cl a slot n off ∙ same slot less ∙ sym (get_or-set_other l a slot n 0 off)
]

module _ (program : Module) (assigned : Assigned program) (x : Context) (f : CallFrame) (c : machine.CallFrame)
    (h : StandsForFrame program assigned x f c) (i : Instr) (fetched : IsFetchedFor program f i) where
  same_function : fetched.function ≡ h.function
  same_function = same_Some fetched.function h.function (sym fetched.is_function ∙ h.is_function)

  pub is_instr : slice_get h.function.code f.pc ≡ Some i
  is_instr = subst (λ (g : Function). slice_get g.code f.pc ≡ Some i) same_function fetched.is_instr

  pub in_range : IsInRange program h.function i
  in_range = subst (λ (g : Function). IsInRange program g i) same_function fetched.in_range

  pub small : HasSizes (length program.classes) h.function
  small = subst (λ (g : Function). HasSizes (length program.classes) g) same_function fetched.sizes

  pub count : h.function.registers ≤ length f.registers.items
  count = subst (λ (g : Function). g.registers ≤ length f.registers.items) same_function fetched.registers

  -- the assignment permits the instruction, and has states for those that follow
  pub rule : (out : Edges) × Permits i.op (point_of program h.function f i) h.state out
      × ((edge : ℕ × State) → IsIn edge out → Reaches (assigned f.function h.function h.is_function).0 edge)
  rule =
      let p = (assigned f.function h.function h.is_function).1.consistent.permitted f.pc h.state h.is_state in
      let same : p.0 ≡ i = same_Some p.0 i (sym p.2 ∙ is_instr) in
      (p.1, subst (λ (j : Instr). Permits j.op (point_of program h.function f j) h.state p.1) same p.3, p.4)

  -- a call frame at an instruction that follows
  pub frame_after : (g : CallFrame) (d : machine.CallFrame) (pc : ℕ) (t : State) (words loops : List ℕ) → FrameAfter f g pc words loops
      → Reaches (assigned f.function h.function h.is_function).0 (pc, t)
      → d.function ≡ c.function → d.pc ≡ pc → HoldRegisters x t d.registers words → AreHomes x.here t.homes d.registers → length loops ≡ 8
      → ((slot : ℕ) → slot < 8 → d.loops slot ≡ slice_index loops slot)
      → StandsForFrame program assigned x g d
  frame_after g d pc t words loops b reached function at typed homes eight turns =
      let state = has_state program assigned f.function g.function pc g.pc reached.0 (sym b.function_is) (sym b.pc_is)
      (h.function, h.is_function, reached.1) in
      record {
        function_is = function ∙ h.function_is ∙ sym b.function_is;
        pc_is = at ∙ sym b.pc_is;
        function = state.0;
        is_function = state.1;
        state = reached.0;
        is_state = state.2;
        words = subst (λ ws. HoldRegisters x reached.0 d.registers ws) (sym b.words_are)
            (words_weaken x t reached.0 d.registers words reached.2 typed);
        homes = homes_weaken x.here t reached.0 d.registers reached.2 homes;
        slots = ap length b.loops_are ∙ eight;
        loops = λ slot lt. turns slot lt ∙ ap (λ ls. slice_index ls slot) (sym b.loops_are);
      }
