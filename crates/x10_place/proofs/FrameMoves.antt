-- What a call frame stands for after an operation: with a word written, or at another instruction; and what is shown of
-- each operation of one call frame.
use Rattle.std.proofs.Common.{◌≡◌, ℕ, ℤ, ◌+◌, ◌<◌, List, length, Option, Some, None, refl, sym, ap, subst, ◌∙◌, inl, inr, arith}
use Rattle.std.specs.Prelude.{slice_index, slice_set}
use Rattle.std.specs.Int.{w64, cast_signed}
use Rattle.x10_kinds.specs.declared.kind.Kind.{Kind}
use Rattle.x10_kinds.specs.declared.kind.Kind.TheVariants as kind
use Rattle.x10_kinds.specs.declared.homes.Term.{Term}
use Rattle.x10_kinds.specs.Equations.{IsTerm, joined}
use Rattle.x10_code.specs.declared.op.Op.{Op}
use Rattle.x10_code.specs.declared.instr.Instr.{Instr}
use Rattle.x10_code.specs.Table.{form_of}
use Rattle.x10_model.specs.Maps.{IsIn}
use Rattle.x10_model.specs.Modules.{Function}
use Rattle.x10_model.specs.Ranges.{IsThere}
use Rattle.x10_model.specs.Values.{Value, Int, Cells}
use Rattle.x10_model.specs.Places as machine
use Rattle.x10_model.specs.Places.{Setting, Stay, Works, with_stay, goes, next, writes}
use Rattle.x10_model.specs.Moves.{Situation, Does}
use Rattle.x10_model.specs.Results.{place_of}
use Rattle.x10_model.specs.Assignments.{State, Point, Edges, IsKind, IsPlaced, Reaches}
use Rattle.x10_heap.specs.References.{home_of}
use Rattle.x10_heap.specs.Heaps.{HeapState}
use Rattle.x10_heap.specs.Words.{Context, IsWordOf, HoldsHeap}
use Rattle.x10_heap.proofs.GrownHeaps.{Grows}
use Rattle.x10_place.specs.declared.call_frame.CallFrame.{CallFrame}
use Rattle.x10_place.specs.Homes.{AreHomes, IsLike, place_at}
use Rattle.x10_place.specs.Frames.{IsFetchedFor, int_at, word_at}
use Rattle.x10_place.specs.StandsFor.{Far, context, Assigned, HoldRegisters, StandsForFrame, HoldsExports, IsWithinPlaces}
use Rattle.std.proofs.Math.Nat.{mod-eq_of_lt}
use Rattle.x10_place.proofs.Words.{reads, reads_int, words_written}
use Rattle.x10_place.proofs.Homes.{homes_written, homes_joined}
use Rattle.x10_place.proofs.Framed.{FrameAfter, point_of, onward, onward_or, gives, in_range, small, count, frame_after}
use Rattle.x10_place.proofs.GrownFrames.{frame_kept}

abbrev pub situated : (setting : Setting) (here : ℕ) (m : machine.Place) (key : ℕ) (s : Stay) → Function → Instr → Situation
situated setting here m key s function i = record { setting = setting; here = here; place = m; key = key; stay = s; function = function; instr = i }

pub first_edge : (point : Point) (t : State) → IsIn (point.pc + 1, t) (onward point t)
first_edge point t = (0, refl)

first_of_two : (point : Point) (t u : State) → IsIn (point.pc + 1, t) (onward_or point t u)
first_of_two point t u = (0, refl)

second_of_two : (point : Point) (t u : State) → IsIn (point.instr.x, u) (onward_or point t u)
second_of_two point t u = (1, refl)

-- an instruction that was fetched for a call frame, the top one of the stay with a key at a place, where it stands for the
-- machine's
pub record Fetched : Type 0 where
  pub setting : Setting
  pub here : ℕ
  pub far : Far
  pub m : machine.Place
  pub key : ℕ
  pub s : Stay
  pub assigned : Assigned setting.program
  pub heap : HeapState
  pub f : CallFrame
  pub h : StandsForFrame setting.program assigned (context setting here heap far) f s.top
  pub i : Instr
  pub fetched : IsFetchedFor setting.program f i

abbrev pub context_at : Fetched → Context
context_at fetch = context fetch.setting fetch.here fetch.heap fetch.far

abbrev pub states_at : Fetched → ℕ → Option State
states_at fetch = (fetch.assigned fetch.f.function fetch.h.function fetch.h.is_function).0

abbrev pub point_at : Fetched → Point
point_at fetch = point_of fetch.setting.program fetch.h.function fetch.f fetch.i

-- the same beside a heap that has grown
abbrev pub beside : (fetch : Fetched) (new : HeapState) → Grows (context_at fetch) (context fetch.setting fetch.here new fetch.far) → Fetched
beside fetch new grows = record {
  setting = fetch.setting;
  here = fetch.here;
  far = fetch.far;
  m = fetch.m;
  key = fetch.key;
  s = fetch.s;
  assigned = fetch.assigned;
  heap = new;
  f = fetch.f;
  h = frame_kept (context_at fetch) (context fetch.setting fetch.here new fetch.far) grows fetch.setting.program fetch.assigned fetch.f fetch.s.top
      fetch.h;
  i = fetch.i;
  fetched = fetch.fetched;
}

module _ (fetch : Fetched) where
  open fetch use {setting, here, far, m, key, s, assigned, heap, f, h, i, fetched}

  abbrev x : Context
  x = context_at fetch

  abbrev states : ℕ → Option State
  states = states_at fetch

  abbrev point : Point
  point = point_at fetch

  pub there : (o : Op) → i.op ≡ o → IsThere setting.program h.function i (form_of o).a i.a × IsThere setting.program h.function i (form_of o).b i.b
      × IsThere setting.program h.function i (form_of o).x i.x
  there o e = let r = in_range setting.program assigned x f s.top h i fetched in
      subst (λ q. IsThere setting.program h.function i (form_of q).a i.a × IsThere setting.program h.function i (form_of q).b i.b
      × IsThere setting.program h.function i (form_of q).x i.x) e (r.a, r.b, r.x)

  pub after : (g : CallFrame) (d : machine.CallFrame) (pc : ℕ) (t : State) (words loops : List ℕ) → FrameAfter f g pc words loops
      → Reaches states (pc, t) → d.function ≡ s.top.function → d.pc ≡ pc → HoldRegisters x t d.registers words
      → AreHomes x.here t.homes d.registers → length loops ≡ 8 → ((slot : ℕ) → slot < 8 → d.loops slot ≡ slice_index loops slot)
      → StandsForFrame setting.program assigned x g d
  after = frame_after setting.program assigned x f s.top h i fetched

  pub pc_next : s.top.pc + 1 ≡ f.pc + 1
  pc_next = ap (λ n. n + 1) h.pc_is

  -- the call frame at another instruction, with nothing changed
  pub goes_to : (g : CallFrame) (pc : ℕ) (t : State) → FrameAfter f g pc f.registers.items f.loops → Reaches states (pc, t) → t ≡ h.state
      → StandsForFrame setting.program assigned x g (goes s.top pc)
  goes_to g pc t b reached e = after g (goes s.top pc) pc t f.registers.items f.loops b reached refl refl
      (subst (λ u. HoldRegisters x u s.top.registers f.registers.items) (sym e) h.words)
      (subst (λ (u : State). AreHomes x.here u.homes s.top.registers) (sym e) h.homes) h.slots h.loops

  pub goes_next : (g : CallFrame) → FrameAfter f g (f.pc + 1) f.registers.items f.loops → Reaches states (f.pc + 1, h.state)
      → StandsForFrame setting.program assigned x g (next s.top)
  goes_next g b reached = after g (next s.top) (f.pc + 1) h.state f.registers.items f.loops b reached refl pc_next h.words h.homes h.slots h.loops

  -- ---- registers

  -- a value and its word are written, like a term or like none that is known
  pub writes_like : (g : CallFrame) (k : Kind) (like : Option Term) (v : Value) (word : ℕ) → IsWordOf x k word v → IsLike here s.top.registers like v
      → i.a < length f.registers.items → FrameAfter f g (f.pc + 1) (slice_set f.registers.items i.a word) f.loops
      → Reaches states (f.pc + 1, gives point h.state k like) → StandsForFrame setting.program assigned x g (writes s.top i.a v)
  writes_like g k like v word e is_like lt b reached = after g (writes s.top i.a v) (f.pc + 1) (gives point h.state k like)
      (slice_set f.registers.items i.a word) f.loops b reached refl pc_next
      (words_written x h.state s.top.registers f.registers.items i.a k like v word lt h.words e)
      (homes_written x.here h.state.homes s.top.registers i.a like v h.homes is_like) h.slots h.loops

  pub writes_word : (g : CallFrame) (k : Kind) (v : Value) (word : ℕ) → IsWordOf x k word v → i.a < length f.registers.items
      → FrameAfter f g (f.pc + 1) (slice_set f.registers.items i.a word) f.loops
      → Reaches states (f.pc + 1, gives point h.state k None) → StandsForFrame setting.program assigned x g (writes s.top i.a v)
  writes_word g k v word e lt b reached = writes_like g k None v word e tt lt b reached

  -- two terms are known to stand for one place
  pub goes_joined : (g : CallFrame) (t u : Term) → IsTerm t → IsTerm u → place_at here s.top.registers t ≡ place_at here s.top.registers u
      → FrameAfter f g (f.pc + 1) f.registers.items f.loops
      → Reaches states (f.pc + 1, record h.state { homes = joined h.state.homes t u }) → StandsForFrame setting.program assigned x g (next s.top)
  goes_joined g t u t_term u_term same b reached = after g (next s.top) (f.pc + 1)
      (record h.state { homes = joined h.state.homes t u }) f.registers.items f.loops b reached refl pc_next h.words
      (homes_joined here h.state.homes s.top.registers t u h.homes t_term u_term same) h.slots h.loops

  pub writes_number : (g : CallFrame) (z : ℤ) (word : ℕ) → z ≡ cast_signed w64 word → i.a < length f.registers.items
      → FrameAfter f g (f.pc + 1) (slice_set f.registers.items i.a word) f.loops
      → Reaches states (f.pc + 1, gives point h.state kind.Int None) → StandsForFrame setting.program assigned x g (writes s.top i.a (Int z))
  writes_number g z word e lt b reached = writes_word g kind.Int (Int z) word (ap Int e) lt b reached

  -- what an operation makes of the call frame, and that the machine does it
  abbrev pub Moved : Op → CallFrame → Type 0
  Moved o g = (top : machine.CallFrame) × Does o (situated setting here m key s h.function i) (with_stay m key (Some (record s { top = top }))) Works
      × StandsForFrame setting.program assigned x g top

  pub number_of : (r : ℕ) → IsKind h.state r kind.Int → s.top.registers r ≡ Some (Int (int_at f.registers.items r))
  number_of r k = reads_int x h.state s.top.registers f.registers.items r h.words k

  pub room : (o : Op) → i.op ≡ o → (IsThere setting.program h.function i (form_of o).a i.a → i.a < h.function.registers)
      → i.a < length f.registers.items
  room o e a = let lt = a (there o e).0 in omega (arith, lt, count setting.program assigned x f s.top h i fetched)

  pub edge_next : (out : Edges) (t : State) → ((edge : ℕ × State) → IsIn edge out → Reaches states edge) → out ≡ onward point t
      → Reaches states (f.pc + 1, t)
  edge_next out t edges e = edges (f.pc + 1, t) (subst (λ (o : Edges). IsIn (f.pc + 1, t) o) (sym e) (first_edge point t))

  pub edge_first : (out : Edges) (t u : State) → ((edge : ℕ × State) → IsIn edge out → Reaches states edge) → out ≡ onward_or point t u
      → Reaches states (f.pc + 1, t)
  edge_first out t u edges e = edges (f.pc + 1, t) (subst (λ (o : Edges). IsIn (f.pc + 1, t) o) (sym e) (first_of_two point t u))

  pub edge_target : (out : Edges) (t u : State) → ((edge : ℕ × State) → IsIn edge out → Reaches states edge) → out ≡ onward_or point t u
      → Reaches states (i.x, u)
  edge_target out t u edges e = edges (i.x, u) (subst (λ (o : Edges). IsIn (i.x, u) o) (sym e) (second_of_two point t u))

  pub slot_there : (o : Op) → i.op ≡ o → (IsThere setting.program h.function i (form_of o).a i.a → i.a < h.function.loops) → i.a < 8
  slot_there o e a = let lt = a (there o e).0 in omega (arith, lt, (small setting.program assigned x f s.top h i fetched).loops)

  pub register_few : (o : Op) → i.op ≡ o → (IsThere setting.program h.function i (form_of o).b i.b → i.b < h.function.registers) → i.b < 64
  register_few o e b = let lt = b (there o e).1 in omega (arith, lt, (small setting.program assigned x f s.top h i fetched).registers.1)

  -- a register that stands for a place
  module _ (site : IsWithinPlaces setting.program here setting.places) where
    place_small : (p : ℕ) → p < setting.places → home_of p ≡ p
    place_small p lt = mod-eq_of_lt (omega (arith, lt, site.few))

    pub placed_in : (r : ℕ) → IsPlaced h.state r → (v : Value) × (s.top.registers r ≡ Some v)
        × (place_of v ≡ Some (home_of (word_at f.registers.items r)))
    placed_in r (inl k) =
        let t = reads x h.state s.top.registers f.registers.items r kind.Place h.words k in
        (t.0, t.1, ap place_of t.2.1 ∙ ap Some (sym (place_small (word_at f.registers.items r) t.2.0)))
    placed_in r (inr k) =
        let t = reads x h.state s.top.registers f.registers.items r (kind.GRef k.0) h.words k.1 in
        (t.0, t.1, ap place_of t.2.3)

  pub register_small : (o : Op) → i.op ≡ o → (IsThere setting.program h.function i (form_of o).a i.a → i.a < h.function.registers) → i.a < 64
  register_small o e a = let lt = a (there o e).0 in omega (arith, lt, (small setting.program assigned x f s.top h i fetched).registers.1)

  -- ---- what is shown of each operation

  -- what an operation makes of the call frame and of the heap, and that the machine does it
  pub record Done (o : Op) (g : CallFrame) (new : HeapState) : Type 0 where
    pub top : machine.CallFrame
    pub cells : Cells
    pub exports : List machine.Export
    pub does : Does o (situated setting here m key s h.function i)
        (with_stay (record m { cells = cells; exports = exports }) key (Some (record s { top = top }))) Works
    pub stands : StandsForFrame setting.program assigned (context setting here new far) g top
    pub holds : HoldsHeap (context setting here new far) cells
    pub grows : Grows x (context setting here new far)
    pub exported : HoldsExports new exports
