-- Operations that make something in the heap, or write to it: what may be written, and a word that is written once the heap
-- has grown.
use Rattle.std.proofs.Common.{◌≡◌, ℕ, ◌+◌, ◌<◌, ◌≤◌, List, [], ◌∷◌, ◌++◌, length, Option, Some, None, refl, sym, ap, subst, ◌∙◌, inl, inr, arith}
use Rattle.std.specs.Prelude.{slice_get, slice_set}
use Rattle.std.proofs.lemmas.Option.{slice_get_past, same_Some}
use Rattle.std.proofs.lemmas.Bool.{cases_eq}
use Rattle.x10_kinds.specs.declared.kind.Kind.{Kind}
use Rattle.x10_code.specs.declared.op.Op.{Op}
use Rattle.x10_code.specs.Table.{form_of}
use Rattle.x10_model.specs.Maps.{IsIn}
use Rattle.x10_model.specs.Ranges.{IsThere}
use Rattle.x10_model.specs.Values.{Value, Cells}
use Rattle.x10_model.specs.Places.{Works, with_stay, goes, writes}
use Rattle.x10_model.specs.Moves.{Situation, Does}
use Rattle.x10_model.specs.Assignments.{State, Point, Edges, Reaches}
use Rattle.x10_heap.specs.Heaps.{HeapState, ObjectState}
use Rattle.x10_heap.specs.Words.{Context, IsWordOf, HoldsHeap}
use Rattle.x10_heap.proofs.GrownHeaps.{Grows, grows_not, IsWritten}
use Rattle.x10_place.specs.declared.call_frame.CallFrame.{CallFrame}
use Rattle.x10_place.specs.Frames.{space_of, Becomes}
use Rattle.x10_place.specs.StandsFor.{context, HoldsExports}
use Rattle.x10_place.proofs.Framed.{after_of, onward_or, gives}
use Rattle.x10_place.proofs.GrownFrames.{exports_kept}
use Rattle.x10_place.proofs.FrameMoves.{situated, Fetched, context_at, states_at, point_at, beside, goes_to, writes_word, room, edge_target, Done}

-- ---- what may be written

-- an object that is written keeps its class
pub object_grows : (xs ys : List ObjectState) (n : ℕ) (new old : ObjectState) → IsWritten xs n new ys → slice_get xs n ≡ Some old
    → new.class ≡ old.class → (k : ℕ) (o : ObjectState) → slice_get xs k ≡ Some o
    → (q : ObjectState) × (slice_get ys k ≡ Some q) × (q.class ≡ o.class)
object_grows xs ys n new old h at same k o e = elim (cases_eq k n) [
  | inl here ↦
      (let is : o ≡ old = same_Some o old (sym e ∙ ap (λ j. slice_get xs j) here ∙ at) in
      (new, ap (λ j. slice_get ys j) here ∙ h.at, same ∙ ap (λ (q : ObjectState). q.class) (sym is)))
  | inr off ↦ (o, h.others k off ∙ e, refl)
]

pub rail_grows : (xs ys : List (List ℕ)) (n : ℕ) (new : List ℕ) → IsWritten xs n new ys → (k : ℕ) (bytes : List ℕ) → slice_get xs k ≡ Some bytes
    → (others : List ℕ) × (slice_get ys k ≡ Some others)
rail_grows xs ys n new h k bytes e = elim (cases_eq k n) [
  | inl here ↦ (new, ap (λ j. slice_get ys j) here ∙ h.at)
  | inr off ↦ (bytes, h.others k off ∙ e)
]

length_last : {A : Type 0} (xs : List A) (x : A) → length (xs ++ x ∷ []) ≡ length xs + 1
length_last [] x = refl
length_last (y ∷ xs) x = let rest = length_last xs x in omega (arith, rest)

pub one_more : {A : Type 0} (xs : List A) (x : A) (n : ℕ) → length xs < n → length (xs ++ x ∷ []) ≤ n
one_more xs x n lt = let e = length_last xs x in omega (arith, e, lt)

pub none_past : {A : Type 0} (xs : List A) → slice_get xs (length xs) ≡ None
none_past xs = slice_get_past xs (length xs) (omega arith)

-- ---- where it leads

module _ (fetch : Fetched) (held : HoldsHeap (context_at fetch) fetch.m.cells)
    (exported : HoldsExports fetch.heap fetch.m.exports) (g : CallFrame) (kept : HeapState) (out : Edges) (same : g.function ≡ fetch.f.function)
    (edges : (edge : ℕ × State) → IsIn edge out → Reaches (states_at fetch) edge) where
  open fetch use {setting, here, far, m, key, s, assigned, heap, f, h, i, fetched}

  abbrev x : Context
  x = context_at fetch

  abbrev y : HeapState → Context
  y new = context setting here new far

  abbrev sit : Situation
  sit = situated setting here m key s h.function i

  abbrev Result : Op → CallFrame → HeapState → Type 0
  Result o g new = Done fetch o g new

  abbrev states : ℕ → Option State
  states = states_at fetch

  abbrev point : Point
  point = point_at fetch

  -- the next instruction is x, and nothing has changed
  pub jumps : (o : Op) (t : State) → Does o sit (with_stay m key (Some (record s { top = goes s.top i.x }))) Works
      → out ≡ onward_or point t h.state
      → Becomes (space_of g kept) i.x f.registers.items f.loops heap → Result o g kept
  jumps o t does to b = subst (λ hp. Result o g hp) (sym b.heap_is) (record {
    top = goes s.top i.x;
    cells = m.cells;
    exports = m.exports;
    does = does;
    stands = goes_to fetch g i.x h.state
        (after_of f g kept heap i.x f.registers.items f.loops same b)
        (edge_target fetch out t h.state edges to) refl;
    holds = held;
    grows = grows_not x;
    exported = exported;
  })

  -- a word is written to register a, and the heap has grown
  pub written : (o : Op) (k : Kind) (v : Value) (word : ℕ) (new : HeapState) (cells : Cells) → i.op ≡ o
      → (IsThere setting.program h.function i (form_of o).a i.a → i.a < h.function.registers) → Grows x (y new) → HoldsHeap (y new) cells
      → new.exports ≡ heap.exports → IsWordOf (y new) k word v
      → Reaches states (f.pc + 1, gives point h.state k None)
      → Becomes (space_of g kept) (f.pc + 1) (slice_set f.registers.items i.a word) f.loops new
      → Does o sit (with_stay (record m { cells = cells }) key (Some (record s { top = writes s.top i.a v }))) Works → Result o g kept
  written o k v word new cells e a grows holds exports is to b does = subst (λ hp. Result o g hp) (sym b.heap_is) (record {
    top = writes s.top i.a v;
    cells = cells;
    exports = m.exports;
    does = does;
    stands = writes_word (beside fetch new grows) g k v word is (room fetch o e a)
        (after_of f g kept new (f.pc + 1) (slice_set f.registers.items i.a word) f.loops same b) to;
    holds = holds;
    grows = grows;
    exported = exports_kept x (y new) grows m.exports exports exported;
  })
