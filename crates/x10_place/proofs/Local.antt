-- Operations of one call frame: what the program does to its words is what the machine does to its values.
use Rattle.std.proofs.Common.{◌≡◌, ℕ, ℤ, ◌+◌, ◌-◌, ◌<◌, Bool, true, false, List, length, Option, Some, None, refl, sym, ap, subst, ◌∙◌, inl, arith}
use Rattle.std.specs.Prelude.{◌*◌, ◌==◌, pos, nat_lt, if◌then◌else◌, slice_get, slice_set}
use Rattle.x10_kinds.specs.declared.kind.Kind.{Kind}
use Rattle.x10_kinds.specs.declared.kind.Kind.TheVariants as kind
use Rattle.x10_kinds.specs.declared.homes.Term.TheVariants as term
use Rattle.x10_kinds.specs.Kinds.{has_place}
use Rattle.x10_code.specs.declared.op.Op.{Op}
use Rattle.x10_code.specs.declared.op.Op.TheVariants as op
use Rattle.x10_code.specs.declared.rule.Effect.{Effect}
use Rattle.x10_code.specs.Table.{form_of}
use Rattle.x10_code.specs.Rules.{asks, sets}
use Rattle.x10_model.specs.Maps.{with_entry, IsIn}
use Rattle.x10_model.specs.Ranges.{IsThere}
use Rattle.x10_model.specs.Values.{Value, Int, Place, Null, Bytes}
use Rattle.x10_model.specs.Places as machine
use Rattle.x10_model.specs.Places.{Works, with_stay, goes, next, writes}
use Rattle.x10_model.specs.Moves.{Does, writes_or_goes}
use Rattle.x10_model.specs.Results.{is_zero, byte_at, byte_value}
use Rattle.x10_model.specs.Assignments.{State, Point, Edges, like_if, Grants, Permits, Reaches, after as after_effect, edges_of}
use Rattle.x10_model.proofs.Rules.{class_of_field, leads}
use Rattle.x10_heap.specs.Heaps.{HeapState}
use Rattle.x10_heap.specs.Words.{Context, rail_cell, HoldsHeap}
use Rattle.x10_heap.proofs.GrownHeaps.{grows_not}
use Rattle.x10_place.specs.declared.call_frame.CallFrame.{CallFrame}
use Rattle.x10_place.specs.declared.route.Route.TheVariants as route
use Rattle.x10_place.specs.declared.route.Local.{Local}
use Rattle.x10_place.specs.declared.route.Local.TheVariants as local
use Rattle.x10_place.specs.declared.route.Partial.{Partial}
use Rattle.x10_place.specs.declared.route.Partial.TheVariants as partial
use Rattle.x10_place.specs.declared.route.Number.{Number}
use Rattle.x10_place.specs.declared.route.Number.TheVariants as number
use Rattle.x10_place.specs.Frames.{Workspace, space_of, Becomes, Acts, Writes, Takes, as_value, given, tried, size, byte_in, int_at, word_at, are_same, turns_left}
use Rattle.x10_place.specs.Routes.{route_of}
use Rattle.x10_place.specs.StandsFor.{StandsForFrame, HoldsExports, IsWithinPlaces}
use Rattle.std.proofs.Math.ListN.{length-set}
use Rattle.std.proofs.lemmas.Option.{same_Some}
use Rattle.x10_model.proofs.Decided.{get_below}
use Rattle.x10_place.proofs.Forms.{of_two, number_by}
use Rattle.x10_place.proofs.HeapKept.{Keeps, heap_kept}
use Rattle.x10_place.proofs.Words.{reads}
use Rattle.x10_place.proofs.Homes.{move_like}
use Rattle.x10_place.proofs.Framed.{FrameAfter, after_of, onward, onward_or, gives, slots_written}
pub use Rattle.x10_place.proofs.FrameMoves.{situated}
use Rattle.x10_place.proofs.FrameMoves.{Fetched, context_at, states_at, point_at, there, after, pc_next, goes_to, goes_next, writes_like, writes_word, writes_number, Moved, number_of, room, edge_next, edge_first, edge_target, slot_there, register_few, Done}
use Rattle.x10_place.proofs.ReferenceMoves.{copies, gets, homes_in, opens, compares}

module _ (fetch : Fetched) where
  open fetch use {setting, here, far, m, key, s, assigned, heap, f, h, i, fetched}

  abbrev x : Context
  x = context_at fetch

  abbrev states : ℕ → Option State
  states = states_at fetch

  abbrev point : Point
  point = point_at fetch

  -- a register that was written by an operation that always gives a number
  number_frame : (g : CallFrame) (kept : HeapState) (z : ℤ) (v : Value) (out : Edges) → g.function ≡ f.function
      → ((edge : ℕ × State) → IsIn edge out → Reaches states edge) → out ≡ onward point (gives point h.state kind.Int None)
      → i.a < length f.registers.items → Some (Int z) ≡ Some v → Writes (space_of f heap) i z (space_of g kept)
      → StandsForFrame setting.program assigned x g (writes s.top i.a v)
  number_frame g kept z v out same edges e lt is w =
      subst (λ u. StandsForFrame setting.program assigned x g (writes s.top i.a u)) (same_Some (Int z) v is)
      (writes_number fetch g z w.0 w.1 lt (after_of f g kept heap (f.pc + 1) (slice_set f.registers.items i.a w.0) f.loops same w.2)
      (edge_next fetch out (gives point h.state kind.Int None) edges e))

  -- an operation that gives a number or goes to x
  tries : (g : CallFrame) (kept : HeapState) (z : Option ℤ) (out : Edges) → g.function ≡ f.function
      → ((edge : ℕ × State) → IsIn edge out → Reaches states edge) → out ≡ onward_or point (gives point h.state kind.Int None) h.state
      → i.a < length f.registers.items → Takes (space_of f heap) i z (space_of g kept)
      → StandsForFrame setting.program assigned x g (writes_or_goes (situated setting here m key s h.function i) (as_value z))
  tries g kept (Some z) out same edges e lt t =
      writes_number fetch g z t.0 t.1 lt (after_of f g kept heap (f.pc + 1) (slice_set f.registers.items i.a t.0) f.loops same t.2)
      (edge_first fetch out (gives point h.state kind.Int None) h.state edges e)
  tries g kept None out same edges e lt t = goes_to fetch g i.x h.state (after_of f g kept heap i.x f.registers.items f.loops same t)
      (edge_target fetch out (gives point h.state kind.Int None) h.state edges e) refl

  tried_frame : (d : Partial) (g : CallFrame) (kept : HeapState) (out : Edges) → g.function ≡ f.function
      → ((edge : ℕ × State) → IsIn edge out → Reaches states edge) → out ≡ onward_or point (gives point h.state kind.Int None) h.state
      → i.a < length f.registers.items → Acts (local.Partial d) setting.program (space_of f heap) i (space_of g kept)
      → StandsForFrame setting.program assigned x g (writes_or_goes (situated setting here m key s h.function i)
      (tried d heap f.registers.items i))
  tried_frame d g kept out same edges e lt acts =
      subst (λ v. StandsForFrame setting.program assigned x g (writes_or_goes (situated setting here m key s h.function i) v)) acts.1
      (tries g kept acts.0 out same edges e lt acts.2)

  -- a word is moved, with its kind and its place
  moves_word : (g : CallFrame) (out : Edges) (k : Kind) → ((edge : ℕ × State) → IsIn edge out → Reaches states edge) → h.state.kinds i.b ≡ Some k
      → out ≡ onward point (gives point h.state k (like_if (has_place k) (term.Reg i.b)))
      → i.a < length f.registers.items → i.b < 64 → FrameAfter f g (f.pc + 1)
      (slice_set f.registers.items i.a (word_at f.registers.items i.b)) f.loops → Moved fetch op.Move g
  moves_word g out k edges known e lt few b =
      let held = h.words i.b k known in
      let like = like_if (has_place k) (term.Reg i.b) in (
        writes s.top i.a held.0,
        (held.0, held.1, (refl, refl)),
        writes_like fetch g k like held.0 (word_at f.registers.items i.b) held.2
            (move_like here s.top.registers i.b held.0 (has_place k) few held.1) lt b
            (edge_next fetch out (gives point h.state k like) edges e),
      )

  jumps_if : (g : CallFrame) (b : Bool) → FrameAfter f g (if b then i.x else f.pc + 1) f.registers.items f.loops → Reaches states (f.pc + 1, h.state)
      → Reaches states (i.x, h.state)
      → StandsForFrame setting.program assigned x g (if b then goes s.top i.x else next s.top)
  jumps_if g true b next target = goes_to fetch g i.x h.state b target refl
  jumps_if g false b next target = goes_next fetch g b next

  -- a loop's turns are set, and the next instruction is one or another
  loops_set : (g : CallFrame) (n q pc : ℕ) → i.a < 8 → q ≡ pc → FrameAfter f g pc f.registers.items (slice_set f.loops i.a n)
      → Reaches states (pc, h.state)
      → StandsForFrame setting.program assigned x g (record s.top { pc = q; loops = with_entry s.top.loops i.a n })
  loops_set g n q pc lt e b reached = after fetch g (record s.top { pc = q; loops = with_entry s.top.loops i.a n }) pc h.state f.registers.items
      (slice_set f.loops i.a n) b reached refl e h.words h.homes
      (simp length-set h.slots) (slots_written s.top.loops f.loops i.a n lt h.slots h.loops)

  loops_if : (g : CallFrame) (n : ℕ) (b : Bool) → i.a < 8 → FrameAfter f g (if b then i.x else f.pc + 1) f.registers.items (slice_set f.loops i.a n)
      → Reaches states (f.pc + 1, h.state) → Reaches states (i.x, h.state)
      → StandsForFrame setting.program assigned x g (record s.top { pc = if b then i.x else s.top.pc + 1; loops = with_entry s.top.loops i.a n })
  loops_if g n true lt b next target = loops_set g n i.x i.x lt refl b target
  loops_if g n false lt b next target = loops_set g n (s.top.pc + 1) (f.pc + 1) lt (pc_next fetch) b next

  loop_turns : (g : CallFrame) (n : ℕ) → i.a < 8 → turns_left f.loops i.a ≡ n
      → FrameAfter f g (if nat_lt 0 (turns_left f.loops i.a) then i.x else f.pc + 1) f.registers.items
      (slice_set f.loops i.a (turns_left f.loops i.a)) → Reaches states (f.pc + 1, h.state) → Reaches states (i.x, h.state)
      → StandsForFrame setting.program assigned x g (record s.top
      { pc = if nat_lt 0 n then i.x else s.top.pc + 1; loops = with_entry s.top.loops i.a n })
  loop_turns g n lt e acts next target = loops_if g n (nat_lt 0 n) lt
      (subst (λ k. FrameAfter f g (if nat_lt 0 k then i.x else f.pc + 1) f.registers.items (slice_set f.loops i.a k)) e acts) next target

  at : (k l : Local) (w v : Workspace) → route.Local k ≡ route.Local l → Acts l setting.program w i v → Acts k setting.program w i v
  at k l w v e acts = subst (λ q. Acts q setting.program w i v) (let same : l ≡ k = cc in same) acts

  module _ (held : HoldsHeap x m.cells) (exported : HoldsExports heap m.exports) (site : IsWithinPlaces setting.program here setting.places)
      (l : Local) (g : CallFrame) (kept : HeapState) (out : Edges) (same : g.function ≡ f.function)
      (edges : (edge : ℕ × State) → IsIn edge out → Reaches states edge) (acts : Acts l setting.program (space_of f heap) i (space_of g kept)) where
    by : (k : Local) → route.Local k ≡ route.Local l → Acts k setting.program (space_of f heap) i (space_of g kept)
    by k r = at k l (space_of f heap) (space_of g kept) r acts

    -- the heap is as it was
    unchanged : (k : Local) (o : Op) → Keeps k → route.Local k ≡ route.Local l → Moved fetch o g → Done fetch o g kept
    unchanged k o keeps r moved = subst (λ hp. Done fetch o g hp)
        (sym (heap_kept k setting.program (space_of f heap) i (space_of g kept) keeps (by k r)))
        (record {
          top = moved.0;
          cells = m.cells;
          exports = m.exports;
          does = moved.1;
          stands = moved.2;
          holds = held;
          grows = grows_not x;
          exported = exported;
        })

    went : (pc : ℕ) (words loops : List ℕ) → Becomes (space_of g kept) pc words loops heap → FrameAfter f g pc words loops
    went pc words loops b = after_of f g kept heap pc words loops same b

    -- a number is given
    gives_number : (o : Op) (n : Number) (v : Value) → i.op ≡ o → given n setting.program heap f.registers.items i ≡ Some v
        → (IsThere setting.program h.function i (form_of o).a i.a → i.a < h.function.registers) → route.Local (local.Number n) ≡ route.Local l
        → out ≡ onward point (gives point h.state kind.Int None) → StandsForFrame setting.program assigned x g (writes s.top i.a v)
    gives_number o n v e is a r to = let h' = by (local.Number n) r in
        number_frame g kept h'.0 v out same edges to (room fetch o e a) (h'.1 ∙ is) h'.2

    -- two numbers to a number
    sums : (o : Op) (n : Number) (v : Value) → i.op ≡ o → given n setting.program heap f.registers.items i ≡ Some v
        → (IsThere setting.program h.function i (form_of o).a i.a → i.a < h.function.registers) → route.Local (local.Number n) ≡ route.Local l
        → out ≡ onward point (gives point h.state kind.Int None)
        → Does o (situated setting here m key s h.function i) (with_stay m key (Some (record s { top = writes s.top i.a v }))) Works
        → Done fetch o g kept
    sums o n v e is a r to does = unchanged (local.Number n) o tt r (writes s.top i.a v, does, gives_number o n v e is a r to)

    -- a number is given, or the next instruction is x
    attempts : (o : Op) (d : Partial) (v : Option Value) → i.op ≡ o → tried d heap f.registers.items i ≡ v
        → (IsThere setting.program h.function i (form_of o).a i.a → i.a < h.function.registers) → route.Local (local.Partial d) ≡ route.Local l
        → out ≡ onward_or point (gives point h.state kind.Int None) h.state
        → Does o (situated setting here m key s h.function i) (with_stay m key
        (Some (record s { top = writes_or_goes (situated setting here m key s h.function i) v }))) Works → Done fetch o g kept
    attempts o d v e is a r to does = unchanged (local.Partial d) o tt r (
      writes_or_goes (situated setting here m key s h.function i) v,
      does,
      subst (λ u. StandsForFrame setting.program assigned x g (writes_or_goes (situated setting here m key s h.function i) u)) is
          (tried_frame d g kept out same edges to (room fetch o e a) (by (local.Partial d) r)),
    )

    rail_cell_at : (w : ℕ) (bytes : List ℕ) → slice_get heap.rails w ≡ Some bytes → m.cells (2 * w + 1) ≡ Some (Bytes bytes)
    rail_cell_at w bytes e = held.rails w ∙ ap rail_cell e

    -- ---- a number of two numbers

    abbrev value_in : Option Value → Value
    value_in (Some v) = v
    value_in None = Null

    -- what an operation gives, if it gives a number
    abbrev given_by : Op → Option Value
    given_by o = given (number_by (route_of o)) setting.program heap f.registers.items i

    abbrev moved_by : Op → machine.Place
    moved_by o = with_stay m key (Some (record s { top = writes s.top i.a (value_in (given_by o)) }))

    -- the two numbers are in registers b and c
    abbrev Held : ℤ → ℤ → Type 0
    Held y z = (s.top.registers i.b ≡ Some (Int y)) × (s.top.registers i.c ≡ Some (Int z))

    -- what the row of two numbers to a number permits
    abbrev PermitsTwo : Type 0
    PermitsTwo = (e : Effect) × Grants (asks None (Some kind.Int) (Some kind.Int) (sets kind.Int)) point h.state e
        × (out ≡ onward point (after_effect i.a h.state e))

    -- its route and its form, what it gives, what its rule permits, and that it does so
    abbrev IsOfTwo : Op → Type 0
    IsOfTwo o = (route_of o ≡ route.Local (local.Number (number_by (route_of o))))
        × (IsThere setting.program h.function i (form_of o).a i.a → i.a < h.function.registers)
        × (given_by o ≡ Some (value_in (given_by o)))
        × (Permits o point h.state out → PermitsTwo)
        × (Held (int_at f.registers.items i.b) (int_at f.registers.items i.c)
        → Does o (situated setting here m key s h.function i) (moved_by o) Works)

    -- the same of any operation, with nothing said
    abbrev IsAny : Op → Type 0
    IsAny o = (o ≡ o) × (IsThere setting.program h.function i (form_of o).a i.a → IsThere setting.program h.function i (form_of o).a i.a)
        × (o ≡ o) × (Permits o point h.state out → Permits o point h.state out)
        × (Held (int_at f.registers.items i.b) (int_at f.registers.items i.c)
        → (y z : ℤ) × (s.top.registers i.b ≡ Some (Int y)) × (s.top.registers i.c ≡ Some (Int z)) × ((o ≡ o) × (o ≡ o)))

    abbrev IsOneOf : Bool → Op → Type 0
    IsOneOf true o = IsOfTwo o
    IsOneOf false o = IsAny o

    -- each operation computes to itself, so a new one needs no line here
    two_of : (o : Op) → IsOneOf (of_two (route_of o)) o
    two_of op.Call = (refl, (λ a. a), refl, (λ p. p), λ k. (int_at f.registers.items i.b, int_at f.registers.items i.c, k.0, k.1, (refl, refl)))
    two_of _ = (refl, (λ a. a), refl, (λ p. p), λ k. (int_at f.registers.items i.b, int_at f.registers.items i.c, k.0, k.1, (refl, refl)))

    two_moves : (o : Op) → i.op ≡ o → of_two (route_of o) ≡ true → route_of o ≡ route.Local l → Permits o point h.state out → Done fetch o g kept
    two_moves o e two r permits =
        let t : IsOfTwo o = subst (λ b. IsOneOf b o) two (two_of o) in
        let asked = t.3 permits in
        sums o (number_by (route_of o)) (value_in (given_by o)) e t.2 t.1 (sym t.0 ∙ r)
        (asked.2 ∙ ap (λ q. onward point (after_effect i.a h.state q)) asked.1.settles)
        (t.4 (number_of fetch i.b asked.1.b, number_of fetch i.c asked.1.c))

    -- ---- the operations

    -- where an operation leads, with the effect that its row settles
    edges_by : {e : Effect} (o : Op) (permits : Permits o point h.state out) → permits.0 ≡ e → out ≡ edges_of o point h.state e
    edges_by o permits same = leads o point h.state out permits same

    -- the last line is checked for each operation that isn't named above it: those that give a number of two, and those
    -- that aren't of one call frame
    pub local_moves : (o : Op) → i.op ≡ o → (o ≡ op.Put → ⊥) → (o ≡ op.Rset → ⊥) → route_of o ≡ route.Local l → Permits o point h.state out
        → Done fetch o g kept
    local_moves op.Intk e np ns r permits =
        let z = get_below setting.program.ints i.x (there fetch op.Intk e).2 in
        sums op.Intk number.Constant (Int z.0) e (ap as_value z.1) (λ a. a) r (edges_by op.Intk permits permits.1.settles) (z.0, z.1, (refl, refl))
    local_moves op.Div e np ns r permits = attempts op.Div partial.Quotient _ e refl (λ a. a) r (edges_by op.Div permits permits.1.settles)
        (int_at f.registers.items i.b, int_at f.registers.items i.c, number_of fetch i.b permits.1.b, number_of fetch i.c permits.1.c, (refl, refl))
    local_moves op.Rem e np ns r permits = attempts op.Rem partial.Remainder _ e refl (λ a. a) r (edges_by op.Rem permits permits.1.settles)
        (int_at f.registers.items i.b, int_at f.registers.items i.c, number_of fetch i.b permits.1.b, number_of fetch i.c permits.1.c, (refl, refl))
    local_moves op.Tlen e np ns r permits =
        let t = reads x h.state s.top.registers f.registers.items i.b kind.Text h.words permits.1.b in
        sums op.Tlen number.TextLength (Int (pos (length t.2.0))) e (ap size t.2.1) (λ a. a) r (edges_by op.Tlen permits permits.1.settles)
        (t.2.0, t.1 ∙ ap Some t.2.2, (refl, refl))
    local_moves op.Rlen e np ns r permits =
        let t = reads x h.state s.top.registers f.registers.items i.b kind.Rail h.words permits.1.b in
        sums op.Rlen number.RailLength (Int (pos (length t.2.0))) e (ap size t.2.1) (λ a. a) r (edges_by op.Rlen permits permits.1.settles)
        (2 * word_at f.registers.items i.b + 1, t.2.0, t.1 ∙ ap Some t.2.2, rail_cell_at (word_at f.registers.items i.b) t.2.0 t.2.1, (refl, refl))
    local_moves op.Rget e np ns r permits =
        let t = reads x h.state s.top.registers f.registers.items i.b kind.Rail h.words permits.1.b in
        let z = int_at f.registers.items i.c in
        attempts op.Rget partial.Byte (byte_value (byte_at t.2.0 z)) e (ap (λ o. byte_in o z) t.2.1) (λ a. a) r
        (edges_by op.Rget permits permits.1.settles) (
          2 * word_at f.registers.items i.b + 1,
          t.2.0,
          z,
          t.1 ∙ ap Some t.2.2,
          rail_cell_at (word_at f.registers.items i.b) t.2.0 t.2.1,
          number_of fetch i.c permits.1.c,
          (refl, refl),
        )
    local_moves op.Placei e np ns r permits =
        let t = reads x h.state s.top.registers f.registers.items i.b kind.Place h.words permits.1.b in
        sums op.Placei number.PlaceNumber (Int (pos (word_at f.registers.items i.b))) e refl (λ a. a) r (edges_by op.Placei permits permits.1.settles)
        (word_at f.registers.items i.b, t.1 ∙ ap Some t.2.1, (refl, refl))
    local_moves op.Placek e np ns r permits =
        let lt : i.x < setting.program.least_places = (there fetch op.Placek e).2 in
        unchanged local.Place op.Placek tt r (
          writes s.top i.a (Place i.x),
          (refl, refl),
          writes_like fetch g kind.Place (Some (term.Place i.x)) (Place i.x) i.x (omega (arith, lt, site.enough), refl)
              (omega (arith, lt, site.enough, site.few), refl) (room fetch op.Placek e (λ a. a))
              (went (f.pc + 1) (slice_set f.registers.items i.a i.x) f.loops (by local.Place r))
              (edge_next fetch out (gives point h.state kind.Place (Some (term.Place i.x))) edges (edges_by op.Placek permits permits.1.settles)),
        )
    local_moves op.Home e np ns r permits =
        let asked = permits.1.settles in
        unchanged local.Home op.Home tt r (homes_in fetch g kept out same edges asked.0 e (reads x h.state s.top.registers f.registers.items i.b
        (kind.GRef asked.0) h.words asked.1) (by local.Home r) (edges_by op.Home permits asked.2))
    local_moves op.Gopen e np ns r permits =
        let asked = permits.1.settles in
        unchanged local.Open op.Gopen tt r (opens fetch g kept out same edges exported asked.0 e
        (reads x h.state s.top.registers f.registers.items i.b (kind.GRef asked.0) h.words asked.1) asked.2 (by local.Open r)
        (edges_by op.Gopen permits asked.3))
    local_moves op.Ifsame e np ns r permits =
        let asked = permits.1.settles in
        unchanged local.SamePlace op.Ifsame tt r (compares fetch g kept out same edges site (are_same f.registers.items i.a i.b) e refl
        asked.0 asked.1
        (by local.SamePlace r) (edges_by op.Ifsame permits asked.2))
    local_moves op.Null e np ns r permits = unchanged local.Null op.Null tt r (
      writes s.top i.a Null,
      (refl, refl),
      writes_word fetch g (kind.Opt i.x) Null 0 (inl (refl, refl)) (room fetch op.Null e (λ a. a))
          (went (f.pc + 1) (slice_set f.registers.items i.a 0) f.loops (by local.Null r))
          (edge_next fetch out (gives point h.state (kind.Opt i.x) None) edges (edges_by op.Null permits permits.1.settles)),
    )
    local_moves op.Ifobj e np ns r permits =
        let asked = permits.1.settles in
        unchanged local.NotNull op.Ifobj tt r (copies fetch g kept out same edges asked.0 (word_at f.registers.items i.b == 0) e refl
        (reads x h.state s.top.registers f.registers.items i.b (kind.Opt asked.0) h.words asked.1) (by local.NotNull r)
        (edges_by op.Ifobj permits asked.2))
    local_moves op.Get e np ns r permits =
        let asked = permits.1.settles in
        let of = class_of_field (slice_get setting.program.classes asked.0) i.c asked.1 asked.3 in
        unchanged local.GetField op.Get tt r (gets fetch g kept out same edges held asked.0 of.0 asked.1 e
        (reads x h.state s.top.registers f.registers.items i.b (kind.Obj asked.0) h.words asked.2) of.1 of.2 (by local.GetField r)
        (edges_by op.Get permits asked.4))
    local_moves op.Put e np ns r permits = absurd (np refl)
    local_moves op.Rset e np ns r permits = absurd (ns refl)
    local_moves op.Move e np ns r permits = unchanged local.Copy op.Move tt r
        (moves_word g out permits.1.settles.0 edges permits.1.settles.1 (edges_by op.Move permits permits.1.settles.2) (room fetch op.Move e (λ a. a))
        (register_few fetch op.Move e (λ b. b)) (went (f.pc + 1) (slice_set f.registers.items i.a (word_at f.registers.items i.b)) f.loops
        (by local.Copy r)))
    local_moves op.Jmp e np ns r permits = unchanged local.Jump op.Jmp tt r (
      goes s.top i.x,
      (refl, refl),
      goes_to fetch g i.x h.state (went i.x f.registers.items f.loops (by local.Jump r))
          (edges (i.x, h.state) (subst (λ (o : Edges). IsIn (i.x, h.state) o) (sym (edges_by op.Jmp permits permits.1.settles)) (0, refl))) refl,
    )
    local_moves op.Jz e np ns r permits = unchanged local.JumpIfZero op.Jz tt r (
      _,
      (int_at f.registers.items i.a, number_of fetch i.a permits.1.a, (refl, refl)),
      jumps_if g (is_zero (int_at f.registers.items i.a)) (went _ f.registers.items f.loops (by local.JumpIfZero r))
          (edge_first fetch out h.state h.state edges (edges_by op.Jz permits permits.1.settles))
          (edge_target fetch out h.state h.state edges (edges_by op.Jz permits permits.1.settles)),
    )
    local_moves op.Loop e np ns r permits = unchanged local.Loop op.Loop tt r (
      _,
      (refl, refl),
      loops_set g i.x (s.top.pc + 1) (f.pc + 1) (slot_there fetch op.Loop e (λ a. a)) (pc_next fetch)
          (went (f.pc + 1) f.registers.items (slice_set f.loops i.a i.x) (by local.Loop r))
          (edge_next fetch out h.state edges (edges_by op.Loop permits permits.1.settles)),
    )
    local_moves op.Endl e np ns r permits =
        let lt = slot_there fetch op.Endl e (λ a. a) in
        unchanged local.EndLoop op.Endl tt r (
          _,
          (refl, refl),
          loop_turns g (s.top.loops i.a - 1) lt (ap (λ n. n - 1) (sym (h.loops i.a lt)))
              (went _ f.registers.items _ (by local.EndLoop r))
              (edge_first fetch out h.state h.state edges (edges_by op.Endl permits permits.1.settles))
              (edge_target fetch out h.state h.state edges (edges_by op.Endl permits permits.1.settles)),
        )
    local_moves o e np ns r permits = two_moves o e (let two : of_two (route_of o) ≡ true = cc in two) r permits
