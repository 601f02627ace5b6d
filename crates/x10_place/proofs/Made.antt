-- Operations that make something in the heap, or write to it: what the program does to its words is what the machine does
-- to its values.
use Rattle.std.proofs.Common.{◌≡◌, ℕ, ◌+◌, ◌*◌, ◌<◌, ◌≤◌, ◌^◌, Bool, true, false, List, ◌++◌, length, replicate, Option, Some, None, refl, sym, ap, subst, ◌∙◌, arith}
use Rattle.std.specs.Prelude.{ℤ, pos, nat_le, slice_get, slice_set}
use Rattle.std.specs.Int.{int_rem_euclid}
use Rattle.std.proofs.Math.ListN.{length-set}
use Rattle.std.proofs.lemmas.Option.{same_Some}
use Rattle.x10_kinds.specs.declared.kind.Kind.TheVariants as kind
use Rattle.x10_code.specs.declared.op.Op.{Op}
use Rattle.x10_code.specs.declared.op.Op.TheVariants as op
use Rattle.x10_code.specs.declared.rule.Effect.{Effect}
use Rattle.x10_code.specs.Table.{form_of}
use Rattle.x10_model.specs.declared.limits.TheConstants.{MOST_BYTES}
use Rattle.x10_model.specs.Maps.{with_entry, IsIn}
use Rattle.x10_model.specs.Ranges.{IsThere}
use Rattle.x10_model.specs.Values.{Text, Rail, Bytes}
use Rattle.x10_model.specs.Places.{Works, with_stay, goes, next, writes}
use Rattle.x10_model.specs.Moves as moves
use Rattle.x10_model.specs.Moves.{Situation, Does, writes_or_goes}
use Rattle.x10_model.specs.Results.{joined_text, rail_length, byte_at, index_of}
use Rattle.x10_model.specs.Assignments.{State, Point, Edges, IsKind, Permits, Reaches, edges_of}
use Rattle.x10_model.proofs.Rules.{class_of_field, leads}
use Rattle.x10_heap.specs.Heaps.{HeapState, with_rail, with_text}
use Rattle.x10_heap.specs.Words.{Context, rail_cell, HoldsHeap}
use Rattle.x10_heap.proofs.GrownHeaps.{Grows, written_last, written_at, last_kept, holds_rail, holds_texts}
use Rattle.x10_place.specs.declared.call_frame.CallFrame.{CallFrame}
use Rattle.x10_place.specs.declared.route.Route.TheVariants as route
use Rattle.x10_place.specs.declared.route.Local.TheVariants as local
use Rattle.x10_place.specs.declared.route.Make.{Make}
use Rattle.x10_place.specs.declared.route.Make.TheVariants as make
use Rattle.x10_place.specs.Frames.{space_of, Acts, SetsField, SetsByte, byte_set, rail_in, int_at, word_at}
use Rattle.x10_place.specs.Making.{Makes, MakesText, Joins, MakesObject, MakesRail}
use Rattle.x10_place.specs.Routes.{route_of}
use Rattle.x10_place.specs.StandsFor.{context, HoldsExports}
use Rattle.x10_place.proofs.Words.{Reads, reads, reads_int}
use Rattle.x10_place.proofs.Framed.{after_of, onward_or, gives}
use Rattle.x10_place.proofs.GrownFrames.{exports_kept}
use Rattle.x10_place.proofs.FrameMoves.{situated, Fetched, context_at, states_at, point_at, beside, goes_next, edge_next, edge_first, Done}
use Rattle.x10_place.proofs.HeapWrites.{rail_grows, one_more, none_past, jumps, written}
use Rattle.x10_place.proofs.ObjectMoves.{fields_fit, object_made, field_set}

module _ (fetch : Fetched) (held : HoldsHeap (context_at fetch) fetch.m.cells)
    (exported : HoldsExports fetch.heap fetch.m.exports) (g : CallFrame) (kept : HeapState) (out : Edges) (same : g.function ≡ fetch.f.function)
    (edges : (edge : ℕ × State) → IsIn edge out → Reaches (states_at fetch) edge) where
  open fetch use {setting, here, far, m, key, s, assigned, heap, f, h, i, fetched}

  abbrev x : Context
  x = context_at fetch

  abbrev y : HeapState → Context
  y new = context setting here new far

  abbrev sit : Situation
  sit = situated setting here m key s h.function i

  abbrev Result : Op → CallFrame → HeapState → Type 0
  Result o g new = Done fetch o g new

  abbrev states : ℕ → Option State
  states = states_at fetch

  abbrev point : Point
  point = point_at fetch

  -- ---- texts

  grows_text : (text : List ℕ) → Grows x (y (with_text heap text))
  grows_text text = record {
    classes = refl;
    here = refl;
    places = refl;
    objects = λ n o e. (o, e, refl);
    rails = λ n bytes e. (bytes, e);
    texts = λ n t e. last_kept heap.texts text n t e;
    exports = λ id e is. is;
    far = λ home id class e. e;
  }

  text_made : (o : Op) (text : List ℕ) → i.op ≡ o → (IsThere setting.program h.function i (form_of o).a i.a → i.a < h.function.registers)
      → MakesText (space_of f heap) i text (space_of g kept)
      → Reaches states (f.pc + 1, gives point h.state kind.Text None)
      → Does o sit (with_stay m key (Some (record s { top = writes s.top i.a (Text text) }))) Works → Result o g kept
  text_made o text e a makes to does =
      let new = with_text heap text in
      written fetch held exported g kept out same edges o kind.Text (Text text) (length heap.texts) new m.cells e a (grows_text text)
      (holds_texts x (y new) (grows_text text) m.cells held refl refl (one_more heap.texts text (2 ^ 32) makes.few)) refl
      (text, (written_last heap.texts text).at, refl) to makes.becomes does

  joined : (b : Bool) (t u : List ℕ) → i.op ≡ op.Tcat → nat_le (length t + length u) MOST_BYTES ≡ b → s.top.registers i.b ≡ Some (Text t)
      → s.top.registers i.c ≡ Some (Text u) → Joins b (t ++ u) (space_of f heap) i (space_of g kept)
      → out ≡ onward_or point
      (gives point h.state kind.Text None) h.state → Result op.Tcat g kept
  joined true t u e fits ht hu joins to = text_made op.Tcat (t ++ u) e (λ a. a) joins
      (edge_first fetch out
      (gives point h.state kind.Text None) h.state edges to)
      (t, u, ht, hu, (ap (λ o. with_stay m key (Some (record s { top = writes_or_goes sit o }))) (sym (is t u fits)), refl))
    where
      is : (t u : List ℕ) → nat_le (length t + length u) MOST_BYTES ≡ true → joined_text t u ≡ Some (Text (t ++ u))
      is t u e = rw e refl
  joined false t u e fits ht hu joins to = jumps fetch held exported g kept out same edges op.Tcat (gives point h.state kind.Text None)
      (t, u, ht, hu, (ap (λ o. with_stay m key (Some (record s { top = writes_or_goes sit o }))) (sym (is t u fits)), refl)) to joins
    where
      is : (t u : List ℕ) → nat_le (length t + length u) MOST_BYTES ≡ false → joined_text t u ≡ None
      is t u e = rw e refl

  -- ---- rails

  grows_rail : (bytes : List ℕ) → Grows x (y (with_rail heap bytes))
  grows_rail bytes = record {
    classes = refl;
    here = refl;
    places = refl;
    objects = λ n o e. (o, e, refl);
    rails = λ n old e. (old, last_kept heap.rails bytes n old e);
    texts = λ n t e. e;
    exports = λ id e is. is;
    far = λ home id class e. e;
  }

  rail_made : (length_is : Option ℕ) → i.op ≡ op.Rail → rail_length (int_at f.registers.items i.b) ≡ length_is → IsKind h.state i.b kind.Int
      → MakesRail length_is (space_of f heap) i (space_of g kept)
      → out ≡ onward_or point
      (gives point h.state kind.Rail None) h.state → Result op.Rail g kept
  rail_made None e none k makes to = jumps fetch held exported g kept out same edges op.Rail (gives point h.state kind.Rail None) (
    int_at f.registers.items i.b,
    reads_int x h.state s.top.registers f.registers.items i.b h.words k,
    subst (λ o. moves.MakesRail sit o (with_stay m key (Some (record s { top = goes s.top i.x }))) Works) (sym none) (refl, refl),
  ) to makes
  rail_made (Some n) e some k makes to =
      let zeros = replicate n 0 in
      let new = with_rail heap zeros in
      let reference = 2 * length heap.rails + 1 in
      let cells = with_entry m.cells reference (Some (Bytes zeros)) in
      written fetch held exported g kept out same edges op.Rail kind.Rail (Rail reference) (length heap.rails) new cells e (λ a. a) (grows_rail zeros)
      (holds_rail x (y new) (grows_rail zeros) m.cells (length heap.rails) zeros held (written_last heap.rails zeros) refl
      (one_more heap.rails zeros (2 ^ 32) makes.few) held.few_texts)
      refl (zeros, (written_last heap.rails zeros).at, refl)
      (edge_first fetch out
      (gives point h.state kind.Rail None) h.state edges to) makes.becomes (
        int_at f.registers.items i.b,
        reads_int x h.state s.top.registers f.registers.items i.b h.words k,
        subst (λ o. moves.MakesRail sit o (with_stay (record m { cells = cells }) key (Some (record s { top = writes s.top i.a (Rail reference) })))
            Works) (sym some)
            (reference, held.rails (length heap.rails) ∙ ap rail_cell (none_past heap.rails), (refl, refl)),
      )

  -- a byte of the rail in register a is written fetch held exported g kept out same edges
  byte_sets : (byte : Option ℕ) (bytes : List ℕ) → rail_in heap f.registers.items i.a ≡ Some bytes
      → byte_at bytes (int_at f.registers.items i.b) ≡ byte → Reads x s.top.registers f.registers.items i.a kind.Rail → IsKind h.state i.b kind.Int
      → IsKind h.state i.c kind.Int
      → SetsByte byte bytes (space_of f heap) i (space_of g kept)
      → out ≡ onward_or point h.state h.state → Result op.Rset g kept
  byte_sets None bytes rail none (v, v_is, (old, there_is, value_is)) kb kc sets to =
      let rail_is = same_Some old bytes (sym there_is ∙ rail) in
      jumps fetch held exported g kept out same edges op.Rset h.state (
        2 * word_at f.registers.items i.a + 1,
        bytes,
        int_at f.registers.items i.b,
        int_at f.registers.items i.c,
        v_is ∙ ap Some value_is,
        held.rails (word_at f.registers.items i.a) ∙ ap rail_cell rail,
        reads_int x h.state s.top.registers f.registers.items i.b h.words kb,
        reads_int x h.state s.top.registers f.registers.items i.c h.words kc,
        subst (λ o. moves.SetsByte sit (2 * word_at f.registers.items i.a + 1) bytes (int_at f.registers.items i.b) (int_at f.registers.items i.c) o
            (with_stay m key (Some (record s { top = goes s.top i.x }))) Works) (sym none) (refl, refl),
      ) to sets
  byte_sets (Some byte) bytes rail some (v, v_is, (old, there_is, value_is)) kb kc sets to =
      let number = word_at f.registers.items i.a in
      let z = int_at f.registers.items i.b in
      let w = int_at f.registers.items i.c in
      let new = byte_set heap number bytes z w in
      let changed = slice_set bytes (index_of z) (index_of (low w)) in
      let at = written_at heap.rails number changed bytes rail in
      let grows : Grows x (y new) = record {
        classes = refl;
        here = refl;
        places = refl;
        objects = λ n o e. (o, e, refl);
        rails = rail_grows heap.rails new.rails number changed at;
        texts = λ n t e. e;
        exports = λ id e is. is;
        far = λ home id class e. e;
      } in
      let cells = with_entry m.cells (2 * number + 1) (Some (Bytes changed)) in
      subst (λ hp. Result op.Rset g hp) (sym sets.heap_is) (record {
        top = next s.top;
        cells = cells;
        exports = m.exports;
        does = (
          2 * number + 1,
          bytes,
          z,
          w,
          v_is ∙ ap Some value_is,
          held.rails number ∙ ap rail_cell rail,
          reads_int x h.state s.top.registers f.registers.items i.b h.words kb,
          reads_int x h.state s.top.registers f.registers.items i.c h.words kc,
          subst (λ o. moves.SetsByte sit (2 * number + 1) bytes z w o
              (with_stay (record m { cells = cells }) key (Some (record s { top = next s.top }))) Works) (sym some) (refl, refl),
        );
        stands = goes_next (beside fetch new grows) g
            (after_of f g kept new (f.pc + 1) f.registers.items f.loops same sets)
            (edge_first fetch out h.state h.state edges to);
        holds = holds_rail x (y new) grows m.cells number changed held at refl (few_rails heap.rails number changed held.few_rails) held.few_texts;
        grows = grows;
        exported = exports_kept x (y new) grows m.exports refl exported;
      })
    where
      low : ℤ → ℤ
      low w = int_rem_euclid w (pos 256)

      few_rails : (xs : List (List ℕ)) (n : ℕ) (o : List ℕ) → length xs ≤ 2 ^ 32 → length (slice_set xs n o) ≤ 2 ^ 32
      few_rails xs n o le = let e : length (slice_set xs n o) ≡ length xs = simp length-set refl in omega (arith, e, le)

  -- ---- all of them

  permits_at : (o : Op) → i.op ≡ o → Permits i.op point h.state out
      → Permits o point h.state out
  permits_at o e permits = subst (λ q. Permits q point h.state out) e permits

  -- where an operation leads, with the effect that its row settles
  edges_by : {e : Effect} (o : Op) (permits : Permits o point h.state out) → permits.0 ≡ e
      → out ≡ edges_of o point h.state e
  edges_by o permits same = leads o point h.state out permits same

  pub make_moves : (k : Make) (o : Op) → i.op ≡ o → route_of o ≡ route.Make k
      → Permits o point h.state out
      → Makes k setting.program (space_of f heap) i (space_of g kept) → Result o g kept
  make_moves make.Text op.Textk e r permits makes = text_made op.Textk makes.0 e (λ a. a) makes.2
      (edge_next fetch out
      (gives point h.state kind.Text None) edges
      (edges_by op.Textk permits permits.1.settles)) (makes.0, makes.1, (refl, refl))
  make_moves make.JoinedText op.Tcat e r permits makes =
      let t = reads x h.state s.top.registers f.registers.items i.b kind.Text h.words permits.1.b in
      let u = reads x h.state s.top.registers f.registers.items i.c kind.Text h.words permits.1.c in
      let same_t : t.2.0 ≡ makes.0 = same_Some t.2.0 makes.0 (sym t.2.1 ∙ makes.2) in
      let same_u : u.2.0 ≡ makes.1 = same_Some u.2.0 makes.1 (sym u.2.1 ∙ makes.3) in
      joined (nat_le (length makes.0 + length makes.1) MOST_BYTES) makes.0 makes.1 e refl (t.1 ∙ ap Some (t.2.2 ∙ ap Text same_t))
      (u.1 ∙ ap Some (u.2.2 ∙ ap Text same_u)) makes.4 (edges_by op.Tcat permits permits.1.settles)
  make_moves make.Object op.New e r permits makes =
      let asked = permits.1.settles in
      let same_kinds : makes.0 ≡ asked.0 = same_Some makes.0 asked.0 (sym makes.1 ∙ asked.1) in
      object_made fetch held exported g kept out same edges asked.0 e asked.1 asked.2
      (fields_fit fetch held exported g kept out same edges asked.0 e asked.1)
      (subst (λ ks. MakesObject (space_of f heap) i (length ks) (space_of g kept)) same_kinds makes.2) (edges_by op.New permits asked.3)
  make_moves make.Rail op.Rail e r permits makes = rail_made (rail_length (int_at f.registers.items i.b)) e refl permits.1.b makes
      (edges_by op.Rail permits permits.1.settles)
  make_moves k o e r permits makes = absurd cc

  pub put_moves : i.op ≡ op.Put → Permits op.Put point h.state out
      → SetsField (space_of f heap) i (space_of g kept) → Result op.Put g kept
  put_moves e permits sets =
      let asked = permits.1.settles in
      let of = class_of_field (slice_get setting.program.classes asked.0) i.c asked.1 asked.3 in
      field_set fetch held exported g kept out same edges asked.0 of.0 asked.1 e
      (reads x h.state s.top.registers f.registers.items i.a (kind.Obj asked.0) h.words asked.2) of.1 of.2
      (reads x h.state s.top.registers f.registers.items i.b asked.1 h.words asked.4) sets (edges_by op.Put permits asked.5)

  pub rset_moves : Permits op.Rset point h.state out
      → Acts local.SetByte setting.program (space_of f heap) i (space_of g kept) → Result op.Rset g kept
  rset_moves permits acts = byte_sets (byte_at acts.0 (int_at f.registers.items i.b)) acts.0 acts.1 refl
      (reads x h.state s.top.registers f.registers.items i.a kind.Rail h.words permits.1.a) permits.1.b permits.1.c acts.2
      (edges_by op.Rset permits permits.1.settles)
