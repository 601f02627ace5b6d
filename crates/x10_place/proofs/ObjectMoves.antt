-- NEW and PUT: what the program does to words and objects is what the machine does to values and cells.
use Rattle.std.proofs.Common.{◌≡◌, ℕ, zero, suc, ◌+◌, ◌-◌, ◌*◌, ◌<◌, ◌≤◌, ◌^◌, List, [], ◌∷◌, length, take, drop, Option, Some, None, refl, sym, ap, ap₂, subst, ◌∙◌, arith}
use Rattle.std.specs.Prelude.{slice_get, slice_index, slice_set}
use Rattle.std.specs.List.{slice_range}
use Rattle.std.proofs.Math.ListN.{length-set}
use Rattle.std.proofs.lemmas.Option.{slice_get_within, same_Some}
use Rattle.x10_kinds.specs.declared.kind.Kind.{Kind}
use Rattle.x10_kinds.specs.declared.kind.Kind.TheVariants as kind
use Rattle.x10_code.specs.declared.op.Op.{Op}
use Rattle.x10_code.specs.declared.op.Op.TheVariants as op
use Rattle.x10_code.specs.Table.{form_of}
use Rattle.x10_model.specs.Maps.{with_entry, IsIn}
use Rattle.x10_model.specs.Ranges.{fields_of, argument_count, AreArgumentRegisters, IsThere}
use Rattle.x10_model.specs.Values.{Value, Object, Fields, Cells, IsOfKind}
use Rattle.x10_model.specs.Signatures.{AreOfKinds}
use Rattle.x10_model.specs.Places.{with_stay, next}
use Rattle.x10_model.specs.Moves.{Situation, HoldsFrom}
use Rattle.x10_model.specs.Assignments.{State, Point, Edges, KindsAre, Reaches}
use Rattle.x10_model.proofs.Rules.{first_kind, next_kinds}
use Rattle.x10_heap.specs.Heaps.{HeapState, ObjectState, with_object, with_field}
use Rattle.x10_heap.specs.Words.{Context, AreWordsOf, HoldsObject, HoldsHeap}
use Rattle.x10_heap.proofs.GrownHeaps.{Grows, written_last, written_at, last_kept, words_kept, holds_object}
use Rattle.x10_place.specs.declared.call_frame.CallFrame.{CallFrame}
use Rattle.x10_place.specs.Frames.{space_of, Becomes, SetsField, object_in, word_at}
use Rattle.x10_place.specs.Making.{MakesObject}
use Rattle.x10_place.specs.StandsFor.{context, HoldRegisters, HoldsExports}
use Rattle.x10_place.proofs.Words.{Reads, reads, of_kind}
use Rattle.x10_place.proofs.Framed.{FrameAfter, after_of, onward, gives, in_range, count}
use Rattle.x10_place.proofs.GrownFrames.{exports_kept}
use Rattle.x10_place.proofs.FrameMoves.{situated, Fetched, context_at, states_at, point_at, beside, goes_next, edge_next, Done}
use Rattle.x10_place.proofs.Objects.{ObjectAt, object_at, word_in, words_set}
use Rattle.x10_place.proofs.HeapWrites.{object_grows, one_more, none_past, written}

-- ---- fields from registers

drop_next : (ws : List ℕ) (b : ℕ) → b < length ws → drop b ws ≡ slice_index ws b ∷ drop (suc b) ws
drop_next [] b lt = absurd (omega (arith, lt))
drop_next (w ∷ ws) zero lt = refl
drop_next (w ∷ ws) (suc b) lt = drop_next ws b (omega (arith, lt))

range_more : (words : List ℕ) (b n : ℕ) → b < length words → slice_range words b (b + suc n)
    ≡ slice_index words b ∷ slice_range words (b + 1) (b + 1 + n)
range_more words b n lt =
    let count : b + suc n - b ≡ suc n = omega arith in
    let rest : b + 1 + n - (b + 1) ≡ n = omega arith in
    let from : b + 1 ≡ suc b = omega arith in
    ap (λ k. take k (drop b words)) count ∙ ap (λ ws. take (suc n) ws) (drop_next words b lt)
    ∙ ap (λ ws. slice_index words b ∷ ws) (sym (ap₂ (λ k j. take k (drop j words)) rest from))

range_none : (words : List ℕ) (b : ℕ) → slice_range words b (b + 0) ≡ []
range_none words b = let none : b + 0 - b ≡ 0 = omega arith in ap (λ k. take k (drop b words)) none

-- what the registers from one on give to fields of these kinds
pub record GivesFields (x : Context) (cells : Cells) (sit : Situation) (words : List ℕ) (b : ℕ) (kinds : List Kind) : Type 0 where
  pub values : List Value
  pub held : HoldsFrom sit b values
  pub of_kinds : AreOfKinds (IsOfKind cells) values kinds
  pub words_are : AreWordsOf x kinds (slice_range words b (b + length kinds)) values

gives_fields : (x : Context) (cells : Cells) (sit : Situation) (s : State) (words : List ℕ) → HoldsHeap x cells
    → HoldRegisters x s sit.stay.top.registers words → (b : ℕ) (kinds : List Kind) → KindsAre s b kinds → b + length kinds ≤ length words
    → GivesFields x cells sit words b kinds
gives_fields x cells sit s words holds typed b [] fit few = record {
  values = [];
  held = tt;
  of_kinds = tt;
  words_are = subst (λ ws. AreWordsOf x [] ws []) (sym (range_none words b)) tt;
}
gives_fields x cells sit s words holds typed b (k ∷ kinds) fit few =
    let v = reads x s sit.stay.top.registers words b k typed (first_kind s b k kinds fit) in
    let rest = gives_fields x cells sit s words holds typed (b + 1) kinds (next_kinds s b k kinds fit) (omega (arith, few)) in
    record {
      values = v.0 ∷ rest.values;
      held = (v.1, rest.held);
      of_kinds = (of_kind x cells k (slice_index words b) v.0 holds v.2, rest.of_kinds);
      words_are = subst (λ ws. AreWordsOf x (k ∷ kinds) ws (v.0 ∷ rest.values)) (sym (range_more words b (length kinds) (omega (arith, few))))
          (v.2, rest.words_are);
    }

-- ---- the operations

module _ (fetch : Fetched) (held : HoldsHeap (context_at fetch) fetch.m.cells)
    (exported : HoldsExports fetch.heap fetch.m.exports) (g : CallFrame) (kept : HeapState) (out : Edges) (same : g.function ≡ fetch.f.function)
    (edges : (edge : ℕ × State) → IsIn edge out → Reaches (states_at fetch) edge) where
  open fetch use {setting, here, far, m, key, s, assigned, heap, f, h, i, fetched}

  abbrev x : Context
  x = context_at fetch

  abbrev y : HeapState → Context
  y new = context setting here new far

  abbrev sit : Situation
  sit = situated setting here m key s h.function i

  abbrev Result : Op → CallFrame → HeapState → Type 0
  Result o g new = Done fetch o g new

  abbrev states : ℕ → Option State
  states = states_at fetch

  abbrev point : Point
  point = point_at fetch

  -- the fields of a class that is there
  pub fields_fit : (kinds : List Kind) → i.op ≡ op.New → slice_get setting.program.classes i.x ≡ Some kinds
      → i.b + length kinds ≤ length f.registers.items
  fields_fit kinds e known =
      let range = subst (λ q. IsThere setting.program h.function i (form_of q).b i.b) e
      (in_range setting.program assigned x f s.top h i fetched).b in
      let count_is : AreArgumentRegisters h.function (argument_count setting.program i op.New) i.b =
      subst (λ q. AreArgumentRegisters h.function (argument_count setting.program i q) i.b) e range in
      let counted : i.b + length kinds ≤ h.function.registers = subst (λ o. i.b + length (fields_of o) ≤ h.function.registers) known count_is.1 in
      omega (arith, counted, count setting.program assigned x f s.top h i fetched)

  -- ---- objects

  grows_object : (class : ℕ) (fields : List ℕ) → Grows x (y (with_object heap class fields))
  grows_object class fields = record {
    classes = refl;
    here = refl;
    places = refl;
    objects = λ n o e. (o, last_kept heap.objects _ n o e, refl);
    rails = λ n bytes e. (bytes, e);
    texts = λ n t e. e;
    exports = λ id e is. is;
    far = λ home id class e. e;
  }

  pub object_made : (kinds : List Kind) → i.op ≡ op.New → slice_get setting.program.classes i.x ≡ Some kinds → KindsAre h.state i.b kinds
      → i.b + length kinds ≤ length f.registers.items → MakesObject (space_of f heap) i (length kinds) (space_of g kept)
      → out ≡ onward point
      (gives point h.state (kind.Obj i.x) None) → Result op.New g kept
  object_made kinds e known fit few makes to =
      let from : GivesFields x m.cells sit f.registers.items i.b kinds =
      gives_fields x m.cells sit h.state f.registers.items held h.words i.b kinds fit few in
      let fields = slice_range f.registers.items i.b (i.b + length kinds) in
      let new = with_object heap i.x fields in
      let grows = grows_object i.x fields in
      let o : ObjectState = record { class = i.x; fields = fields } in
      let reference = 2 * length heap.objects in
      written fetch held exported g kept out same edges op.New (kind.Obj i.x) (Object reference) (length heap.objects + 1) new
      (with_entry m.cells reference (Some (Fields i.x from.values))) e (λ a. a) grows
      (holds_object x (y new) grows m.cells (length heap.objects) o kinds from.values held (written_last heap.objects o) known
      (words_kept x (y new) grows kinds fields from.values from.words_are) refl (one_more heap.objects o (2 ^ 32) makes.few) held.few_texts)
      refl (record {
        number = length heap.objects;
        object = o;
        word_is = refl;
        is_there = (written_last heap.objects o).at;
        class_is = refl;
        value_is = refl;
      })
      (edge_next fetch out
      (gives point h.state (kind.Obj i.x) None) edges to) makes.becomes
      (kinds, from.values, reference, known, from.held, from.of_kinds, free, (refl, refl))
    where
      free : m.cells (2 * length heap.objects) ≡ None
      free = subst (λ o. HoldsObject x o (m.cells (2 * length heap.objects))) (none_past heap.objects) (held.objects (length heap.objects))

  -- register b is written fetch held exported g kept out same edges to a field of the object in register a
  pub field_set : (class : ℕ) (kinds : List Kind) (k : Kind) → i.op ≡ op.Put → Reads x s.top.registers f.registers.items i.a (kind.Obj class)
      → slice_get setting.program.classes class ≡ Some kinds → slice_get kinds i.c ≡ Some k → Reads x s.top.registers f.registers.items i.b k
      → SetsField (space_of f heap) i (space_of g kept) → out ≡ onward point h.state
      → Result op.Put g kept
  field_set class kinds k e (v, v_is, some) known field (u, u_is, fits) sets to =
      let o : ObjectAt x m.cells class kinds (word_at f.registers.items i.a) v =
      object_at x m.cells class kinds (word_at f.registers.items i.a) v held some known in
      let same_object : o.object ≡ sets.object = same_Some o.object sets.object (sym o.is_there ∙ sets.is_object) in
      let number = object_in f.registers.items i.a in
      let word = word_at f.registers.items i.b in
      let old = word_in x kinds o.object.fields o.values i.c k o.words field in
      let changed : ObjectState = record o.object { fields = slice_set o.object.fields i.c word } in
      let new = with_field heap number o.object i.c word in
      let at = written_at heap.objects number changed o.object o.is_there in
      let grows : Grows x (y new) = record {
        classes = refl;
        here = refl;
        places = refl;
        objects = object_grows heap.objects new.objects number changed o.object at o.is_there refl;
        rails = λ n bytes e. (bytes, e);
        texts = λ n t e. e;
        exports = λ id e is. is;
        far = λ home id class e. e;
      } in
      let values = slice_set o.values i.c u in
      let words : AreWordsOf (y new) kinds changed.fields values =
      words_kept x (y new) grows kinds changed.fields values (words_set x kinds o.object.fields o.values i.c k word u o.words field fits) in
      let cells = with_entry m.cells (2 * number) (Some (Fields o.object.class values)) in
      let known_as : slice_get setting.program.classes changed.class ≡ Some kinds =
      ap (λ c. slice_get setting.program.classes c) o.class_is ∙ known in
      let cell : Result op.Put g new = record {
        top = next s.top;
        cells = cells;
        exports = m.exports;
        does = (
          o.reference,
          class,
          o.values,
          u,
          kinds,
          k,
          v_is ∙ ap Some o.value_is,
          o.cell_is,
          u_is,
          known,
          field,
          of_kind x m.cells k word u held fits,
          slice_get_within o.values i.c old.1 old.3,
          (
            ap (λ (cs : Cells). with_stay (record m { cells = cs }) key (Some (record s { top = next s.top })))
                (ap (λ r. with_entry m.cells r (Some (Fields o.object.class values))) (sym o.reference_is)
                ∙ ap (λ c. with_entry m.cells o.reference (Some (Fields c values))) o.class_is),
            refl,
          ),
        );
        stands = goes_next (beside fetch new grows) g (moved new o.object same_object sets.becomes)
            (edge_next fetch out h.state edges to);
        holds = holds_object x (y new) grows m.cells number changed kinds values held at known_as words refl
            (ap_few heap.objects number changed held.few_objects) held.few_texts;
        grows = grows;
        exported = exports_kept x (y new) grows m.exports refl exported;
      } in
      subst (λ hp. Result op.Put g hp) (sym (sets.becomes.heap_is ∙ ap (λ q. with_field heap number q i.c word) (sym same_object))) cell
    where
      ap_few : (xs : List ObjectState) (n : ℕ) (o : ObjectState) → length xs ≤ 2 ^ 32 → length (slice_set xs n o) ≤ 2 ^ 32
      ap_few xs n o le = let e : length (slice_set xs n o) ≡ length xs = simp length-set refl in omega (arith, e, le)

      moved : (new : HeapState) (q : ObjectState) → q ≡ sets.object
          → Becomes (space_of g kept) (f.pc + 1) f.registers.items f.loops
          (with_field heap (object_in f.registers.items i.a) sets.object i.c (word_at f.registers.items i.b))
          → FrameAfter f g (f.pc + 1) f.registers.items f.loops
      moved new q e b = after_of f g kept (with_field heap (object_in f.registers.items i.a) sets.object i.c (word_at f.registers.items i.b))
          (f.pc + 1) f.registers.items f.loops same b
