-- What arrives is taken in by the machine's definitions.
use Rattle.std.proofs.Common.{◌≡◌, ℕ, suc, ◌+◌, ◌-◌, ◌*◌, ◌/◌, ◌%◌, ◌^◌, ◌<◌, ◌≤◌, ◌==◌, Bool, List, [], ◌∷◌, length, get_or, map, Option, Some, None, slice_get, refl, sym, ap, subst, ◌∙◌, inl, inr, arith, lt-ltb, le-ltb}
use Rattle.std.specs.Prelude.{IsTrue, nat_lt, option_map, if◌then◌else◌}
use Rattle.std.specs.Int.{w64}
use Rattle.std.proofs.Math.Path.{ap₂}
use Rattle.std.proofs.lemmas.Bool.{cases_lt, cases_eq}
use Rattle.std.proofs.lemmas.Int.{to_z-of_z}
use Rattle.std.proofs.lemmas.List.{length-map, get_or-map}
use Rattle.std.proofs.lemmas.Option.{same_Some, slice_get-map, slice_get_within, slice_get_past, slice_get-get_or, get_or_from_slice_get}
use Rattle.x10_kinds.specs.declared.kind.Kind.{Kind}
use Rattle.x10_kinds.specs.declared.kind.Kind.TheVariants as kind
use Rattle.x10_heap.specs.Heaps.{HeapState, ObjectState}
use Rattle.x10_heap.specs.Words.{Context, is_named, IsObjectWord, IsWordOf, AreWordsOf, IsObjectCell, HoldsObject, rail_cell, HoldsHeap}
use Rattle.x10_model.specs.Signatures.{AreOfKinds}
use Rattle.x10_model.specs.Values.{Value, Int, Text, Rail, Object, Ref, Cell, Fields, Cells}
use Rattle.x10_model.specs.Copies as copies
use Rattle.x10_model.specs.Copies.{Snapshot, named, IsNodeOf, IsOfKindIn, IsCopy, IsName}
use Rattle.x10_model.specs.Marshalling as marshalling
use Rattle.x10_model.specs.Marshalling.{text_or_empty, value_of, snapshot_of}
use Rattle.x10_model.specs.declared.version.FrameVersion.TheVariants.{Wide}
use Rattle.x10_model.specs.Frames.{Item, IntItem, PlaceItem, TextItem, RailItem, ObjectItem, NullItem, RefItem, Node, Graph, Tables, tables_of, none, uses, turn, used_after, FitsItem, FitsItems, FitsGraph}
use Rattle.x10_model.proofs.Lists.{append_front, append_behind}
use Rattle.x10_model.proofs.Decided.{get_below}
use Rattle.x10_copy.specs.Names.{Names}
use Rattle.x10_copy.specs.Captured.{FitTheirKinds}
use Rattle.x10_copy.specs.References.{OfReference, AreNamed}
use Rattle.x10_copy.specs.Arrived.{word_in, object_from, arrived}
use Rattle.x10_copy.specs.Taken.{with_heap, TakesIn}
use Rattle.x10_copy.proofs.CopyLemmas.{as_object, as_rail, names_of, distinct_map}
use Rattle.x10_copy.proofs.Numbered.{numbers, numbers_length, numbers_or, numbers_distinct}
use Rattle.x10_copy.proofs.WholeGraphs.{fields_fit, whole}

module _ (x : Context) (g : Graph) where
  abbrev s : Snapshot
  s = snapshot_of g

  abbrev new : HeapState
  new = arrived x.heap g

  abbrev y : Context
  y = with_heap x new

  -- how many objects and rails were there
  abbrev base : ℕ
  base = length x.heap.objects

  abbrev rails_base : ℕ
  rails_base = length x.heap.rails

  abbrev parts : Names
  parts = record { texts = []; rails = numbers rails_base (length g.rails); objects = numbers base (length g.nodes) }

  abbrev n : copies.Names
  n = names_of parts

  abbrev object_of : Node → ObjectState
  object_of node = object_from (length x.heap.texts) (length x.heap.rails) (length x.heap.objects) node

  object_at : (k : ℕ) → k < length g.nodes → get_or n.objects k 0 ≡ 2 * (base + k)
  object_at k lt =
      let long : k < length parts.objects = omega (arith, lt, numbers_length base (length g.nodes)) in
      get_or-map as_object parts.objects k 0 0 long ∙ ap as_object (numbers_or base (length g.nodes) k lt)

  rail_at : (i : ℕ) → i < length g.rails → get_or n.rails i 0 ≡ 2 * (rails_base + i) + 1
  rail_at i lt =
      let long : i < length parts.rails = omega (arith, lt, numbers_length rails_base (length g.rails)) in
      get_or-map as_rail parts.rails i 0 0 long ∙ ap as_rail (numbers_or rails_base (length g.rails) i lt)

  -- ---- words

  abbrev Named : Value → Type 0
  Named = OfReference (λ home id class. IsTrue (is_named x home id class))

  object_there : (k : ℕ) (node : Node) → slice_get g.nodes k ≡ Some node → slice_get new.objects (base + k) ≡ Some (object_of node)
  object_there k node e =
      append_behind x.heap.objects (map object_of g.nodes) k ∙ slice_get-map object_of g.nodes k ∙ ap (λ (o : Option Node). option_map object_of o) e

  node_there : (k : ℕ) (node : Node) → slice_get g.nodes k ≡ Some node → slice_get s.nodes k ≡ Some (marshalling.node_of g.texts node)
  node_there k node e =
      slice_get-map (marshalling.node_of g.texts) g.nodes k ∙ ap (λ (o : Option Node). option_map (marshalling.node_of g.texts) o) e

  object_word : (c k : ℕ) → k < length g.nodes → IsNodeOf s k c → IsObjectWord new c (base + k + 1) (Object (get_or n.objects k 0))
  object_word c k lt o =
      let at = get_below g.nodes k lt in
      let same : marshalling.node_of g.texts at.0 ≡ o.0 = same_Some (marshalling.node_of g.texts at.0) o.0 (sym (node_there k at.0 at.1) ∙ o.1) in
      record {
        number = base + k;
        object = object_of at.0;
        word_is = refl;
        is_there = object_there k at.0 at.1;
        class_is = ap (λ (m : copies.Node). m.class) same ∙ o.2;
        value_is = ap Object (object_at k lt);
      }

  word_of : (used : Tables) (k : Kind) (i : Item) → x.places ≤ 2 ^ 16 → FitsItem x.places (tables_of g) used i
      → IsOfKindIn s (value_of g.texts i) k → Named (value_of g.texts i) → IsWordOf y k (word_in x.heap i) (named n (value_of g.texts i))
  word_of used kind.Int (IntItem z) few f o r = ap Int (sym (to_z-of_z w64 z f))
  word_of used kind.Place (PlaceItem p) few f o r = (f, refl)
  word_of used kind.Text (TextItem i) few f o r =
      let at = get_below g.texts i f.below in
      (at.0, append_behind x.heap.texts g.texts i ∙ at.1, ap (λ (t : Option (List ℕ)). Text (text_or_empty t)) at.1)
  word_of used kind.Rail (RailItem i) few f o r =
      let at = get_below g.rails i f.below in
      (at.0, append_behind x.heap.rails g.rails i ∙ at.1, ap Rail (rail_at i f.below))
  word_of used (kind.Obj c) (ObjectItem k) few f o r = object_word c k f.below o
  word_of used (kind.Opt c) (ObjectItem k) few f o r = inr (object_word c k f.below o)
  word_of used (kind.Opt c) NullItem few f o r = inl (refl, refl)
  word_of used (kind.GRef c) (RefItem home id class) few f o r =
      let h : (home + 65536 * id) % 65536 ≡ home = omega (arith, few, f.0) in
      let d : (home + 65536 * id) / 65536 ≡ id = omega (arith, few, f.0) in
      rw (h, d) (f.0, f.1, subst (λ (c : ℕ). IsTrue (is_named x home id c)) o r, ap (λ (c : ℕ). Ref home id c) o)
  word_of used _ _ few f o r = absurd o

  words_of : (used : Tables) (ks : List Kind) (is : List Item) → x.places ≤ 2 ^ 16 → FitsItems x.places (tables_of g) used is
      → AreOfKinds (IsOfKindIn s) (map (value_of g.texts) is) ks
      → ((i : ℕ) (v : Value) → slice_get (map (value_of g.texts) is) i ≡ Some v → Named v)
      → AreWordsOf y ks (map (word_in x.heap) is) (map (named n) (map (value_of g.texts) is))
  words_of used [] [] few f o r = tt
  words_of used [] (i ∷ is) few f o r = absurd o
  words_of used (k ∷ ks) [] few f o r = absurd o
  words_of used (k ∷ ks) (i ∷ is) few f o r = (
    word_of used k i few f.0 o.0 (r 0 (value_of g.texts i) refl),
    words_of (uses used i) ks is few f.1 o.1 (λ j v e. r (suc j) v e),
  )

  -- ---- what was there stays

  object_kept : (c w : ℕ) (v : Value) → IsObjectWord x.heap c w v → IsObjectWord new c w v
  object_kept c w v h = record {
    number = h.number;
    object = h.object;
    word_is = h.word_is;
    is_there = append_front x.heap.objects (map object_of g.nodes) h.number h.object h.is_there;
    class_is = h.class_is;
    value_is = h.value_is;
  }

  word_kept : (k : Kind) (w : ℕ) (v : Value) → IsWordOf x k w v → IsWordOf y k w v
  word_kept kind.Int w v h = h
  word_kept kind.Place w v h = h
  word_kept kind.Text w v h = (h.0, append_front x.heap.texts g.texts w h.0 h.1, h.2)
  word_kept kind.Rail w v h = (h.0, append_front x.heap.rails g.rails w h.0 h.1, h.2)
  word_kept (kind.Obj c) w v h = object_kept c w v h
  word_kept (kind.Opt c) w v (inl h) = inl h
  word_kept (kind.Opt c) w v (inr h) = inr (object_kept c w v h)
  word_kept (kind.GRef c) w v h = h

  words_kept : (ks : List Kind) (ws : List ℕ) (vs : List Value) → AreWordsOf x ks ws vs → AreWordsOf y ks ws vs
  words_kept [] [] [] h = tt
  words_kept [] [] (v ∷ vs) h = absurd h
  words_kept [] (w ∷ ws) vs h = absurd h
  words_kept (k ∷ ks) [] vs h = absurd h
  words_kept (k ∷ ks) (w ∷ ws) [] h = absurd h
  words_kept (k ∷ ks) (w ∷ ws) (v ∷ vs) h = (word_kept k w v h.0, words_kept ks ws vs h.1)

  cell_kept : (object : ObjectState) (cell : Option Cell) → IsObjectCell x object cell → IsObjectCell y object cell
  cell_kept object cell h = record {
    kinds = h.kinds;
    kinds_are = h.kinds_are;
    values = h.values;
    words = words_kept h.kinds object.fields h.values h.words;
    cell_is = h.cell_is;
  }

  -- ---- cells

  abbrev object_cell : Option copies.Node → Option Cell
  object_cell None = None
  object_cell (Some node) = Some (Fields node.class (map (named n) node.fields))

  module _ (old : Cells) where
    -- the cell of object number m, and that of rail number m
    abbrev cell_of_object : ℕ → Option Cell
    cell_of_object m = if nat_lt m base then old (2 * m) else object_cell (slice_get s.nodes (m - base))

    abbrev cell_of_rail : ℕ → Option Cell
    cell_of_rail m = if nat_lt m rails_base then old (2 * m + 1) else rail_cell (slice_get g.rails (m - rails_base))

    abbrev cell_of : ℕ → ℕ → Option Cell
    cell_of parity m = if parity == 0 then cell_of_object m else cell_of_rail m

    abbrev after : Cells
    after reference = cell_of (reference % 2) (reference / 2)

    even : (m : ℕ) → after (2 * m) ≡ cell_of_object m
    even m =
        let p : (2 * m) % 2 ≡ 0 = omega arith in
        let h : (2 * m) / 2 ≡ m = omega arith in
        ap₂ cell_of p h

    odd : (m : ℕ) → after (2 * m + 1) ≡ cell_of_rail m
    odd m =
        let p : (2 * m + 1) % 2 ≡ 1 = omega arith in
        let h : (2 * m + 1) / 2 ≡ m = omega arith in
        ap₂ cell_of p h

    old_object : (m : ℕ) → m < base → after (2 * m) ≡ old (2 * m)
    old_object m lt = even m ∙ ap (λ (b : Bool). if b then old (2 * m) else object_cell (slice_get s.nodes (m - base))) (lt-ltb m base lt)

    new_object : (k : ℕ) → after (2 * (base + k)) ≡ object_cell (slice_get s.nodes k)
    new_object k =
        let m = base + k in
        let le : base ≤ m = omega arith in
        let d : m - base ≡ k = omega arith in
        even m ∙ ap (λ (b : Bool). if b then old (2 * m) else object_cell (slice_get s.nodes (m - base))) (le-ltb m base le)
        ∙ ap (λ (j : ℕ). object_cell (slice_get s.nodes j)) d

    old_rail : (m : ℕ) → m < rails_base → after (2 * m + 1) ≡ old (2 * m + 1)
    old_rail m lt = odd m ∙ ap (λ (b : Bool). if b then old (2 * m + 1) else rail_cell (slice_get g.rails (m - rails_base))) (lt-ltb m rails_base lt)

    new_rail : (i : ℕ) → after (2 * (rails_base + i) + 1) ≡ rail_cell (slice_get g.rails i)
    new_rail i =
        let m = rails_base + i in
        let le : rails_base ≤ m = omega arith in
        let d : m - rails_base ≡ i = omega arith in
        odd m ∙ ap (λ (b : Bool). if b then old (2 * m + 1) else rail_cell (slice_get g.rails (m - rails_base))) (le-ltb m rails_base le)
        ∙ ap (λ (j : ℕ). rail_cell (slice_get g.rails j)) d

    module _ (holds : HoldsHeap x old) where
      -- there was nothing behind what was there
      no_object : (m : ℕ) → base ≤ m → old (2 * m) ≡ None
      no_object m le = subst (λ (o : Option ObjectState). HoldsObject x o (old (2 * m))) (slice_get_past x.heap.objects m le) (holds.objects m)

      no_rail : (m : ℕ) → rails_base ≤ m → old (2 * m + 1) ≡ None
      no_rail m le = holds.rails m ∙ ap rail_cell (slice_get_past x.heap.rails m le)

      unused : (reference : ℕ) → IsName n reference → old reference ≡ None
      unused reference (inl m) =
          let lt : m.0 < length g.nodes = omega (
            arith,
            slice_get_within n.objects m.0 reference m.1,
            length-map parts.objects as_object,
            numbers_length base (length g.nodes),
          ) in
          let is : reference ≡ 2 * (base + m.0) = sym (get_or_from_slice_get n.objects m.0 reference 0 m.1) ∙ object_at m.0 lt in
          ap old is ∙ no_object (base + m.0) (omega arith)
      unused reference (inr m) =
          let lt : m.0 < length g.rails = omega (
            arith,
            slice_get_within n.rails m.0 reference m.1,
            length-map parts.rails as_rail,
            numbers_length rails_base (length g.rails),
          ) in
          let is : reference ≡ 2 * (rails_base + m.0) + 1 = sym (get_or_from_slice_get n.rails m.0 reference 0 m.1) ∙ rail_at m.0 lt in
          ap old is ∙ no_rail (rails_base + m.0) (omega arith)

      object_name : (k : ℕ) → k < length g.nodes → IsName n (2 * (base + k))
      object_name k lt =
          let long : k < length n.objects = omega (arith, lt, length-map parts.objects as_object, numbers_length base (length g.nodes)) in
          inl (k, slice_get-get_or n.objects k 0 long ∙ ap Some (object_at k lt))

      rail_name : (i : ℕ) → i < length g.rails → IsName n (2 * (rails_base + i) + 1)
      rail_name i lt =
          let long : i < length n.rails = omega (arith, lt, length-map parts.rails as_rail, numbers_length rails_base (length g.rails)) in
          inr (i, slice_get-get_or n.rails i 0 long ∙ ap Some (rail_at i lt))

      other_object : (m : ℕ) → (IsName n (2 * m) → ⊥) → after (2 * m) ≡ old (2 * m)
      other_object m apart = elim (cases_lt m base) [
        | inl lt ↦ old_object m lt
        | inr le ↦ (
            let k = m - base in
            let is : base + k ≡ m = omega (arith, le) in
            let past : length g.nodes ≤ k = elim (cases_lt k (length g.nodes)) [
              | inl lt ↦ absurd (apart (subst (λ (r : ℕ). IsName n (2 * r)) is (object_name k lt)))
              | inr ge ↦ ge
            ] in
            ap (λ (r : ℕ). after (2 * r)) (sym is) ∙ new_object k
            ∙ ap object_cell (slice_get_past s.nodes k (omega (arith, past, length-map g.nodes (marshalling.node_of g.texts)))) ∙ sym (no_object m le)
            )
      ]

      other_rail : (m : ℕ) → (IsName n (2 * m + 1) → ⊥) → after (2 * m + 1) ≡ old (2 * m + 1)
      other_rail m apart = elim (cases_lt m rails_base) [
        | inl lt ↦ old_rail m lt
        | inr le ↦ (
            let i = m - rails_base in
            let is : rails_base + i ≡ m = omega (arith, le) in
            let past : length g.rails ≤ i = elim (cases_lt i (length g.rails)) [
              | inl lt ↦ absurd (apart (subst (λ (r : ℕ). IsName n (2 * r + 1)) is (rail_name i lt)))
              | inr ge ↦ ge
            ] in
            ap (λ (r : ℕ). after (2 * r + 1)) (sym is) ∙ new_rail i ∙ ap rail_cell (slice_get_past g.rails i past) ∙ sym (no_rail m le)
            )
      ]

      others : (reference : ℕ) → (IsName n reference → ⊥) → after reference ≡ old reference
      others reference apart = elim (cases_eq (reference % 2) 0) [
        | inl e ↦ (
            let is : reference ≡ 2 * (reference / 2) = omega (arith, e) in
            ap after is ∙ other_object (reference / 2) (subst (λ (r : ℕ). IsName n r → ⊥) is apart) ∙ ap old (sym is)
            )
        | inr e ↦ (
            let is : reference ≡ 2 * (reference / 2) + 1 = omega (arith, e) in
            ap after is ∙ other_rail (reference / 2) (subst (λ (r : ℕ). IsName n r → ⊥) is apart) ∙ ap old (sym is)
            )
      ]

      -- ---- the heap

      module _ (kinds : List Kind) (most : ℕ) (few : x.places ≤ 2 ^ 16) (fits : FitsGraph Wide x.places most g)
          (of_kinds : FitTheirKinds x.classes kinds s) (are_named : AreNamed x s) where
        abbrev Holds : ℕ → Type 0
        Holds m = HoldsObject y (slice_get new.objects m) (after (2 * m))

        holds_old : (m : ℕ) → m < base → Holds m
        holds_old m lt =
            let at = get_below x.heap.objects m lt in
            let cell = subst (λ (o : Option ObjectState). HoldsObject x o (old (2 * m))) at.1 (holds.objects m) in
            rw (append_front x.heap.objects (map object_of g.nodes) m at.0 at.1, old_object m lt) (cell_kept at.0 (old (2 * m)) cell)

        holds_node : (k : ℕ) (node : Node) → slice_get g.nodes k ≡ Some node
            → IsObjectCell y (object_of node) (object_cell (Some (marshalling.node_of g.texts node)))
        holds_node k node e =
            let there = node_there k node e in
            let kind = of_kinds.nodes k (marshalling.node_of g.texts node) there in
            let f = fields_fit x.places (tables_of g) (turn 0 (used_after none g.roots)) g.nodes k node fits.nodes.1 e in
            record {
              kinds = kind.0;
              kinds_are = kind.1;
              values = map (named n) (map (value_of g.texts) node.fields);
              words = words_of f.0 kind.0 node.fields few f.1 kind.2
                  (λ i v at. are_named.fields k (marshalling.node_of g.texts node) v there (i, at));
              cell_is = refl;
            }

        holds_new : (k : ℕ) (o : Option Node) → slice_get g.nodes k ≡ o → Holds (base + k)
        holds_new k None e =
            let a : slice_get new.objects (base + k) ≡ None = append_behind x.heap.objects (map object_of g.nodes) k ∙ slice_get-map object_of g.nodes k
            ∙ ap (λ (o : Option Node). option_map object_of o) e in
            let b : slice_get s.nodes k ≡ None = slice_get-map (marshalling.node_of g.texts) g.nodes k
            ∙ ap (λ (o : Option Node). option_map (marshalling.node_of g.texts) o) e in
            rw a (new_object k ∙ ap object_cell b)
        holds_new k (Some node) e =
            rw (object_there k node e, new_object k ∙ ap object_cell (node_there k node e)) (holds_node k node e)

        holds_all : (m : ℕ) → Holds m
        holds_all m = elim (cases_lt m base) [
          | inl lt ↦ holds_old m lt
          | inr le ↦ (
              let is : base + (m - base) ≡ m = omega (arith, le) in
              subst Holds is (holds_new (m - base) (slice_get g.nodes (m - base)) refl)
              )
        ]

        rails_all : (m : ℕ) → after (2 * m + 1) ≡ rail_cell (slice_get new.rails m)
        rails_all m = elim (cases_lt m rails_base) [
          | inl lt ↦ (
              let at = get_below x.heap.rails m lt in
              old_rail m lt ∙ holds.rails m ∙ ap rail_cell (at.1 ∙ sym (append_front x.heap.rails g.rails m at.0 at.1))
              )
          | inr le ↦ (
              let is : rails_base + (m - rails_base) ≡ m = omega (arith, le) in
              subst (λ (r : ℕ). after (2 * r + 1) ≡ rail_cell (slice_get new.rails r)) is
              (new_rail (m - rails_base) ∙ ap rail_cell (sym (append_behind x.heap.rails g.rails (m - rails_base))))
              )
        ]

        copy : IsCopy after (map (named n) s.roots) s n
        copy = record {
          whole = whole x.places most g fits;
          names = record {
            objects = length-map parts.objects as_object ∙ numbers_length base (length g.nodes)
                ∙ sym (length-map g.nodes (marshalling.node_of g.texts));
            rails = length-map parts.rails as_rail ∙ numbers_length rails_base (length g.rails);
            objects_distinct = distinct_map as_object parts.objects (λ a b e. omega (arith, e)) (numbers_distinct base (length g.nodes));
            rails_distinct = distinct_map as_rail parts.rails (λ a b e. omega (arith, e)) (numbers_distinct rails_base (length g.rails));
          };
          roots = refl;
          nodes = λ k node e.
              let lt : k < length g.nodes = omega (
                arith,
                slice_get_within s.nodes k node e,
                length-map g.nodes (marshalling.node_of g.texts),
              ) in
              ap after (object_at k lt) ∙ new_object k ∙ ap object_cell e;
          bytes = λ i bytes e. ap after (rail_at i (slice_get_within g.rails i bytes e)) ∙ new_rail i ∙ ap rail_cell e;
        }

        pub takes_in : length new.objects ≤ 2 ^ 32 → length new.texts ≤ 2 ^ 32 → length new.rails ≤ 2 ^ 32
            → TakesIn x old s kinds (map (word_in x.heap) g.roots) new
        takes_in objects texts rails = record {
          values = map (named n) s.roots;
          cells = after;
          arrives = record { names = n; copy = copy; unused = unused; others = others };
          holds = record { objects = holds_all; rails = rails_all; few_objects = objects; few_texts = texts; few_rails = rails };
          words = words_of none kinds g.roots few fits.roots of_kinds.roots (λ i v at. are_named.roots v (i, at));
          kept = word_kept;
        }
