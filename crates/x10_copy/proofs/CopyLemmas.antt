-- What was captured is a copy by the machine's definitions.
use Rattle.std.proofs.Common.{◌≡◌, ℕ, zero, suc, ◌+◌, ◌-◌, ◌*◌, ◌<◌, List, [], ◌∷◌, length, get_or, map, Option, Some, slice_get, refl, sym, ap, subst, ◌∙◌, inl, inr, arith}
use Rattle.std.proofs.lemmas.List.{length-map, get_or-map}
use Rattle.std.proofs.lemmas.Option.{slice_get-get_or, slice_get_within, slice_get-map, get_or_from_slice_get}
use Rattle.std.specs.Prelude.{option_map}
use Rattle.x10_kinds.specs.declared.kind.Kind.{Kind}
use Rattle.x10_kinds.specs.declared.kind.Kind.TheVariants as kind
use Rattle.x10_heap.specs.Heaps.{HeapState, ObjectState}
use Rattle.x10_heap.specs.Words.{Context, IsWordOf, IsObjectWord, AreWordsOf, IsObjectCell, HoldsObject, rail_cell, HoldsHeap}
use Rattle.x10_model.specs.Maps.{AreDistinct}
use Rattle.x10_model.specs.Values.{Value, Text, Rail, Object, Cell, Fields, Bytes, Cells}
use Rattle.x10_model.specs.Copies as copies
use Rattle.x10_model.specs.Copies.{named, AreNamesOf, IsCopy}
use Rattle.x10_model.specs.Marshalling as marshalling
use Rattle.x10_model.specs.Marshalling.{text_or_empty, value_of, snapshot_of}
use Rattle.x10_model.specs.declared.version.FrameVersion.TheVariants.{Wide}
use Rattle.x10_model.specs.Frames.{Node, Tables, tables_of, none, uses, turn, used_after, FitsItem, FitsItems, FitsGraph}
use Rattle.x10_copy.specs.Names.{Names, number, item_of, items_of, IsFound, AreFound}
use Rattle.x10_copy.specs.Graphs.{kinds_at, no_object, object_at, text_at, rail_at, node_of, nodes_of, graph_of, AreOnce, AreThere}
use Rattle.x10_copy.proofs.Position.{number_there}
use Rattle.x10_copy.proofs.WholeGraphs.{fields_fit, whole}

abbrev pub as_object : ℕ → ℕ
as_object p = 2 * p

abbrev pub as_rail : ℕ → ℕ
as_rail p = 2 * p + 1

-- the references of the parts
abbrev pub names_of : Names → copies.Names
names_of n = record { objects = map as_object n.objects; rails = map as_rail n.rails }

-- ---- words

-- a part that has a name stands under its number
text_is : (heap : HeapState) (ps : List ℕ) (w : ℕ) (t : List ℕ) → number ps w < length ps → slice_get heap.texts w ≡ Some t
    → text_or_empty (slice_get (map (text_at heap) ps) (number ps w)) ≡ t
text_is heap ps w t lt e =
    let long : number ps w < length (map (text_at heap) ps) = omega (arith, length-map ps (text_at heap), lt) in
    ap text_or_empty (slice_get-get_or (map (text_at heap) ps) (number ps w) [] long)
    ∙ get_or-map (text_at heap) ps (number ps w) 0 [] lt ∙ ap (λ (p : ℕ). text_at heap p) (number_there ps w lt)
    ∙ get_or_from_slice_get heap.texts w t [] e

reference_is : (f : ℕ → ℕ) (ps : List ℕ) (w : ℕ) → number ps w < length ps → get_or (map f ps) (number ps w) 0 ≡ f w
reference_is f ps w lt = get_or-map f ps (number ps w) 0 0 lt ∙ ap f (number_there ps w lt)

module _ (x : Context) (n : Names) where
  abbrev texts : List (List ℕ)
  texts = map (text_at x.heap) n.texts

  object_is : (class w p : ℕ) (v : Value) → IsObjectWord x.heap class w v → w ≡ p + 1 → number n.objects p < length n.objects
      → v ≡ Object (get_or (map as_object n.objects) (number n.objects p) 0)
  object_is class w p v h e f =
      let same : h.number ≡ p = omega (arith, h.word_is, e) in
      h.value_is ∙ ap (λ (q : ℕ). Object (2 * q)) same ∙ ap Object (sym (reference_is as_object n.objects p f))

  value_is : (k : Kind) (w : ℕ) (v : Value) → IsFound n k w → IsWordOf x k w v → v ≡ named (names_of n) (value_of texts (item_of n k w))
  value_is kind.Int w v f h = h
  value_is kind.Place w v f h = h.1
  value_is kind.Text w v f h = h.2 ∙ ap Text (sym (text_is x.heap n.texts w h.0 f h.1))
  value_is kind.Rail w v f h = h.2 ∙ ap Rail (sym (reference_is as_rail n.rails w f))
  value_is (kind.Obj c) w v f h = object_is c w (w - 1) v h (omega (arith, h.word_is)) f
  value_is (kind.Opt c) zero v f (inl h) = h.1
  value_is (kind.Opt c) zero v f (inr h) = absurd (omega (arith, h.word_is))
  value_is (kind.Opt c) (suc w) v f (inl h) = absurd (omega (arith, h.0))
  value_is (kind.Opt c) (suc w) v f (inr h) = object_is c (suc w) w v h (omega arith) f
  value_is (kind.GRef c) w v f h = h.3

  values_are : (ks : List Kind) (ws : List ℕ) (vs : List Value) → AreFound n ks ws → AreWordsOf x ks ws vs
      → vs ≡ map (named (names_of n)) (map (value_of texts) (items_of n ks ws))
  values_are [] [] [] f h = refl
  values_are [] [] (v ∷ vs) f h = absurd h
  values_are [] (w ∷ ws) vs f h = absurd h
  values_are (k ∷ ks) [] vs f h = absurd h
  values_are (k ∷ ks) (w ∷ ws) [] f h = absurd h
  values_are (k ∷ ks) (w ∷ ws) (v ∷ vs) f h = rw (value_is k w v f.0 h.0, values_are ks ws vs f.1 h.1) refl

  -- ---- what has a name, by what fits

  found_is : (places : ℕ) (all used : Tables) (k : Kind) (w : ℕ) → all.texts ≡ length n.texts → all.rails ≡ length n.rails
      → all.nodes ≡ length n.objects
      → FitsItem places all used (item_of n k w) → IsFound n k w
  found_is places all used kind.Int w et el en f = tt
  found_is places all used kind.Place w et el en f = tt
  found_is places all used kind.Text w et el en f = omega (arith, f.below, et)
  found_is places all used kind.Rail w et el en f = omega (arith, f.below, el)
  found_is places all used (kind.Obj c) w et el en f = omega (arith, f.below, en)
  found_is places all used (kind.Opt c) zero et el en f = tt
  found_is places all used (kind.Opt c) (suc w) et el en f = omega (arith, f.below, en)
  found_is places all used (kind.GRef c) w et el en f = tt

  all_found : (places : ℕ) (all used : Tables) (ks : List Kind) (ws : List ℕ) → all.texts ≡ length n.texts → all.rails ≡ length n.rails
      → all.nodes ≡ length n.objects → FitsItems places all used (items_of n ks ws) → AreFound n ks ws
  all_found places all used [] [] et el en f = tt
  all_found places all used [] (w ∷ ws) et el en f = tt
  all_found places all used (k ∷ ks) [] et el en f = tt
  all_found places all used (k ∷ ks) (w ∷ ws) et el en
      f = (found_is places all used k w et el en f.0, all_found places all (uses used (item_of n k w)) ks ws et el en f.1)

  -- ---- cells

  cell_is : (object : ObjectState) (cell : Option Cell) → IsObjectCell x object cell → AreFound n (kinds_at x.classes object.class) object.fields
      → cell ≡ Some (Fields object.class (map (named (names_of n))
      (map (value_of texts) (items_of n (kinds_at x.classes object.class) object.fields))))
  cell_is object cell h f =
      let e : kinds_at x.classes object.class ≡ h.kinds = get_or_from_slice_get x.classes object.class h.kinds [] h.kinds_are in
      let found : AreFound n h.kinds object.fields = rw e at f in
      rw e (h.cell_is ∙ ap (λ (vs : List Value). Some (Fields object.class vs)) (values_are h.kinds object.fields h.values found h.words))

pub distinct_map : (f : ℕ → ℕ) (xs : List ℕ) → ((a b : ℕ) → f a ≡ f b → a ≡ b) → AreDistinct xs → AreDistinct (map f xs)
distinct_map f xs one d i j y e g =
    let li : i < length xs = omega (arith, slice_get_within (map f xs) i y e, length-map xs f) in
    let lj : j < length xs = omega (arith, slice_get_within (map f xs) j y g, length-map xs f) in
    let same : get_or xs i 0 ≡ get_or xs j 0 = one _ _
    (sym (get_or-map f xs i 0 0 li) ∙ get_or_from_slice_get (map f xs) i y 0 e ∙ sym (get_or_from_slice_get (map f xs) j y 0 g)
    ∙ get_or-map f xs j 0 0
    lj) in
    d i j (get_or xs j 0) (slice_get-get_or xs i 0 li ∙ ap Some same) (slice_get-get_or xs j 0 lj)

-- ---- the copy

pub node_there : (x : Context) (n : Names) (k : ℕ) → k < length n.objects
    → slice_get (nodes_of x.classes x.heap n n.objects) k ≡ Some (node_of x.classes n (object_at x.heap (get_or n.objects k 0)))
node_there x n k lt =
    let f : ℕ → Node = λ p. node_of x.classes n (object_at x.heap p) in
    slice_get-map f n.objects k ∙ ap (λ (o : Option ℕ). option_map f o) (slice_get-get_or n.objects k 0 lt)

pub mapped : (texts : List (List ℕ)) (ns : List Node) (k : ℕ) (node : copies.Node) (m : Node)
    → slice_get (map (marshalling.node_of texts) ns) k ≡ Some node
    → slice_get ns k ≡ Some m → node ≡ marshalling.node_of texts m
mapped texts ns k node m e f =
    let g : slice_get (map (marshalling.node_of texts) ns) k ≡ Some (marshalling.node_of texts m) =
    slice_get-map (marshalling.node_of texts) ns k ∙ ap
    (λ (o : Option Node). option_map (marshalling.node_of texts) o) f in
    cc

pub is_copy : (x : Context) (cells : Cells) (n : Names) (kinds : List Kind) (words : List ℕ) (values : List Value) (most : ℕ) → HoldsHeap x cells
    → AreWordsOf x kinds words values → AreOnce n → AreThere x.heap n
    → FitsGraph Wide x.places most (graph_of x.classes x.heap n kinds words)
    → IsCopy cells values (snapshot_of (graph_of x.classes x.heap n kinds words)) (names_of n)
is_copy x cells n kinds words values most holds stand once there fits =
    let g = graph_of x.classes x.heap n kinds words in
    let et : (tables_of g).texts ≡ length n.texts = length-map n.texts (text_at x.heap) in
    let el : (tables_of g).rails ≡ length n.rails = length-map n.rails (rail_at x.heap) in
    let en : (tables_of g).nodes ≡ length n.objects = length-map n.objects (λ (p : ℕ). node_of x.classes n (object_at x.heap p)) in
    record {
      whole = whole x.places most g fits;
      names = record {
        objects = length-map n.objects as_object ∙ sym en ∙ sym (length-map g.nodes (marshalling.node_of g.texts));
        rails = length-map n.rails as_rail ∙ sym el;
        objects_distinct = distinct_map as_object n.objects (λ a b e. omega (arith, e)) once.objects;
        rails_distinct = distinct_map as_rail n.rails (λ a b e. omega (arith, e)) once.rails;
      };
      roots = values_are x n kinds words values (all_found x n x.places (tables_of g) none kinds words et el en fits.roots) stand;
      nodes = λ k node e.
          let lt : k < length n.objects = omega (
            arith,
            slice_get_within (map (marshalling.node_of g.texts) g.nodes) k node e,
            length-map g.nodes
                (marshalling.node_of g.texts),
            en,
          ) in
          let p = get_or n.objects k 0 in
          let o = object_at x.heap p in
          let at : slice_get g.nodes k ≡ Some (node_of x.classes n o) = node_there x n k lt in
          let is : node ≡ marshalling.node_of g.texts (node_of x.classes n o) = mapped g.texts g.nodes k node (node_of x.classes n o) e at in
          let f = fields_fit x.places (tables_of g) (turn 0 (used_after none g.roots)) g.nodes k (node_of x.classes n o) fits.nodes.1 at in
          let found = all_found x n x.places (tables_of g) f.0 (kinds_at x.classes o.class) o.fields et el en f.1 in
          let cell = subst (λ (c : Option ObjectState). HoldsObject x c (cells (2 * p)))
          (slice_get-get_or x.heap.objects p no_object (there.objects k lt).below) (holds.objects p) in
          rw is (ap cells (get_or-map as_object n.objects k 0 0 lt) ∙ cell_is x n o (cells (2 * p)) cell found);
      bytes = λ i bytes e.
          let lt : i < length n.rails = omega (arith, slice_get_within g.rails i bytes e, el) in
          let p = get_or n.rails i 0 in
          let is : rail_at x.heap p ≡ bytes = sym (get_or-map (rail_at x.heap) n.rails i 0 [] lt) ∙ get_or_from_slice_get g.rails i bytes [] e in
          ap cells (get_or-map as_rail n.rails i 0 0 lt) ∙ holds.rails p ∙ ap rail_cell (slice_get-get_or x.heap.rails p [] (there.rails i lt).below)
          ∙ ap
          (λ (b : List ℕ). Some (Bytes b)) is;
    }
