-- What was captured is of the kinds that were asked for.
use Rattle.std.proofs.Common.{◌≡◌, ℕ, zero, suc, ◌+◌, ◌-◌, ◌<◌, List, [], ◌∷◌, length, get_or, take, map, Option, Some, slice_get, refl, sym, ap, ◌∙◌, inl, inr, arith}
use Rattle.std.specs.Prelude.{option_map}
use Rattle.std.proofs.lemmas.List.{length-map, take_all}
use Rattle.std.proofs.lemmas.Option.{slice_get-get_or, slice_get_within, slice_get-map, get_or_from_slice_get}
use Rattle.x10_kinds.specs.declared.kind.Kind.{Kind}
use Rattle.x10_kinds.specs.declared.kind.Kind.TheVariants as kind
use Rattle.x10_heap.specs.Heaps.{HeapState, ObjectState}
use Rattle.x10_model.specs.Signatures.{AreOfKinds}
use Rattle.x10_model.specs.Copies as copies
use Rattle.x10_model.specs.Copies.{IsNodeOf, IsOfKindIn}
use Rattle.x10_model.specs.Marshalling as marshalling
use Rattle.x10_model.specs.Marshalling.{value_of, snapshot_of}
use Rattle.x10_model.specs.Frames.{Node, Graph}
use Rattle.x10_copy.specs.Names.{Names, number, items_of, item_of, IsFound, AreFound, IsObject, IsSound, AreSound}
use Rattle.x10_copy.specs.Graphs.{kinds_at, object_at, node_of, rail_at, graph_of, IsSoundAt}
use Rattle.x10_copy.specs.Captured.{FitTheirKinds}
use Rattle.x10_copy.specs.Walks.{Walked}
use Rattle.x10_copy.proofs.Position.{number_there}
use Rattle.x10_copy.proofs.WrittenLemmas.{object_found}

module _ (classes : List (List Kind)) (places : ℕ) (heap : HeapState) (n : Names) (kinds : List Kind) (words : List ℕ) where
  abbrev graph : Graph
  graph = graph_of classes heap n kinds words

  abbrev node_at : ℕ → copies.Node
  node_at k = marshalling.node_of graph.texts (node_of classes n (object_at heap (get_or n.objects k 0)))

  node_is : (k : ℕ) → k < length n.objects → slice_get (snapshot_of graph).nodes k ≡ Some (node_at k)
  node_is k lt =
      let f : ℕ → Node = λ p. node_of classes n (object_at heap p) in
      slice_get-map (marshalling.node_of graph.texts) graph.nodes k
      ∙ ap (λ (o : Option Node). option_map (marshalling.node_of graph.texts) o)
      (slice_get-map f n.objects k ∙ ap (λ (o : Option ℕ). option_map f o) (slice_get-get_or n.objects k 0 lt))

  object_kind : (c w p : ℕ) → IsObject heap c w → w ≡ p + 1 → number n.objects p < length n.objects
      → IsNodeOf (snapshot_of graph) (number n.objects p) c
  object_kind c w p o e lt =
      let same : o.number ≡ p = omega (arith, o.word_is, e) in
      let there : get_or n.objects (number n.objects p) 0 ≡ o.number = number_there n.objects p lt ∙ sym same in
      let is : object_at heap (get_or n.objects (number n.objects p) 0) ≡ o.object = ap (λ (q : ℕ). object_at heap q) there ∙ get_or_from_slice_get
      heap.objects o.number o.object _ o.is_there in
      (node_at (number n.objects p), node_is (number n.objects p) lt, ap (λ (x : ObjectState). x.class) is ∙ o.class_is)

  item_kind : (k : Kind) (w : ℕ) → IsSound places heap k w → IsFound n k w → IsOfKindIn (snapshot_of graph) (value_of graph.texts (item_of n k w)) k
  item_kind kind.Int w s f = tt
  item_kind kind.Place w s f = tt
  item_kind kind.Text w s f = tt
  item_kind kind.Rail w s f = omega (arith, f, length-map n.rails (rail_at heap))
  item_kind (kind.Obj c) w s f = object_kind c w (w - 1) s (omega (arith, s.word_is)) f
  item_kind (kind.Opt c) zero s f = tt
  item_kind (kind.Opt c) (suc w) (inl s) f = absurd (omega (arith, s))
  item_kind (kind.Opt c) (suc w) (inr s) f = object_kind c (suc w) w s (omega arith) f
  item_kind (kind.GRef c) w s f = refl

  all_kinds : (ks : List Kind) (ws : List ℕ) → AreSound places heap ks ws → AreFound n ks ws
      → AreOfKinds (IsOfKindIn (snapshot_of graph)) (map (value_of graph.texts) (items_of n ks ws)) ks
  all_kinds [] [] s f = tt
  all_kinds [] (w ∷ ws) s f = absurd s
  all_kinds (k ∷ ks) [] s f = absurd s
  all_kinds (k ∷ ks) (w ∷ ws) s f = (item_kind k w s.0 f.0, all_kinds ks ws s.1 f.1)

  pub fit_their_kinds : AreSound places heap kinds words → ((p : ℕ) → p < length heap.objects → IsSoundAt classes places heap p)
      → Walked classes places heap kinds words (length n.objects) n → FitTheirKinds classes kinds (snapshot_of graph)
  fit_their_kinds sound all h = record {
    roots = all_kinds kinds words sound h.found;
    nodes = λ k node e.
        let lt : k < length n.objects = omega (
          arith,
          slice_get_within (snapshot_of graph).nodes k node e,
          length-map graph.nodes
              (marshalling.node_of graph.texts),
          length-map n.objects (λ (p : ℕ). node_of classes n (object_at heap p)),
        ) in
        let p = get_or n.objects k 0 in
        let o = object_at heap p in
        let s = all p (h.there.objects k lt).below in
        let is : node_at k ≡ node = (let g : slice_get (snapshot_of graph).nodes k ≡ Some (node_at k) = node_is k lt in cc) in
        let every : take (length n.objects) n.objects ≡ n.objects = take_all (length n.objects) n.objects (omega arith) in
        let found = object_found classes heap n n.objects k (rw every at h.done) lt in
        rw (← is) (
          kinds_at classes o.class,
          slice_get-get_or classes o.class [] s.class,
          all_kinds (kinds_at classes o.class) o.fields s.words found,
        );
  }
