-- What was captured is a snapshot by the machine's definitions, and each global reference in it names an object.
use Rattle.std.proofs.Common.{◌≡◌, ℕ, zero, suc, ◌*◌, ◌<◌, List, [], ◌∷◌, length, get_or, map, Option, Some, slice_get, subst, arith}
use Rattle.std.specs.Prelude.{IsTrue}
use Rattle.std.proofs.lemmas.List.{length-map}
use Rattle.std.proofs.lemmas.Option.{slice_get-get_or, slice_get_within, get_or_from_slice_get}
use Rattle.x10_kinds.specs.declared.kind.Kind.{Kind}
use Rattle.x10_kinds.specs.declared.kind.Kind.TheVariants as kind
use Rattle.x10_heap.specs.Heaps.{HeapState, ObjectState}
use Rattle.x10_heap.specs.Words.{Context, is_named, IsWordOf, AreWordsOf, HoldsObject, HoldsHeap}
use Rattle.x10_model.specs.Values.{Value, Cells}
use Rattle.x10_model.specs.Copies as copies
use Rattle.x10_model.specs.Marshalling as marshalling
use Rattle.x10_model.specs.Marshalling.{value_of, snapshot_of}
use Rattle.x10_model.specs.Frames.{Graph}
use Rattle.x10_frame.specs.declared.head.Head.{Head}
use Rattle.x10_frame.specs.Heads.{most_roots}
use Rattle.x10_copy.specs.Names.{Names, item_of, items_of}
use Rattle.x10_copy.specs.Graphs.{kinds_at, no_object, object_at, node_of, graph_of, AreThere}
use Rattle.x10_copy.specs.References.{OfReference, AreNamed}
use Rattle.x10_copy.specs.Captured.{IsCaptured, IsCopied}
use Rattle.x10_copy.proofs.CopyLemmas.{names_of, node_there, mapped, is_copy}

module _ (x : Context) (n : Names) (texts : List (List ℕ)) where
  abbrev Named : Value → Type 0
  Named = OfReference (λ home id class. IsTrue (is_named x home id class))

  word_named : (k : Kind) (w : ℕ) (v : Value) → IsWordOf x k w v → Named (value_of texts (item_of n k w))
  word_named kind.Int w v h = tt
  word_named kind.Place w v h = tt
  word_named kind.Text w v h = tt
  word_named kind.Rail w v h = tt
  word_named (kind.Obj c) w v h = tt
  word_named (kind.Opt c) zero v h = tt
  word_named (kind.Opt c) (suc w) v h = tt
  word_named (kind.GRef c) w v h = h.2

  words_named : (ks : List Kind) (ws : List ℕ) (vs : List Value) → AreWordsOf x ks ws vs → (i : ℕ) (v : Value)
      → slice_get (map (value_of texts) (items_of n ks ws)) i ≡ Some v → Named v
  words_named [] ws vs h i v e = absurd cc
  words_named (k ∷ ks) [] vs h i v e = absurd cc
  words_named (k ∷ ks) (w ∷ ws) [] h i v e = absurd h
  words_named (k ∷ ks) (w ∷ ws) (u ∷ vs) h zero v e =
      let same : value_of texts (item_of n k w) ≡ v = cc in
      subst Named same (word_named k w u h.0)
  words_named (k ∷ ks) (w ∷ ws) (u ∷ vs) h (suc i) v e = words_named ks ws vs h.1 i v e

all_named : (x : Context) (cells : Cells) (n : Names) (kinds : List Kind) (words : List ℕ) (values : List Value) → HoldsHeap x cells
    → AreWordsOf x kinds words values → AreThere x.heap n → AreNamed x (snapshot_of (graph_of x.classes x.heap n kinds words))
all_named x cells n kinds words values holds stand there =
    let g : Graph = graph_of x.classes x.heap n kinds words in
    record {
      roots = λ v is. words_named x n g.texts kinds words values stand is.0 v is.1;
      fields = λ k node v e is.
          let lt : k < length n.objects = omega (
            arith,
            slice_get_within (map (marshalling.node_of g.texts) g.nodes) k node e,
            length-map g.nodes (marshalling.node_of g.texts),
            length-map n.objects (λ (p : ℕ). node_of x.classes n (object_at x.heap p)),
          ) in
          let p = get_or n.objects k 0 in
          let o = object_at x.heap p in
          let same : node ≡ marshalling.node_of g.texts (node_of x.classes n o) =
          mapped g.texts g.nodes k node (node_of x.classes n o) e (node_there x n k lt)
          in
          let cell = subst (λ (c : Option ObjectState). HoldsObject x c (cells (2 * p)))
          (slice_get-get_or x.heap.objects p no_object (there.objects k lt).below) (holds.objects p) in
          let kinds_are : kinds_at x.classes o.class ≡ cell.kinds = get_or_from_slice_get x.classes o.class cell.kinds [] cell.kinds_are in
          let field : slice_get (map (value_of g.texts) (items_of n cell.kinds o.fields)) is.0 ≡ Some v = rw (← kinds_are)
          (subst (λ (m : copies.Node). slice_get m.fields is.0 ≡ Some v) same is.1) in
          words_named x n g.texts cell.kinds o.fields cell.values cell.words is.0 v field;
    }

pub copied : (classes : List (List Kind)) (places : ℕ) (heap : HeapState) (kinds : List Kind) (words : List ℕ) (head : Head) (bytes : List ℕ)
    → IsCaptured classes places heap kinds words head bytes → IsCopied classes places heap kinds words head bytes
copied classes places heap kinds words head bytes h x cells values ec ep eh holds stand =
    let k : IsCaptured x.classes x.places x.heap kinds words head bytes = rw (ec, ep, eh) h in
    record {
      graph = graph_of x.classes x.heap k.names kinds words;
      fits = k.fits;
      spelled = k.spelled;
      of_kinds = k.of_kinds;
      captures = (names_of k.names, is_copy x cells k.names kinds words values (most_roots head) holds stand k.once k.there k.fits);
      named = all_named x cells k.names kinds words values holds stand k.there;
    }
