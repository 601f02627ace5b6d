-- What is known once all objects had their turns.
use Rattle.std.proofs.Common.{◌≡◌, ℕ, ◌<◌, ◌≤◌, List, ◌++◌, length, take, map, refl, sym, ap, subst, ◌∙◌, arith, flat_map}
use Rattle.std.specs.List.{AllByRecursion}
use Rattle.std.proofs.lemmas.List.{take_all, length-map}
use Rattle.x10_model.specs.declared.limits.TheConstants.{MOST_WIDE}
use Rattle.x10_kinds.specs.declared.kind.Kind.{Kind}
use Rattle.x10_heap.specs.Heaps.{HeapState}
use Rattle.x10_model.specs.Modules.{FitsText}
use Rattle.x10_model.specs.declared.version.FrameVersion.TheVariants.{Wide}
use Rattle.x10_model.specs.Frames.{Tables, tables_of, none, Turn, turn, next_turn, FitsItems, FitsRail, FitsNode, FitsGraph, spelling, item_bytes, blob_bytes, node_bytes}
use Rattle.x10_model.specs.Readers.{FitsEach, after_all}
use Rattle.x10_frame.specs.declared.head.Head.{Head}
use Rattle.x10_frame.specs.Heads.{with_graph, most_roots}
use Rattle.x10_copy.specs.Captured.{IsCaptured}
use Rattle.x10_frame.specs.Writing.{head_bytes, sizes_bytes, draft}
use Rattle.x10_copy.specs.Names.{Names, tables_in, items_of, AreWords, AreSound}
use Rattle.x10_copy.specs.Graphs.{text_at, rail_at, nodes_of, graph_of, IsSoundAt}
use Rattle.x10_copy.specs.Walks.{start_of, Walked}
use Rattle.x10_copy.proofs.WrittenLemmas.{items_count}
use Rattle.x10_copy.proofs.OfKinds.{fit_their_kinds}

pub drafted : (h : Head) (classes : List (List Kind)) (heap : HeapState) (n : Names) (kinds : List Kind) (words : List ℕ)
    (roots texts rails nodes : ℕ) (w1 w2 w3 w4 w5 : List ℕ) → AreWords kinds words
    → roots ≡ length words → texts ≡ length n.texts → rails ≡ length n.rails → nodes ≡ length n.objects
    → w1 ≡ head_bytes Wide h ++ sizes_bytes Wide roots texts rails nodes → w2 ≡ w1 ++ flat_map (item_bytes Wide) (items_of n kinds words)
    → w3 ≡ w2 ++ flat_map blob_bytes (map (text_at heap) n.texts)
    → w4 ≡ w3 ++ flat_map blob_bytes (map (rail_at heap) n.rails) → w5 ≡ w4 ++ flat_map (node_bytes Wide) (nodes_of classes heap n n.objects)
    → w5 ≡ draft Wide h (graph_of classes heap n kinds words)
drafted h classes heap n kinds words roots texts rails nodes w1 w2 w3 w4 w5 ok er et el en e1 e2 e3 e4 e5 =
    let g = graph_of classes heap n kinds words in
    let fr : roots ≡ length g.roots = er ∙ sym (items_count n kinds words ok) in
    let ft : texts ≡ length g.texts = et ∙ sym (length-map n.texts (text_at heap)) in
    let fl : rails ≡ length g.rails = el ∙ sym (length-map n.rails (rail_at heap)) in
    let fn : nodes ≡ length g.nodes = en ∙ sym (length-map n.objects _) in
    rw (e5, e4, e3, e2, e1, fr, ft, fl, fn) refl

pub tables_are : (classes : List (List Kind)) (heap : HeapState) (n : Names) (kinds : List Kind) (words : List ℕ)
    → tables_of (graph_of classes heap n kinds words) ≡ tables_in n
tables_are classes heap n kinds words = rw (length-map n.texts (text_at heap), length-map n.rails (rail_at heap), length-map n.objects _) refl

graph_fits : (classes : List (List Kind)) (places : ℕ) (heap : HeapState) (kinds : List Kind) (words : List ℕ) (most : ℕ) (n : Names)
    → AreWords kinds words
    → length words ≤ most
    → length n.texts ≤ MOST_WIDE → length n.rails ≤ MOST_WIDE → length n.objects ≤ MOST_WIDE → AllByRecursion FitsText (map (text_at heap) n.texts)
    → AllByRecursion FitsRail (map (rail_at heap) n.rails)
    → Walked classes places heap kinds words (length n.objects) n → FitsGraph Wide places most (graph_of classes heap n kinds words)
graph_fits classes places heap kinds words most n ok few ft fl fo texts rails h =
    let e = tables_are classes heap n kinds words in
    let all : take (length n.objects) n.objects ≡ n.objects = take_all (length n.objects) n.objects (omega arith) in
    let nodes : FitsEach (FitsNode places (tables_in n)) next_turn (start_of n kinds words) (nodes_of classes heap n n.objects) = rw all at h.nodes in
    let last : after_all next_turn (start_of n kinds words) (nodes_of classes heap n n.objects) ≡ turn (length n.objects) (tables_in n) =
    rw all at h.turn_is
    in
    record {
      count = omega (arith, items_count n kinds words ok, few);
      roots = subst (λ (t : Tables). FitsItems places t none (items_of n kinds words)) (sym e) h.roots;
      texts = (omega (arith, length-map n.texts (text_at heap), ft), texts);
      rails = (omega (arith, length-map n.rails (rail_at heap), fl), rails);
      nodes = (
        omega (arith, ap (λ (t : Tables). t.nodes) e, fo),
        subst
            (λ (t : Tables). FitsEach (FitsNode places t) next_turn (start_of n kinds words) (nodes_of classes heap n n.objects)) (sym e) nodes,
      );
      used = ap (λ (t : Turn). t.used) last ∙ sym e;
    }

pub captured_is : (classes : List (List Kind)) (places : ℕ) (heap : HeapState) (kinds : List Kind) (words : List ℕ) (head : Head) (bytes : List ℕ)
    (n : Names)
    → AreWords kinds words → length words ≤ most_roots head
    → (length n.texts ≤ MOST_WIDE) × (length n.rails ≤ MOST_WIDE) × (length n.objects ≤ MOST_WIDE)
    → AllByRecursion FitsText (map (text_at heap) n.texts)
    → AllByRecursion FitsRail (map (rail_at heap) n.rails)
    → Walked classes places heap kinds words (length n.objects) n → bytes ≡ spelling Wide (with_graph head (graph_of classes heap n kinds words))
    → AreSound places heap kinds words → ((p : ℕ) → p < length heap.objects → IsSoundAt classes places heap p)
    → IsCaptured classes places heap kinds words head bytes
captured_is classes places heap kinds words head bytes n ok most few texts rails h e sound all = record {
  names = n;
  once = h.once;
  there = h.there;
  fits = graph_fits classes places heap kinds words (most_roots head) n ok most few.0 few.1 few.2 texts rails h;
  spelled = e;
  of_kinds = fit_their_kinds classes places heap n kinds words sound all h;
}
