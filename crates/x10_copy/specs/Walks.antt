-- What is known while objects have their turns one after another.
use Rattle.std.specs.Prelude.{◌≡◌, ℕ, List, [], ◌∷◌, length, take}
use Rattle.x10_kinds.specs.declared.kind.Kind.{Kind}
use Rattle.x10_heap.specs.Heaps.{HeapState}
use Rattle.x10_model.specs.Frames.{Turn, turn, next_turn, none, used_after, FitsItems, FitsNode}
use Rattle.x10_model.specs.Readers.{FitsEach, after_all}
use Rattle.x10_copy.specs.Names.{Names, tables_in, items_of, AreFound, IsPart}
use Rattle.x10_copy.specs.Graphs.{EachPart, kinds_at, object_at, nodes_of, AreOnce}
use Rattle.x10_copy.specs.Captured.{MeetsText, MeetsRail, MeetsObject}

-- what the words of these objects lead to has names
abbrev pub AllFound : List (List Kind) → HeapState → Names → List ℕ → Type 0
AllFound classes heap n [] = Unit {0}
AllFound classes heap n (p ∷ ps) = AreFound n (kinds_at classes (object_at heap p).class)
    (object_at heap p).fields × AllFound classes heap n ps

-- what the roots have used
abbrev pub start_of : Names → List Kind → List ℕ → Turn
start_of n kinds words = turn 0 (used_after none (items_of n kinds words))

-- the first k objects had their turns, and all that they and the roots lead to has a name, each by its first use
pub record Walked (classes : List (List Kind)) (places : ℕ) (heap : HeapState) (kinds : List Kind)
    (words : List ℕ) (k : ℕ) (n : Names) : Type 0 where
  pub once : AreOnce n
  pub met : EachPart (MeetsText classes heap kinds words) (MeetsRail classes heap kinds words)
      (MeetsObject classes heap kinds words) n
  pub there : EachPart (IsPart (length heap.texts)) (IsPart (length heap.rails))
      (IsPart (length heap.objects)) n
  pub found : AreFound n kinds words
  pub roots : FitsItems places (tables_in n) none (items_of n kinds words)
  pub done : AllFound classes heap n (take k n.objects)
  pub nodes : FitsEach (FitsNode places (tables_in n)) next_turn (start_of n kinds words)
      (nodes_of classes heap n (take k n.objects))
  pub turn_is : after_all next_turn (start_of n kinds words)
      (nodes_of classes heap n (take k n.objects)) ≡ turn k (tables_in n)
