-- A heap that stands for cells has sound words.
use Rattle.std.proofs.Common.{◌≡◌, ℕ, zero, suc, ◌*◌, ◌<◌, ◌≤◌, ◌^◌, List, [], ◌∷◌, length, Some, slice_get, subst, inl, inr, arith}
use Rattle.std.specs.List.{AllByRecursion}
use Rattle.std.proofs.lemmas.Option.{slice_get-get_or, slice_get_within, get_or_from_slice_get}
use Rattle.x10_kinds.specs.declared.kind.Kind.{Kind}
use Rattle.x10_kinds.specs.declared.kind.Kind.TheVariants as kind
use Rattle.x10_heap.specs.Heaps.{HeapState, ObjectState}
use Rattle.x10_heap.specs.Words.{Context, IsWordOf, IsObjectWord, AreWordsOf, IsObjectCell, HoldsObject, HoldsHeap}
use Rattle.x10_model.specs.Modules.{NamesClassBelow, FitsClass}
use Rattle.x10_model.specs.Values.{Value, Cells}
use Rattle.x10_copy.specs.Names.{IsObject, IsSound, AreSound}
use Rattle.x10_copy.specs.Graphs.{kinds_at, no_object, object_at, IsSoundAt}

record IsSmall (heap : HeapState) : Type 0 where
  objects : length heap.objects ≤ 2 ^ 32
  texts : length heap.texts ≤ 2 ^ 32
  rails : length heap.rails ≤ 2 ^ 32

object_sound : (heap : HeapState) (class word : ℕ) (v : Value) → IsSmall heap → IsObjectWord heap class word v → IsObject heap class word
object_sound heap class word v few h = record {
  number = h.number;
  word_is = h.word_is;
  small = omega (arith, slice_get_within heap.objects h.number h.object h.is_there, few.objects);
  object = h.object;
  is_there = h.is_there;
  class_is = h.class_is;
}

sound : (x : Context) (k : Kind) (w : ℕ) (v : Value) → IsSmall x.heap → NamesClassBelow (2 ^ 16) k → IsWordOf x k w v → IsSound x.places x.heap k w
sound x kind.Int w v few c h = tt
sound x kind.Place w v few c h = h.0
sound x kind.Text w v few c h = let lt = slice_get_within x.heap.texts w h.0 h.1 in record { below = lt; small = omega (arith, lt, few.texts) }
sound x kind.Rail w v few c h = let lt = slice_get_within x.heap.rails w h.0 h.1 in record { below = lt; small = omega (arith, lt, few.rails) }
sound x (kind.Obj class) w v few c h = object_sound x.heap class w v few h
sound x (kind.Opt class) w v few c (inl h) = inl h.0
sound x (kind.Opt class) w v few c (inr h) = inr (object_sound x.heap class w v few h)
sound x (kind.GRef class) w v few c h = (h.0, h.1, c)

all_sound : (x : Context) (ks : List Kind) (ws : List ℕ) (vs : List Value) → IsSmall x.heap → AllByRecursion (NamesClassBelow (2 ^ 16)) ks
    → AreWordsOf x ks ws vs → AreSound x.places x.heap ks ws
all_sound x [] [] [] few c h = tt
all_sound x [] [] (v ∷ vs) few c h = absurd h
all_sound x [] (w ∷ ws) vs few c h = absurd h
all_sound x (k ∷ ks) [] vs few c h = absurd h
all_sound x (k ∷ ks) (w ∷ ws) [] few c h = absurd h
all_sound x (k ∷ ks) (w ∷ ws) (v ∷ vs) few c h = (sound x k w v few c.0 h.0, all_sound x ks ws vs few c.1 h.1)

lower : (m n : ℕ) (k : Kind) → m < n → NamesClassBelow m k → NamesClassBelow n k
lower m n kind.Int lt h = tt
lower m n kind.Place lt h = tt
lower m n kind.Text lt h = tt
lower m n kind.Rail lt h = tt
lower m n (kind.Obj c) lt h = omega (arith, lt, h)
lower m n (kind.Opt c) lt h = omega (arith, lt, h)
lower m n (kind.GRef c) lt h = omega (arith, lt, h)

all_lower : (m n : ℕ) (ks : List Kind) → m < n → AllByRecursion (NamesClassBelow m) ks → AllByRecursion (NamesClassBelow n) ks
all_lower m n [] lt h = tt
all_lower m n (k ∷ ks) lt h = (lower m n k lt h.0, all_lower m n ks lt h.1)

class_of : (m : ℕ) (classes : List (List Kind)) (c : ℕ) (ks : List Kind) → AllByRecursion (FitsClass m) classes → slice_get classes c ≡ Some ks
    → FitsClass m ks
class_of m [] c ks h e = absurd cc
class_of m (k ∷ classes) zero ks h e = let same : k ≡ ks = cc in rw (← same) h.0
class_of m (k ∷ classes) (suc c) ks h e = class_of m classes c ks h.1 e

small : (x : Context) (cells : Cells) → HoldsHeap x cells → IsSmall x.heap
small x cells h = record { objects = h.few_objects; texts = h.few_texts; rails = h.few_rails }

pub words_sound : (x : Context) (cells : Cells) (ks : List Kind) (ws : List ℕ) (vs : List Value) → length x.classes < 2 ^ 16
    → AllByRecursion (NamesClassBelow (length x.classes)) ks → HoldsHeap x cells → AreWordsOf x ks ws vs → AreSound x.places x.heap ks ws
words_sound x cells ks ws vs few c h words = all_sound x ks ws vs (small x cells h) (all_lower (length x.classes) (2 ^ 16) ks few c) words

cell_sound : (x : Context) (object : ObjectState) (cell : _) → length x.classes < 2 ^ 16 → AllByRecursion (FitsClass (length x.classes)) x.classes
    → IsSmall x.heap → IsObjectCell x object cell
    → (object.class < length x.classes) × (length (kinds_at x.classes object.class) ≤ 16)
    × AreSound x.places x.heap (kinds_at x.classes object.class) object.fields
cell_sound x object cell few fits s h =
    let f = class_of (length x.classes) x.classes object.class h.kinds fits h.kinds_are in
    let e : kinds_at x.classes object.class ≡ h.kinds = get_or_from_slice_get x.classes object.class h.kinds [] h.kinds_are in (
      slice_get_within x.classes object.class h.kinds h.kinds_are,
      rw e f.count,
      rw e
          (all_sound x h.kinds object.fields h.values s (all_lower (length x.classes) (2 ^ 16) h.kinds few f.kinds) h.words),
    )

pub heap_sound : (x : Context) (cells : Cells) → length x.classes < 2 ^ 16 → AllByRecursion (FitsClass (length x.classes)) x.classes
    → HoldsHeap x cells
    → (p : ℕ) → p < length x.heap.objects → IsSoundAt x.classes x.places x.heap p
heap_sound x cells few fits h p lt =
    let cell = subst (λ (o : _). HoldsObject x o (cells (2 * p))) (slice_get-get_or x.heap.objects p no_object lt) (h.objects p) in
    let s = cell_sound x (object_at x.heap p) _ few fits (small x cells h) cell in
    record { class = s.0; small = omega (arith, s.0, few); count = s.1; words = s.2 }
