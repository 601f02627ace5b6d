-- Objects and rails that words name, in cells that stand for the heap.
use Rattle.std.proofs.Common.{◌≡◌, ℕ, zero, suc, ◌-◌, ◌*◌, ◌<◌, List, [], ◌∷◌, Some, refl, sym, ap, subst, ◌∙◌, arith}
use Rattle.std.specs.Prelude.{slice_get, slice_set}
use Rattle.std.proofs.lemmas.Option.{slice_get_within, same_Some}
use Rattle.x10_kinds.specs.declared.kind.Kind.{Kind}
use Rattle.x10_model.specs.Values.{Value, Object, Fields, Cells}
use Rattle.x10_heap.specs.Heaps.{ObjectState, HasField}
use Rattle.x10_heap.specs.Words.{Context, IsWordOf, IsObjectWord, AreWordsOf, IsObjectCell, HoldsObject, HoldsHeap}

-- the word and the value of a field
pub word_in : (x : Context) (ks : List Kind) (ws : List ℕ) (vs : List Value) (n : ℕ) (k : Kind) → AreWordsOf x ks ws vs → slice_get ks n ≡ Some k
    → (w : ℕ) × (v : Value) × (slice_get ws n ≡ Some w) × (slice_get vs n ≡ Some v) × IsWordOf x k w v
word_in x [] ws vs n k h e = absurd cc
word_in x (j ∷ ks) [] vs n k h e = absurd h
word_in x (j ∷ ks) (w ∷ ws) [] n k h e = absurd h
word_in x (j ∷ ks) (w ∷ ws) (v ∷ vs) zero k h e = (w, v, refl, refl, subst (λ q. IsWordOf x q w v) (same_Some j k e) h.0)
word_in x (j ∷ ks) (w ∷ ws) (v ∷ vs) (suc n) k h e = word_in x ks ws vs n k h.1 e

-- one field is written, with its value
pub words_set : (x : Context) (ks : List Kind) (ws : List ℕ) (vs : List Value) (n : ℕ) (k : Kind) (w : ℕ) (v : Value) → AreWordsOf x ks ws vs
    → slice_get ks n ≡ Some k → IsWordOf x k w v → AreWordsOf x ks (slice_set ws n w) (slice_set vs n v)
words_set x [] ws vs n k w v h e new = absurd cc
words_set x (j ∷ ks) [] vs n k w v h e new = absurd h
words_set x (j ∷ ks) (a ∷ ws) [] n k w v h e new = absurd h
words_set x (j ∷ ks) (a ∷ ws) (b ∷ vs) zero k w v h e new = (subst (λ q. IsWordOf x q w v) (sym (same_Some j k e)) new, h.1)
words_set x (j ∷ ks) (a ∷ ws) (b ∷ vs) (suc n) k w v h e new = (h.0, words_set x ks ws vs n k w v h.1 e new)

-- an object that a word names, in the heap and in the cells
pub record ObjectAt (x : Context) (cells : Cells) (class : ℕ) (kinds : List Kind) (word : ℕ) (v : Value) : Type 0 where
  pub object : ObjectState
  pub is_there : slice_get x.heap.objects (word - 1) ≡ Some object
  pub class_is : object.class ≡ class
  pub not_null : 0 < word
  pub values : List Value
  pub words : AreWordsOf x kinds object.fields values
  pub reference : ℕ
  pub reference_is : reference ≡ 2 * (word - 1)
  pub cell_is : cells reference ≡ Some (Fields class values)
  pub value_is : v ≡ Object reference

pub object_at : (x : Context) (cells : Cells) (class : ℕ) (kinds : List Kind) (word : ℕ) (v : Value) → HoldsHeap x cells
    → IsObjectWord x.heap class word v → slice_get x.classes class ≡ Some kinds → ObjectAt x cells class kinds word v
object_at x cells class kinds word v holds h known =
    let cell : IsObjectCell x h.object (cells (2 * h.number)) =
    subst (λ o. HoldsObject x o (cells (2 * h.number))) h.is_there (holds.objects h.number) in
    let number : h.number ≡ word - 1 = omega (arith, h.word_is) in
    let same : cell.kinds ≡ kinds = same_Some cell.kinds kinds (sym cell.kinds_are ∙ ap (λ c. slice_get x.classes c) h.class_is ∙ known) in
    record {
      object = h.object;
      is_there = subst (λ n. slice_get x.heap.objects n ≡ Some h.object) number h.is_there;
      class_is = h.class_is;
      not_null = omega (arith, h.word_is);
      values = cell.values;
      words = subst (λ ks. AreWordsOf x ks h.object.fields cell.values) same cell.words;
      reference = 2 * h.number;
      reference_is = ap (λ n. 2 * n) number;
      cell_is = subst (λ c. cells (2 * h.number) ≡ Some (Fields c cell.values)) h.class_is cell.cell_is;
      value_is = h.value_is;
    }

-- the object has the field
pub field_there : (x : Context) (cells : Cells) (class : ℕ) (kinds : List Kind) (word : ℕ) (v : Value) (field : ℕ) (k : Kind)
    → ObjectAt x cells class kinds word v → slice_get kinds field ≡ Some k → HasField x.heap (word - 1) field
field_there x cells class kinds word v field k o known =
    let w = word_in x kinds o.object.fields o.values field k o.words known in
    record { it = o.object; is_there = o.is_there; has_it = slice_get_within o.object.fields field w.0 w.2 }
