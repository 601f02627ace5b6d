-- Heaps that grow: what words and cells stand for is kept.
use Rattle.std.proofs.Common.{◌≡◌, ◌⊎◌, ℕ, zero, suc, ◌+◌, ◌*◌, ◌<◌, ◌≤◌, ◌^◌, ◌==◌, Bool, true, false, List, [], ◌∷◌, ◌++◌, length, Option, Some, None, refl, sym, ap, subst, ◌∙◌, inl, inr, arith}
use Rattle.std.specs.Prelude.{◌/◌, ◌%◌, IsTrue, if◌then◌else◌, slice_get, slice_set}
use Rattle.std.proofs.lemmas.Bool.{eqb-true, eq-eqb, cases_Bool, cases_eq}
use Rattle.x10_kinds.specs.declared.kind.Kind.{Kind}
use Rattle.x10_kinds.specs.declared.kind.Kind.TheVariants as kind
use Rattle.x10_model.specs.Maps.{with_entry}
use Rattle.x10_model.specs.Values.{Value, Cell, Fields, Bytes, Cells}
use Rattle.x10_heap.specs.declared.export.Export.{Export}
use Rattle.x10_heap.specs.Heaps.{ObjectState}
use Rattle.x10_heap.specs.Words.{Context, has_class, is_named, IsObjectWord, IsWordOf, AreWordsOf, IsObjectCell, HoldsObject, rail_cell, HoldsHeap}

-- ---- lists

-- item n is x, and the others are as they were
pub record IsWritten {A : Type 0} (xs : List A) (n : ℕ) (x : A) (ys : List A) : Type 0 where
  pub at : slice_get ys n ≡ Some x
  pub others : (k : ℕ) → (k ≡ n → ⊥) → slice_get ys k ≡ slice_get xs k

written_below : {A : Type 0} (x : A) (xs ys : List A) (y : A) (n : ℕ) → IsWritten xs n y ys → IsWritten (x ∷ xs) (suc n) y (x ∷ ys)
written_below x xs ys y n h = record { at = h.at; others = λ k ne. below k ne }
  where
    below : (k : ℕ) → (k ≡ suc n → ⊥) → slice_get (x ∷ ys) k ≡ slice_get (x ∷ xs) k
    below zero ne = refl
    below (suc k) ne = h.others k (λ e. ne (ap suc e))

pub written_last : {A : Type 0} (xs : List A) (x : A) → IsWritten xs (length xs) x (xs ++ x ∷ [])
written_last [] x = record { at = refl; others = λ k ne. past k ne }
  where
    past : (k : ℕ) → (k ≡ 0 → ⊥) → slice_get (x ∷ []) k ≡ None
    past zero ne = absurd (ne refl)
    past (suc k) ne = refl
written_last (y ∷ xs) x = written_below y xs (xs ++ x ∷ []) x (length xs) (written_last xs x)

pub written_at : {A : Type 0} (xs : List A) (n : ℕ) (x y : A) → slice_get xs n ≡ Some y → IsWritten xs n x (slice_set xs n x)
written_at [] n x y e = absurd cc
written_at (z ∷ xs) zero x y e = record { at = refl; others = λ k ne. past k ne }
  where
    past : (k : ℕ) → (k ≡ 0 → ⊥) → slice_get (x ∷ xs) k ≡ slice_get (z ∷ xs) k
    past zero ne = absurd (ne refl)
    past (suc k) ne = refl
written_at (z ∷ xs) (suc n) x y e = written_below z xs (slice_set xs n x) x n (written_at xs n x y e)

-- what is there stays there, where only what wasn't is written
pub last_kept : {A : Type 0} (xs : List A) (x : A) (n : ℕ) (y : A) → slice_get xs n ≡ Some y → slice_get (xs ++ x ∷ []) n ≡ Some y
last_kept [] x n y e = absurd cc
last_kept (z ∷ xs) x zero y e = e
last_kept (z ∷ xs) x (suc n) y e = last_kept xs x n y e

-- ---- contexts

-- All that is known stays known: the same classes, place and number of places; each object keeps its class, each text its
-- bytes, each rail is a rail, and what was named is named.
pub record Grows (x y : Context) : Type 0 where
  pub classes : y.classes ≡ x.classes
  pub here : y.here ≡ x.here
  pub places : y.places ≡ x.places
  pub objects : (n : ℕ) (o : ObjectState) → slice_get x.heap.objects n ≡ Some o
      → (q : ObjectState) × (slice_get y.heap.objects n ≡ Some q) × (q.class ≡ o.class)
  pub rails : (n : ℕ) (bytes : List ℕ) → slice_get x.heap.rails n ≡ Some bytes → (others : List ℕ) × (slice_get y.heap.rails n ≡ Some others)
  pub texts : (n : ℕ) (text : List ℕ) → slice_get x.heap.texts n ≡ Some text → slice_get y.heap.texts n ≡ Some text
  pub exports : (id : ℕ) (e : Export) → slice_get x.heap.exports id ≡ Some e → slice_get y.heap.exports id ≡ Some e
  pub far : (home id class : ℕ) → IsTrue (x.far home id class) → IsTrue (y.far home id class)

pub grows_not : (x : Context) → Grows x x
grows_not x = record {
  classes = refl;
  here = refl;
  places = refl;
  objects = λ n o e. (o, e, refl);
  rails = λ n bytes e. (bytes, e);
  texts = λ n text e. e;
  exports = λ id e is. is;
  far = λ home id class e. e;
}

export_kept : (o p : Option Export) (class : ℕ) → ((e : Export) → o ≡ Some e → p ≡ Some e) → IsTrue (has_class o class) → IsTrue (has_class p class)
export_kept None p class kept h = absurd cc
export_kept (Some e) p class kept h = subst (λ q. IsTrue (has_class q class)) (sym (kept e refl)) h

named_if : (b : Bool) (f g p q : Bool) → (IsTrue f → IsTrue p) → (IsTrue g → IsTrue q) → IsTrue (if b then f else g) → IsTrue (if b then p else q)
named_if true f g p q here there h = here h
named_if false f g p q here there h = there h

module _ (x y : Context) (grows : Grows x y) where
  object_kept : (class word : ℕ) (v : Value) → IsObjectWord x.heap class word v → IsObjectWord y.heap class word v
  object_kept class word v h =
      let q = grows.objects h.number h.object h.is_there in
      record { number = h.number; object = q.0; word_is = h.word_is; is_there = q.1; class_is = q.2 ∙ h.class_is; value_is = h.value_is }

  name_kept : (home id class : ℕ) → IsTrue (is_named x home id class) → IsTrue (is_named y home id class)
  name_kept home id class h = subst (λ n. IsTrue (if home == n then has_class (slice_get y.heap.exports id) class else y.far home id class))
      (sym grows.here)
      (named_if (home == x.here) (has_class (slice_get x.heap.exports id) class) (x.far home id class) (has_class (slice_get y.heap.exports id) class)
      (y.far home id class)
      (export_kept (slice_get x.heap.exports id) (slice_get y.heap.exports id) class (grows.exports id)) (grows.far home id class) h)

  -- a word stands for what it stood for
  pub word_kept : (k : Kind) (w : ℕ) (v : Value) → IsWordOf x k w v → IsWordOf y k w v
  word_kept kind.Int w v h = h
  word_kept kind.Place w v h = (subst (λ n. w < n) (sym grows.places) h.0, h.1)
  word_kept kind.Text w v h = (h.0, grows.texts w h.0 h.1, h.2)
  word_kept kind.Rail w v h = let r = grows.rails w h.0 h.1 in (r.0, r.1, h.2)
  word_kept (kind.Obj c) w v h = object_kept c w v h
  word_kept (kind.Opt c) w v (inl h) = inl h
  word_kept (kind.Opt c) w v (inr h) = inr (object_kept c w v h)
  word_kept (kind.GRef c) w v h = (subst (λ n. w % 65536 < n) (sym grows.places) h.0, h.1, name_kept (w % 65536) (w / 65536) c h.2, h.3)

  pub words_kept : (ks : List Kind) (ws : List ℕ) (vs : List Value) → AreWordsOf x ks ws vs → AreWordsOf y ks ws vs
  words_kept [] [] [] h = tt
  words_kept [] [] (v ∷ vs) h = absurd h
  words_kept [] (w ∷ ws) vs h = absurd h
  words_kept (k ∷ ks) [] vs h = absurd h
  words_kept (k ∷ ks) (w ∷ ws) [] h = absurd h
  words_kept (k ∷ ks) (w ∷ ws) (v ∷ vs) h = (word_kept k w v h.0, words_kept ks ws vs h.1)

  cell_kept : (o : ObjectState) (cell : Option Cell) → IsObjectCell x o cell → IsObjectCell y o cell
  cell_kept o cell h = record {
    kinds = h.kinds;
    kinds_are = subst (λ classes. slice_get classes o.class ≡ Some h.kinds) (sym grows.classes) h.kinds_are;
    values = h.values;
    words = words_kept h.kinds o.fields h.values h.words;
    cell_is = h.cell_is;
  }

  holds_kept : (o : Option ObjectState) (cell : Option Cell) → HoldsObject x o cell → HoldsObject y o cell
  holds_kept None cell h = h
  holds_kept (Some o) cell h = cell_kept o cell h

  -- ---- cells

  same_object : (p q : Option ObjectState) (cell : Option Cell) → q ≡ p → HoldsObject x p cell → HoldsObject y q cell
  same_object p q cell e h = subst (λ o. HoldsObject y o cell) (sym e) (holds_kept p cell h)

  -- neither an object nor a rail changed
  pub holds_texts : (cells : Cells) → HoldsHeap x cells → y.heap.objects ≡ x.heap.objects → y.heap.rails ≡ x.heap.rails → length y.heap.texts ≤ 2 ^ 32
      → HoldsHeap y cells
  holds_texts cells h objects rails few = record {
    objects = λ n. same_object (slice_get x.heap.objects n) (slice_get y.heap.objects n) (cells (2 * n)) (ap (λ xs. slice_get xs n) objects)
        (h.objects n);
    rails = λ n. h.rails n ∙ ap (λ xs. rail_cell (slice_get xs n)) (sym rails);
    few_objects = subst (λ xs. length xs ≤ 2 ^ 32) (sym objects) h.few_objects;
    few_texts = few;
    few_rails = subst (λ xs. length xs ≤ 2 ^ 32) (sym rails) h.few_rails;
  }

  at_entry : (cells : Cells) (r : ℕ) (cell : Cell) → with_entry cells r (Some cell) r ≡ Some cell
  at_entry cells r cell = elim (cases_Bool (r == r)) [
    | inl e ↦ ap (λ b. if b then Some cell else cells r) e
    | inr e ↦ absurd
        (let f = eq-eqb r r refl in cc)
  ]

  off_entry : (cells : Cells) (r : ℕ) (cell : Cell) (s : ℕ) → (s ≡ r → ⊥) → with_entry cells r (Some cell) s ≡ cells s
  off_entry cells r cell s ne = elim (cases_Bool (s == r)) [
    | inl e ↦ absurd (ne (eqb-true s r e))
    | inr e ↦ ap
        (λ b. if b then Some cell else cells s) e
  ]

  -- one object was made or written
  pub holds_object : (cells : Cells) (number : ℕ) (o : ObjectState) (kinds : List Kind) (values : List Value) → HoldsHeap x cells
      → IsWritten x.heap.objects number o y.heap.objects → slice_get x.classes o.class ≡ Some kinds → AreWordsOf y kinds o.fields values
      → y.heap.rails ≡ x.heap.rails → length y.heap.objects ≤ 2 ^ 32 → length y.heap.texts ≤ 2 ^ 32
      → HoldsHeap y (with_entry cells (2 * number) (Some (Fields o.class values)))
  holds_object cells number o kinds values h written known words rails few texts = record {
    objects = λ n. at n (cases_eq n number);
    rails = λ n. off_entry cells (2 * number) (Fields o.class values) (2 * n + 1) (λ e. omega (arith, e)) ∙ h.rails n
        ∙ ap (λ xs. rail_cell (slice_get xs n)) (sym rails);
    few_objects = few;
    few_texts = texts;
    few_rails = subst (λ xs. length xs ≤ 2 ^ 32) (sym rails) h.few_rails;
  }
    where
      new : Cells
      new = with_entry cells (2 * number) (Some (Fields o.class values))

      at : (n : ℕ) → (n ≡ number) ⊎ (n ≡ number → ⊥) → HoldsObject y (slice_get y.heap.objects n) (new (2 * n))
      at n (inl same) = subst (λ k. HoldsObject y (slice_get y.heap.objects k) (new (2 * k))) (sym same)
          (subst (λ q. HoldsObject y q (new (2 * number))) (sym written.at)
          (record {
            kinds = kinds;
            kinds_are = subst (λ classes. slice_get classes o.class ≡ Some kinds) (sym grows.classes) known;
            values = values;
            words = words;
            cell_is = at_entry cells (2 * number) (Fields o.class values);
          }))
      at n (inr off) = subst (λ cell. HoldsObject y (slice_get y.heap.objects n) cell)
          (sym (off_entry cells (2 * number) (Fields o.class values) (2 * n) (λ e. off (omega (arith, e)))))
          (same_object (slice_get x.heap.objects n) (slice_get y.heap.objects n) (cells (2 * n)) (written.others n off) (h.objects n))

  -- one rail was made or written
  pub holds_rail : (cells : Cells) (number : ℕ) (bytes : List ℕ) → HoldsHeap x cells → IsWritten x.heap.rails number bytes y.heap.rails
      → y.heap.objects ≡ x.heap.objects → length y.heap.rails ≤ 2 ^ 32 → length y.heap.texts ≤ 2 ^ 32
      → HoldsHeap y (with_entry cells (2 * number + 1) (Some (Bytes bytes)))
  holds_rail cells number bytes h written objects few texts = record {
    objects = λ n. subst (λ cell. HoldsObject y (slice_get y.heap.objects n) cell)
        (sym (off_entry cells (2 * number + 1) (Bytes bytes) (2 * n) (λ e. omega (arith, e))))
        (same_object (slice_get x.heap.objects n) (slice_get y.heap.objects n) (cells (2 * n)) (ap (λ xs. slice_get xs n) objects) (h.objects n));
    rails = λ n. at n (cases_eq n number);
    few_objects = subst (λ xs. length xs ≤ 2 ^ 32) (sym objects) h.few_objects;
    few_texts = texts;
    few_rails = few;
  }
    where
      new : Cells
      new = with_entry cells (2 * number + 1) (Some (Bytes bytes))

      at : (n : ℕ) → (n ≡ number) ⊎ (n ≡ number → ⊥) → new (2 * n + 1) ≡ rail_cell (slice_get y.heap.rails n)
      at n (inl same) = subst (λ k. new (2 * k + 1) ≡ rail_cell (slice_get y.heap.rails k)) (sym same)
          (at_entry cells (2 * number + 1) (Bytes bytes) ∙ ap rail_cell (sym written.at))
      at n (inr off) = off_entry cells (2 * number + 1) (Bytes bytes) (2 * n + 1) (λ e. off (omega (arith, e))) ∙ h.rails n
          ∙ ap rail_cell (sym (written.others n off))
