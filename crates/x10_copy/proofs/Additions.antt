-- Parts added to a heap one after another.
use Rattle.std.proofs.Common.{◌≡◌, ℕ, zero, suc, ◌+◌, ◌<◌, ◌≤◌, List, [], ◌∷◌, ◌++◌, length, set, take, drop, map, Some, slice_get, refl, sym, ap, subst, ◌∙◌, inl, inr, arith, append_assoc, append-nil, add-one, length-append}
use Rattle.std.proofs.lemmas.List.{drop_all, map_push, take_more_set}
use Rattle.x10_kinds.specs.declared.limit.Limit.{Limit}
use Rattle.x10_kinds.specs.declared.stop.Stop.{Stop}
use Rattle.x10_heap.specs.Heaps.{HeapState, ObjectState, with_text, with_rail, Refuses}
use Rattle.x10_copy.specs.Arrived.{with_texts, with_rails, with_objects, IsLonger, Stops}

step : {X : Type 0} (xs : List X) (i : ℕ) (x : X) → slice_get xs i ≡ Some x → drop i xs ≡ x ∷ drop (suc i) xs
step [] i x e = absurd cc
step (a ∷ xs) zero x e =
    let ea : a ≡ x = cc in
    ap (λ (y : _). y ∷ xs) ea
step (a ∷ xs) (suc i) x e = step xs i x e

pub drop_step : {X : Type 0} (xs : List X) (i : ℕ) (x : X) → slice_get xs i ≡ Some x → drop i xs ≡ x ∷ drop (i + 1) xs
drop_step xs i x e = subst (λ (m : ℕ). drop i xs ≡ x ∷ drop m xs) (sym (add-one i)) (step xs i x e)

one_more : {X : Type 0} (ys xs : List X) (i : ℕ) (x : X) → slice_get xs i ≡ Some x → ys ++ drop i xs ≡ (ys ++ x ∷ []) ++ drop (i + 1) xs
one_more ys xs i x e = ap (λ (l : List _). ys ++ l) (drop_step xs i x e) ∙ sym (append_assoc ys (x ∷ []) (drop (i + 1) xs))

none_more : {X : Type 0} (ys xs : List X) (i : ℕ) → length xs ≤ i → ys ++ drop i xs ≡ ys
none_more ys xs i le = ap (λ (l : List _). ys ++ l) (drop_all i xs le) ∙ append-nil ys

-- ---- a heap that is longer

pub longer_same : (h : HeapState) → IsLonger h h
longer_same h = record {
  objects = [];
  rails = [];
  texts = [];
  objects_are = sym (append-nil h.objects);
  rails_are = sym (append-nil h.rails);
  texts_are = sym
      (append-nil h.texts);
  exports_are = refl;
}

more : {X : Type 0} (xs ys a b : List X) → ys ≡ xs ++ a → ys ++ b ≡ xs ++ (a ++ b)
more xs ys a b e = ap (λ (l : List _). l ++ b) e ∙ append_assoc xs a b

pub longer_texts : (h k : HeapState) (texts : List (List ℕ)) → IsLonger h k → IsLonger h (with_texts k texts)
longer_texts h k texts l = record {
  objects = l.objects;
  rails = l.rails;
  texts = l.texts ++ texts;
  objects_are = l.objects_are;
  rails_are = l.rails_are;
  texts_are = more h.texts k.texts l.texts texts l.texts_are;
  exports_are = l.exports_are;
}

pub longer_rails : (h k : HeapState) (rails : List (List ℕ)) → IsLonger h k → IsLonger h (with_rails k rails)
longer_rails h k rails l = record {
  objects = l.objects;
  rails = l.rails ++ rails;
  texts = l.texts;
  objects_are = l.objects_are;
  rails_are = more h.rails
      k.rails l.rails rails l.rails_are;
  texts_are = l.texts_are;
  exports_are = l.exports_are;
}

pub longer_objects : (h k : HeapState) (objects : List ObjectState) → IsLonger h k → IsLonger h (with_objects k objects)
longer_objects h k objects l = record {
  objects = l.objects ++ objects;
  rails = l.rails;
  texts = l.texts;
  objects_are = more h.objects k.objects l.objects
      objects l.objects_are;
  rails_are = l.rails_are;
  texts_are = l.texts_are;
  exports_are = l.exports_are;
}

pub longer_on : (h k m : HeapState) → IsLonger h k → IsLonger k m → IsLonger h m
longer_on h k m a b = record {
  objects = a.objects ++ b.objects;
  rails = a.rails ++ b.rails;
  texts = a.texts ++ b.texts;
  objects_are = b.objects_are ∙ more h.objects k.objects a.objects b.objects a.objects_are;
  rails_are = b.rails_are ∙ more h.rails k.rails a.rails b.rails a.rails_are;
  texts_are = b.texts_are ∙ more h.texts k.texts a.texts b.texts a.texts_are;
  exports_are = b.exports_are ∙ a.exports_are;
}

-- ---- loops

-- so many were added, and these are left
pub record TextsLeft (h k : HeapState) (texts : List (List ℕ)) (i : ℕ) : Type 0 where
  pub left : with_texts h texts ≡ with_texts k (drop i texts)
  pub longer : IsLonger h k
  pub count : length k.texts ≡ length h.texts + i

pub record RailsLeft (h k : HeapState) (rails : List (List ℕ)) (i : ℕ) : Type 0 where
  pub left : with_rails h rails ≡ with_rails k (drop i rails)
  pub longer : IsLonger h k
  pub count : length k.rails ≡ length h.rails + i

pub record ObjectsLeft (h k : HeapState) (objects : List ObjectState) (i : ℕ) : Type 0 where
  pub left : with_objects h objects ≡ with_objects k (drop i objects)
  pub longer : IsLonger h k
  pub count : length k.objects ≡ length h.objects + i

pub texts_start : (h : HeapState) (texts : List (List ℕ)) → TextsLeft h h texts 0
texts_start h texts = record { left = refl; longer = longer_same h; count = omega arith }

pub rails_start : (h : HeapState) (rails : List (List ℕ)) → RailsLeft h h rails 0
rails_start h rails = record { left = refl; longer = longer_same h; count = omega arith }

pub objects_start : (h : HeapState) (objects : List ObjectState) → ObjectsLeft h h objects 0
objects_start h objects = record { left = refl; longer = longer_same h; count = omega arith }

pub texts_next : (h k new : HeapState) (texts : List (List ℕ)) (i : ℕ) (t : List ℕ) → TextsLeft h k texts i → slice_get texts i ≡ Some t
    → new ≡ with_text k t
    → TextsLeft h new texts (i + 1)
texts_next h k new texts i t l e is = rw is (record {
  left = l.left ∙ ap (λ (ts : List (List ℕ)). record k { texts = ts }) (one_more k.texts texts i t e);
  longer = longer_texts h k (t ∷ []) l.longer;
  count = omega (arith, length-append k.texts (t ∷ []), l.count);
})

pub rails_next : (h k new : HeapState) (rails : List (List ℕ)) (i : ℕ) (r : List ℕ) → RailsLeft h k rails i → slice_get rails i ≡ Some r
    → new ≡ with_rail k r
    → RailsLeft h new rails (i + 1)
rails_next h k new rails i r l e is = rw is (record {
  left = l.left ∙ ap (λ (rs : List (List ℕ)). record k { rails = rs }) (one_more k.rails rails i r e);
  longer = longer_rails h k (r ∷ []) l.longer;
  count = omega (arith, length-append k.rails (r ∷ []), l.count);
})

pub objects_next : (h k new : HeapState) (objects : List ObjectState) (i : ℕ) (o : ObjectState) → ObjectsLeft h k objects i
    → slice_get objects i ≡ Some o
    → new ≡ with_objects k (o ∷ []) → ObjectsLeft h new objects (i + 1)
objects_next h k new objects i o l e is = rw is (record {
  left = l.left ∙ ap (λ (os : List ObjectState). record k { objects = os }) (one_more k.objects objects i o e);
  longer = longer_objects h k (o ∷ []) l.longer;
  count = omega (arith, length-append k.objects (o ∷ []), l.count);
})

pub texts_end : (h k : HeapState) (texts : List (List ℕ)) (i : ℕ) → TextsLeft h k texts i → length texts ≤ i → k ≡ with_texts h texts
texts_end h k texts i l le = sym (l.left ∙ ap (λ (ts : List (List ℕ)). record k { texts = ts }) (none_more k.texts texts i le))

pub rails_end : (h k : HeapState) (rails : List (List ℕ)) (i : ℕ) → RailsLeft h k rails i → length rails ≤ i → k ≡ with_rails h rails
rails_end h k rails i l le = sym (l.left ∙ ap (λ (rs : List (List ℕ)). record k { rails = rs }) (none_more k.rails rails i le))

pub objects_end : (h k : HeapState) (objects : List ObjectState) (i : ℕ) → ObjectsLeft h k objects i → length objects ≤ i → k ≡ with_objects h objects
objects_end h k objects i l le = sym (l.left ∙ ap (λ (os : List ObjectState). record k { objects = os }) (none_more k.objects objects i le))

-- there was no room for one, and so none for all
pub stops : (limit : Limit) (start count all i : ℕ) (why : Stop) → count ≡ start + i → i < all → Refuses count limit why → Stops limit start all why
stops limit start count all i why e lt (inl h) = inl h
stops limit start count all i why e lt (inr h) = inr (h.0, omega (arith, h.1, e, lt))

pub stops_at : (limit : Limit) (start count all i : ℕ) (why : Stop) → count ≡ start + i → i < all → Stops limit count 1 why
    → Stops limit start all why
stops_at limit start count all i why e lt (inl h) = inl h
stops_at limit start count all i why e lt (inr h) = inr (h.0, omega (arith, h.1, e, lt))

-- ---- words

taken : {X : Type 0} (xs : List X) (i : ℕ) (x : X) → slice_get xs i ≡ Some x → take (suc i) xs ≡ take i xs ++ x ∷ []
taken [] i x e = absurd cc
taken (a ∷ xs) zero x e =
    let ea : a ≡ x = cc in
    ap (λ (y : _). y ∷ []) ea
taken (a ∷ xs) (suc i) x e = ap (λ (l : List _). a ∷ l) (taken xs i x e)

take_step : {X : Type 0} (xs : List X) (i : ℕ) (x : X) → slice_get xs i ≡ Some x → take (i + 1) xs ≡ take i xs ++ x ∷ []
take_step xs i x e = subst (λ (m : ℕ). take m xs ≡ take i xs ++ x ∷ []) (sym (add-one i)) (taken xs i x e)

pub mapped_next : {X Y : Type 0} (f : X → Y) (xs : List X) (i : ℕ) (x : X) (y : Y) (now new : List Y) → now ≡ map f (take i xs)
    → slice_get xs i ≡ Some x
    → y ≡ f x → new ≡ now ++ y ∷ [] → new ≡ map f (take (i + 1) xs)
mapped_next f xs i x y now new h e is ne =
    ne ∙ ap (λ (l : List _). l ++ y ∷ []) h ∙ ap (λ (z : _). map f (take i xs) ++ z ∷ []) is ∙ sym (map_push f (take i xs) x)
    ∙ ap (λ (l : List _). map f l)
    (sym (take_step xs i x e))

-- the same in a list that is written
pub written_next : {X Y : Type 0} (f : X → Y) (xs : List X) (i : ℕ) (x : X) (y : Y) (ys : List Y) → take i ys ≡ map f (take i xs)
    → slice_get xs i ≡ Some x
    → y ≡ f x → i < length ys → take (i + 1) (set ys i y) ≡ map f (take (i + 1) xs)
written_next f xs i x y ys h e is lt = mapped_next f xs i x y (take i ys) (take (i + 1) (set ys i y)) h e is (take_more_set ys i y lt)
