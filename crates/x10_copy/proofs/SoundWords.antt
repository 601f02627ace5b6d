-- The tests of a heap's words say what they are for.
use Rattle.std.proofs.Common.{◌≡◌, ◌⊎◌, ℕ, zero, suc, ◌/◌, ◌%◌, ◌<◌, ◌^◌, ◌&&◌, ◌||◌, Bool, true, false, List, [], ◌∷◌, length, get_or, Option, Some, None, slice_get, refl, ap, ◌∙◌, inl, inr, arith, lt-ltb, eq-eqb, eqb, ltb}
use Rattle.std.specs.Prelude.{IsTrue}
use Rattle.std.specs.List.{AllByRecursion}
use Rattle.std.proofs.lemmas.Bool.{ltb-true, eqb-true}
use Rattle.std.proofs.lemmas.Option.{slice_get-get_or, slice_get_within, get_or_from_slice_get}
use Rattle.x10_kinds.specs.declared.kind.Kind.{Kind}
use Rattle.x10_kinds.specs.declared.kind.Kind.TheVariants as kind
use Rattle.x10_heap.specs.Heaps.{HeapState, ObjectState, IsWithinLimits}
use Rattle.x10_model.specs.Modules.{FitsClass}
use Rattle.x10_copy.specs.Names.{IsObject, IsSound, AreSound}
use Rattle.x10_copy.specs.Graphs.{kinds_at, no_object, object_at, IsSoundHeap}
use Rattle.x10_copy.specs.Fitting.{each_passes}
use Rattle.x10_copy.specs.Soundness.{of_class, object_word, word_sound, words_sound, fields_sound, object_sound, heap_sound}

abbrev pub IsFew : HeapState → Type 0
IsFew heap = IsWithinLimits heap.objects heap.rails heap.texts heap.exports

class_to : (o : Option ObjectState) (c : ℕ) → IsTrue (of_class o c) → (object : ObjectState) × (o ≡ Some object) × (object.class ≡ c)
class_to None c h = absurd cc
class_to (Some object) c h = (object, refl, eqb-true object.class c h)

class_from : (o : Option ObjectState) (c : ℕ) (object : ObjectState) → o ≡ Some object → object.class ≡ c → IsTrue (of_class o c)
class_from None c object e f = absurd cc
class_from (Some other) c object e f =
    let same : other ≡ object = cc in
    eq-eqb other.class c (ap (λ (x : ObjectState). x.class) same ∙ f)

object_to : (heap : HeapState) (c w : ℕ) → IsFew heap → IsTrue (object_word heap c w) → IsObject heap c w
object_to heap c zero few h = absurd cc
object_to heap c (suc n) few h =
    let o = class_to (slice_get heap.objects n) c h in
    record {
      number = n;
      word_is = omega arith;
      small = omega (arith, slice_get_within heap.objects n o.0 o.1, few.objects_few);
      object = o.0;
      is_there = o.1;
      class_is = o.2;
    }

object_from : (heap : HeapState) (c w : ℕ) → IsObject heap c w → IsTrue (object_word heap c w)
object_from heap c zero o = absurd (omega (arith, o.word_is))
object_from heap c (suc n) o =
    let e : n ≡ o.number = omega (arith, o.word_is) in
    rw e (class_from (slice_get heap.objects o.number) c o.object o.is_there o.class_is)

and_both : (a b : Bool) → IsTrue (a && b) → IsTrue a × IsTrue b
and_both true b h = (refl, h)
and_both false b h = absurd cc

both_and : (a b : Bool) → IsTrue a → IsTrue b → IsTrue (a && b)
both_and a b g h = rw (g, h) refl

or_either : (a b : Bool) → IsTrue (a || b) → IsTrue a ⊎ IsTrue b
or_either true b h = inl refl
or_either false b h = inr h

either_or : (a b : Bool) → IsTrue a ⊎ IsTrue b → IsTrue (a || b)
either_or true b h = refl
either_or false b (inl h) = absurd cc
either_or false b (inr h) = h

word_to : (places : ℕ) (heap : HeapState) (k : Kind) (w : ℕ) → IsFew heap → IsTrue (word_sound places heap k w) → IsSound places heap k w
word_to places heap kind.Int w few h = tt
word_to places heap kind.Place w few h = ltb-true w places h
word_to places heap kind.Text w few h = let lt = ltb-true w (length heap.texts) h in record { below = lt; small = omega (arith, lt, few.texts_few) }
word_to places heap kind.Rail w few h = let lt = ltb-true w (length heap.rails) h in record { below = lt; small = omega (arith, lt, few.rails_few) }
word_to places heap (kind.Obj class) w few h = object_to heap class w few h
word_to places heap (kind.Opt class) w few h = elim (or_either (eqb w 0) (object_word heap class w) h)
    [ inl e ↦ inl (eqb-true w 0 e) | inr o ↦ inr (object_to heap class w few o) ]
word_to places heap (kind.GRef class) w few h =
    let b = and_both (ltb (w % 65536) places) (ltb (w / 65536) (2 ^ 32) && ltb class (2 ^ 16)) h in
    let d = and_both (ltb (w / 65536) (2 ^ 32)) (ltb class (2 ^ 16)) b.1 in
    (ltb-true (w % 65536) places b.0, ltb-true (w / 65536) (2 ^ 32) d.0, ltb-true class (2 ^ 16) d.1)

word_from : (places : ℕ) (heap : HeapState) (k : Kind) (w : ℕ) → IsSound places heap k w → IsTrue (word_sound places heap k w)
word_from places heap kind.Int w h = refl
word_from places heap kind.Place w h = lt-ltb w places h
word_from places heap kind.Text w h = lt-ltb w (length heap.texts) h.below
word_from places heap kind.Rail w h = lt-ltb w (length heap.rails) h.below
word_from places heap (kind.Obj class) w h = object_from heap class w h
word_from places heap (kind.Opt class) w (inl h) = either_or (eqb w 0) (object_word heap class w) (inl (eq-eqb w 0 h))
word_from places heap (kind.Opt class) w (inr h) = either_or (eqb w 0) (object_word heap class w) (inr (object_from heap class w h))
word_from places heap (kind.GRef class) w h = both_and (ltb (w % 65536) places) (ltb (w / 65536) (2 ^ 32) && ltb class (2 ^ 16))
    (lt-ltb (w % 65536) places h.0) (both_and (ltb (w / 65536) (2 ^ 32)) (ltb class (2 ^ 16)) (lt-ltb (w / 65536) (2 ^ 32) h.1)
    (lt-ltb class (2 ^ 16) h.2))

pub words_to : (places : ℕ) (heap : HeapState) (ks : List Kind) (ws : List ℕ) → IsFew heap → IsTrue (words_sound places heap ks ws)
    → AreSound places heap ks ws
words_to places heap [] [] few h = tt
words_to places heap [] (w ∷ ws) few h = absurd cc
words_to places heap (k ∷ ks) [] few h = absurd cc
words_to places heap (k ∷ ks) (w ∷ ws) few h =
    let b = and_both (word_sound places heap k w) (words_sound places heap ks ws) h in
    (word_to places heap k w few b.0, words_to places heap ks ws few b.1)

pub words_from : (places : ℕ) (heap : HeapState) (ks : List Kind) (ws : List ℕ) → AreSound places heap ks ws → IsTrue (words_sound places heap ks ws)
words_from places heap [] [] h = refl
words_from places heap [] (w ∷ ws) h = absurd h
words_from places heap (k ∷ ks) [] h = absurd h
words_from places heap (k ∷ ks) (w ∷ ws) h = both_and _ _ (word_from places heap k w h.0) (words_from places heap ks ws h.1)

-- ---- objects

each_at : {X : Type 0} (f : X → Bool) (xs : List X) (i : ℕ) (d : X) → IsTrue (each_passes f xs) → i < length xs → IsTrue (f (get_or xs i d))
each_at f [] i d h lt = absurd (omega (arith, lt))
each_at f (x ∷ xs) zero d h lt = (and_both (f x) (each_passes f xs) h).0
each_at f (x ∷ xs) (suc i) d h lt = each_at f xs i d (and_both (f x) (each_passes f xs) h).1 (omega (arith, lt))

at_each : {X : Type 0} (f : X → Bool) (xs : List X) (d : X) → ((i : ℕ) → i < length xs → IsTrue (f (get_or xs i d))) → IsTrue (each_passes f xs)
at_each f [] d h = refl
at_each f (x ∷ xs) d h = both_and (f x) (each_passes f xs) (h 0 (omega arith)) (at_each f xs d (λ i lt. h (suc i) (omega (arith, lt))))

fields_to : (places : ℕ) (heap : HeapState) (o : Option (List Kind)) (ws : List ℕ) → IsTrue (fields_sound places heap o ws)
    → (kinds : List Kind) × (o ≡ Some kinds) × IsTrue (words_sound places heap kinds ws)
fields_to places heap None ws h = absurd cc
fields_to places heap (Some kinds) ws h = (kinds, refl, h)

class_of : (m : ℕ) (classes : List (List Kind)) (c : ℕ) (ks : List Kind) → AllByRecursion (FitsClass m) classes → slice_get classes c ≡ Some ks
    → FitsClass m ks
class_of m [] c ks h e = absurd cc
class_of m (k ∷ classes) zero ks h e =
    let same : k ≡ ks = cc in
    rw (← same) h.0
class_of m (k ∷ classes) (suc c) ks h e = class_of m classes c ks h.1 e

pub heap_to : (classes : List (List Kind)) (places : ℕ) (heap : HeapState) → IsFew heap → length classes < 2 ^ 16
    → AllByRecursion (FitsClass (length classes)) classes → IsTrue (heap_sound classes places heap) → IsSoundHeap classes places heap
heap_to classes places heap few lt fits h p there =
    let o = object_at heap p in
    let f = fields_to places heap (slice_get classes o.class) o.fields
    (each_at (object_sound classes places heap) heap.objects p no_object h there) in
    let below = slice_get_within classes o.class f.0 f.1 in
    let e : kinds_at classes o.class ≡ f.0 = get_or_from_slice_get classes o.class f.0 [] f.1 in
    let fit = class_of (length classes) classes o.class f.0 fits f.1 in
    record { class = below; small = omega (arith, below, lt); count = rw e fit.count; words = rw e (words_to places heap f.0 o.fields few f.2) }

pub heap_from : (classes : List (List Kind)) (places : ℕ) (heap : HeapState) → IsSoundHeap classes places heap
    → IsTrue (heap_sound classes places heap)
heap_from classes places heap h =
    at_each (object_sound classes places heap) heap.objects no_object (λ p lt.
    let s = h p lt in
    rw (slice_get-get_or classes (object_at heap p).class [] s.class)
    (words_from places heap (kinds_at classes (object_at heap p).class) (object_at heap p).fields s.words))
