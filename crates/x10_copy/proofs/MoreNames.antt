-- More names leave what is known of the items.
use Rattle.std.proofs.Common.{◌≡◌, ℕ, zero, suc, ◌-◌, ◌<◌, ◌^◌, List, [], ◌∷◌, ◌++◌, length, get_or, refl, sym, ap, subst, ◌∙◌, arith, length-append}
use Rattle.std.specs.Int.{w64, cast_signed}
use Rattle.std.specs.Prelude.{FitsSigned}
use Rattle.std.proofs.Math.Facts.{Fits-of_lt, sfits_to_z}
use Rattle.x10_kinds.specs.declared.kind.Kind.{Kind}
use Rattle.x10_kinds.specs.declared.kind.Kind.TheVariants as kind
use Rattle.x10_heap.specs.Heaps.{HeapState}
use Rattle.x10_model.specs.Frames.{Item, IntItem, PlaceItem, TextItem, RailItem, ObjectItem, NullItem, RefItem, Node, Tables, tables, uses, Turn, next_turn, used_after, FitsItem, FitsItems, FitsNode}
use Rattle.x10_model.specs.Readers.{FitsEach, after_all}
use Rattle.x10_copy.specs.Names.{Names, number, with_new, tables_in, item_of, items_of, noted, noted_all, IsFound, AreFound, IsSound, AreSound}
use Rattle.x10_copy.specs.Graphs.{kinds_at, object_at, nodes_of}
use Rattle.x10_copy.specs.Walks.{AllFound}
use Rattle.x10_copy.proofs.Position.{added, number_append}
use Rattle.x10_copy.proofs.NotedWords.{Extends, all_extend}

-- ---- one word

number_same : (xs ys more : List ℕ) (x : ℕ) → ys ≡ xs ++ more → number xs x < length xs → number ys x ≡ number xs x
number_same xs ys more x e lt = rw e (number_append xs more x lt)

still_below : (xs ys more : List ℕ) (x : ℕ) → ys ≡ xs ++ more → number xs x < length xs → number ys x < length ys
still_below xs ys more x e lt = omega (arith, number_same xs ys more x e lt, ap length e, length-append xs more, lt)

pub found_grows : (n m : Names) (k : Kind) (w : ℕ) → Extends n m → IsFound n k w → IsFound m k w
found_grows n m kind.Int w e f = tt
found_grows n m kind.Place w e f = tt
found_grows n m kind.Text w e f = still_below n.texts m.texts e.texts w e.texts_are f
found_grows n m kind.Rail w e f = still_below n.rails m.rails e.rails w e.rails_are f
found_grows n m (kind.Obj c) w e f = still_below n.objects m.objects e.objects (w - 1) e.objects_are f
found_grows n m (kind.Opt c) zero e f = tt
found_grows n m (kind.Opt c) (suc w) e f = still_below n.objects m.objects e.objects w e.objects_are f
found_grows n m (kind.GRef c) w e f = tt

pub item_grows : (n m : Names) (k : Kind) (w : ℕ) → Extends n m → IsFound n k w → item_of m k w ≡ item_of n k w
item_grows n m kind.Int w e f = refl
item_grows n m kind.Place w e f = refl
item_grows n m kind.Text w e f = ap TextItem (number_same n.texts m.texts e.texts w e.texts_are f)
item_grows n m kind.Rail w e f = ap RailItem (number_same n.rails m.rails e.rails w e.rails_are f)
item_grows n m (kind.Obj c) w e f = ap ObjectItem (number_same n.objects m.objects e.objects (w - 1) e.objects_are f)
item_grows n m (kind.Opt c) zero e f = refl
item_grows n m (kind.Opt c) (suc w) e f = ap ObjectItem (number_same n.objects m.objects e.objects w e.objects_are f)
item_grows n m (kind.GRef c) w e f = refl

longer : (xs ys more : List ℕ) (i : ℕ) → ys ≡ xs ++ more → i < length xs → i < length ys
longer xs ys more i e lt = omega (arith, ap length e, length-append xs more, lt)

pub fits_grows : (places : ℕ) (n m : Names) (used : Tables) (i : Item) → Extends n m → FitsItem places (tables_in n) used i
    → FitsItem places (tables_in m) used i
fits_grows places n m used (IntItem z) e h = h
fits_grows places n m used (PlaceItem p) e h = h
fits_grows places n m used (TextItem i) e h = record { order = h.order; below = longer n.texts m.texts e.texts i e.texts_are h.below }
fits_grows places n m used (RailItem i) e h = record { order = h.order; below = longer n.rails m.rails e.rails i e.rails_are h.below }
fits_grows places n m used (ObjectItem i) e h = record { order = h.order; below = longer n.objects m.objects e.objects i e.objects_are h.below }
fits_grows places n m used NullItem e h = h
fits_grows places n m used (RefItem home id class) e h = h

-- ---- words one after another

pub all_found_grows : (n m : Names) (ks : List Kind) (ws : List ℕ) → Extends n m → AreFound n ks ws → AreFound m ks ws
all_found_grows n m [] [] e f = tt
all_found_grows n m [] (w ∷ ws) e f = tt
all_found_grows n m (k ∷ ks) [] e f = tt
all_found_grows n m (k ∷ ks) (w ∷ ws) e f = (found_grows n m k w e f.0, all_found_grows n m ks ws e f.1)

pub items_grow : (n m : Names) (ks : List Kind) (ws : List ℕ) → Extends n m → AreFound n ks ws → items_of m ks ws ≡ items_of n ks ws
items_grow n m [] [] e f = refl
items_grow n m [] (w ∷ ws) e f = refl
items_grow n m (k ∷ ks) [] e f = refl
items_grow n m (k ∷ ks) (w ∷ ws) e f = rw (item_grows n m k w e f.0, items_grow n m ks ws e f.1) refl

pub all_fit_grows : (places : ℕ) (n m : Names) (used : Tables) (is : List Item) → Extends n m → FitsItems places (tables_in n) used is
    → FitsItems places (tables_in m) used is
all_fit_grows places n m used [] e h = tt
all_fit_grows places n m used (i ∷ is) e h = (fits_grows places n m used i e h.0, all_fit_grows places n m (uses used i) is e h.1)

-- what is known once a word was met
pub record Noted (places : ℕ) (n : Names) (k : Kind) (w : ℕ) (m : Names) : Type 0 where
  pub found : IsFound m k w
  pub fits : FitsItem places (tables_in m) (tables_in n) (item_of m k w)
  pub used : uses (tables_in n) (item_of m k w) ≡ tables_in m

noted_text : (places : ℕ) (n : Names) (w : ℕ) → Noted places n kind.Text w (record n { texts = with_new n.texts w })
noted_text places n w = let a = added n.texts w in record {
  found = a.below;
  fits = record { order = a.order; below = a.below };
  used = ap (λ (t : ℕ). tables t (length n.rails) (length n.objects)) a.used;
}

noted_rail : (places : ℕ) (n : Names) (w : ℕ) → Noted places n kind.Rail w (record n { rails = with_new n.rails w })
noted_rail places n w = let a = added n.rails w in record {
  found = a.below;
  fits = record { order = a.order; below = a.below };
  used = ap (λ (t : ℕ). tables (length n.texts) t (length n.objects)) a.used;
}

-- of an object's number
record NotedObject (places : ℕ) (n : Names) (p : ℕ) (m : Names) : Type 0 where
  found : number m.objects p < length m.objects
  fits : FitsItem places (tables_in m) (tables_in n) (ObjectItem (number m.objects p))
  used : uses (tables_in n) (ObjectItem (number m.objects p)) ≡ tables_in m

object_noted : (places : ℕ) (n : Names) (p : ℕ) → NotedObject places n p (record n { objects = with_new n.objects p })
object_noted places n p = let a = added n.objects p in record
    { found = a.below; fits = record { order = a.order; below = a.below }; used = ap (λ (t : ℕ). tables (length n.texts) (length n.rails) t) a.used }

signed_fits : (w : ℕ) → w < 2 ^ 64 → FitsSigned w64 (cast_signed w64 w)
signed_fits w lt = sfits_to_z {w = w64} {n = w} (Fits-of_lt {w = w64} lt)

pub noted_is : (places : ℕ) (heap : HeapState) (n : Names) (k : Kind) (w : ℕ) → IsSound places heap k w → w < 2 ^ 64
    → Noted places n k w (noted n k w)
noted_is places heap n kind.Int w s lt = record { found = tt; fits = signed_fits w lt; used = refl }
noted_is places heap n kind.Place w s lt = record { found = tt; fits = s; used = refl }
noted_is places heap n kind.Text w s lt = noted_text places n w
noted_is places heap n kind.Rail w s lt = noted_rail places n w
noted_is places heap n (kind.Obj c) w s lt = let o = object_noted places n (w - 1) in record { found = o.found; fits = o.fits; used = o.used }
noted_is places heap n (kind.Opt c) zero s lt = record { found = tt; fits = tt; used = refl }
noted_is places heap n (kind.Opt c) (suc w) s lt = let o = object_noted places n w in record { found = o.found; fits = o.fits; used = o.used }
noted_is places heap n (kind.GRef c) w s lt = record { found = tt; fits = (s.0, s.1, s.2); used = refl }

-- what is known once words were met
pub record AllNoted (places : ℕ) (n : Names) (ks : List Kind) (ws : List ℕ) (m : Names) : Type 0 where
  pub found : AreFound m ks ws
  pub fits : FitsItems places (tables_in m) (tables_in n) (items_of m ks ws)
  pub used : used_after (tables_in n) (items_of m ks ws) ≡ tables_in m

pub all_noted : (places : ℕ) (heap : HeapState) (n : Names) (ks : List Kind) (ws : List ℕ) → AreSound places heap ks ws
    → ((j : ℕ) → get_or ws j 0 < 2 ^ 64)
    → AllNoted places n ks ws (noted_all n ks ws)
all_noted places heap n [] [] s small = record { found = tt; fits = tt; used = refl }
all_noted places heap n [] (w ∷ ws) s small = absurd s
all_noted places heap n (k ∷ ks) [] s small = absurd s
all_noted places heap n (k ∷ ks) (w ∷ ws) s small =
    let one = noted_is places heap n k w s.0 (small 0) in
    let rest = all_noted places heap (noted n k w) ks ws s.1 (λ j. small (suc j)) in
    let e = all_extend (noted n k w) ks ws in
    let m = noted_all (noted n k w) ks ws in
    let same = item_grows (noted n k w) m k w e one.found in
    record {
      found = (found_grows (noted n k w) m k w e one.found, rest.found);
      fits = rw same (
        fits_grows places (noted n k w) m (tables_in n) (item_of (noted n k w) k w) e one.fits,
        subst (λ (t : Tables). FitsItems places (tables_in m) t (items_of m ks ws)) (sym one.used) rest.fits,
      );
      used = rw same (ap (λ (t : Tables). used_after t (items_of m ks ws)) one.used ∙ rest.used);
    }

-- ---- nodes

pub nodes_found_grow : (classes : List (List Kind)) (heap : HeapState) (n m : Names) (ps : List ℕ) → Extends n m → AllFound classes heap n ps
    → AllFound classes heap m ps
nodes_found_grow classes heap n m [] e f = tt
nodes_found_grow classes heap n m (p ∷ ps) e
    f = (all_found_grows n m (kinds_at classes (object_at heap p).class) (object_at heap p).fields e f.0, nodes_found_grow classes heap n m ps e f.1)

pub nodes_grow : (classes : List (List Kind)) (heap : HeapState) (n m : Names) (ps : List ℕ) → Extends n m → AllFound classes heap n ps
    → nodes_of classes heap m ps ≡ nodes_of classes heap n ps
nodes_grow classes heap n m [] e f = refl
nodes_grow classes heap n m (p ∷ ps) e f =
    rw (items_grow n m (kinds_at classes (object_at heap p).class) (object_at heap p).fields e f.0, nodes_grow classes heap n m ps e f.1) refl

pub each_fits_grows : (places : ℕ) (n m : Names) (t : Turn) (xs : List Node) → Extends n m → FitsEach (FitsNode places (tables_in n)) next_turn t xs
    → FitsEach (FitsNode places (tables_in m)) next_turn t xs
each_fits_grows places n m t [] e h = tt
each_fits_grows places n m t (x ∷ xs) e h = (
  record { class = h.0.class; used = h.0.used; count = h.0.count; fields = all_fit_grows places n m t.used x.fields e h.0.fields },
  each_fits_grows places
      n m (next_turn t x) xs e h.1,
)

pub each_push : {S A : Type 0} (Fits : S → A → Type 0) (after : S → A → S) (s : S) (xs : List A) (x : A) → FitsEach Fits after s xs
    → Fits (after_all after s xs) x → FitsEach Fits after s (xs ++ x ∷ [])
each_push Fits after s [] x h f = (f, tt)
each_push Fits after s (y ∷ xs) x h f = (h.0, each_push Fits after (after s y) xs x h.1 f)

pub after_push : {S A : Type 0} (after : S → A → S) (s : S) (xs : List A) (x : A) → after_all after s (xs ++ x ∷ []) ≡ after (after_all after s xs) x
after_push after s [] x = refl
after_push after s (y ∷ xs) x = after_push after (after s y) xs x

pub found_push : (classes : List (List Kind)) (heap : HeapState) (n : Names) (ps : List ℕ) (p : ℕ) → AllFound classes heap n ps
    → AreFound n (kinds_at classes (object_at heap p).class) (object_at heap p).fields → AllFound classes heap n (ps ++ p ∷ [])
found_push classes heap n [] p f h = (h, tt)
found_push classes heap n (q ∷ ps) p f h = (f.0, found_push classes heap n ps p f.1 h)
