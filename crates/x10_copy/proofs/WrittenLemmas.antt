-- What was written, and what is still to be written.
use Rattle.std.proofs.Common.{◌≡◌, ℕ, zero, suc, ◌+◌, ◌<◌, ◌≤◌, List, [], ◌∷◌, ◌++◌, length, get_or, drop, map, Some, slice_get, refl, sym, ap, subst, ◌∙◌, arith, append_assoc, append-nil, add-one, flat_map}
use Rattle.std.specs.List.{AllByRecursion}
use Rattle.std.specs.Int.{w16, to_be_bytes}
use Rattle.std.proofs.lemmas.List.{drop_more, drop_all}
use Rattle.x10_kinds.specs.declared.kind.Kind.{Kind}
use Rattle.x10_heap.specs.Heaps.{HeapState}
use Rattle.x10_model.specs.declared.version.FrameVersion.TheVariants.{Wide}
use Rattle.x10_model.specs.Frames.{Item, item_bytes, node_bytes}
use Rattle.x10_copy.specs.Names.{Names, item_of, items_of, IsFound, AreFound, AreWords}
use Rattle.x10_copy.specs.Graphs.{kinds_at, object_at, node_of}
use Rattle.x10_copy.specs.Walks.{AllFound}

-- ---- one more

-- all that is to be written: what was, and the rest
abbrev pub IsLeft : {X : Type 0} → (X → List ℕ) → List ℕ → List X → List ℕ → List X → Type 0
IsLeft f start all now rest = start ++ flat_map f all ≡ now ++ flat_map f rest

pub left_next : {X : Type 0} (f : X → List ℕ) (start : List ℕ) (all : List X) (now new : List ℕ) (rest more : List X) (x : X)
    → IsLeft f start all now rest
    → rest ≡ x ∷ more → new ≡ now ++ f x → IsLeft f start all new more
left_next f start all now new rest more x h e is = h ∙ ap (λ (l : List _). now ++ flat_map f l) e ∙ sym (append_assoc now (f x) (flat_map f more))
    ∙ ap
    (λ (l : List ℕ). l ++ flat_map f more) (sym is)

pub left_end : {X : Type 0} (f : X → List ℕ) (start : List ℕ) (all : List X) (now : List ℕ) (rest : List X) → IsLeft f start all now rest → rest ≡ []
    → now ≡ start ++ flat_map f all
left_end f start all now rest h e = sym (h ∙ ap (λ (l : List _). now ++ flat_map f l) e ∙ append-nil now)

-- ---- words

step : (n : Names) (ks : List Kind) (ws : List ℕ) (i : ℕ) (k : Kind) (w : ℕ) → slice_get ks i ≡ Some k → slice_get ws i ≡ Some w
    → items_of n (drop i ks) (drop i ws) ≡ item_of n k w ∷ items_of n (drop (suc i) ks) (drop (suc i) ws)
step n [] ws i k w e f = absurd cc
step n (j ∷ ks) [] i k w e f = absurd cc
step n (j ∷ ks) (v ∷ ws) zero k w e f =
    let ek : j ≡ k = cc in
    let ew : v ≡ w = cc in
    rw (ek, ew) refl
step n (j ∷ ks) (v ∷ ws) (suc i) k w e f = step n ks ws i k w e f

pub items_step : (n : Names) (ks : List Kind) (ws : List ℕ) (i : ℕ) (k : Kind) (w : ℕ) → slice_get ks i ≡ Some k → slice_get ws i ≡ Some w
    → items_of n (drop i ks) (drop i ws) ≡ item_of n k w ∷ items_of n (drop (i + 1) ks) (drop (i + 1) ws)
items_step n ks ws i k w e f = subst (λ (m : ℕ). items_of n (drop i ks) (drop i ws) ≡ item_of n k w ∷ items_of n (drop m ks) (drop m ws))
    (sym (add-one i))
    (step n ks ws i k w e f)

no_items : (n : Names) (ks : List Kind) → items_of n ks [] ≡ []
no_items n [] = refl
no_items n (k ∷ ks) = refl

pub items_end : (n : Names) (ks : List Kind) (ws : List ℕ) (i : ℕ) → length ws ≤ i → items_of n (drop i ks) (drop i ws) ≡ []
items_end n ks ws i le = rw (drop_all i ws le) (no_items n (drop i ks))

pub found_at : (n : Names) (ks : List Kind) (ws : List ℕ) (i : ℕ) (k : Kind) (w : ℕ) → AreFound n ks ws → slice_get ks i ≡ Some k
    → slice_get ws i ≡ Some w
    → IsFound n k w
found_at n [] ws i k w h e f = absurd cc
found_at n (j ∷ ks) [] i k w h e f = absurd cc
found_at n (j ∷ ks) (v ∷ ws) zero k w h e f =
    let ek : j ≡ k = cc in
    let ew : v ≡ w = cc in
    rw (← ek, ← ew) h.0
found_at n (j ∷ ks) (v ∷ ws) (suc i) k w h e f = found_at n ks ws i k w h.1 e f

pub one_item : (n : Names) (ks : List Kind) (ws : List ℕ) (i : ℕ) (k : Kind) (w : ℕ) (start now new : List ℕ) (x : Item)
    → IsLeft (item_bytes Wide) start (items_of n ks ws) now (items_of n (drop i ks) (drop i ws))
    → slice_get ks i ≡ Some k → slice_get ws i ≡ Some w → x ≡ item_of n k w → new ≡ now ++ item_bytes Wide x
    → IsLeft (item_bytes Wide) start (items_of n ks ws) new (items_of n (drop (i + 1) ks) (drop (i + 1) ws))
one_item n ks ws i k w start now new x h e f is new_is =
    left_next (item_bytes Wide) start (items_of n ks ws) now new (items_of n (drop i ks) (drop i ws)) (items_of n (drop (i + 1) ks) (drop (i + 1) ws))
    (item_of n k w) h (items_step n ks ws i k w e f) (new_is ∙ ap (λ (y : Item). now ++ item_bytes Wide y) is)

-- ---- parts by their names

pub part_next : {X : Type 0} (f : X → List ℕ) (at : ℕ → X) (ps : List ℕ) (i p : ℕ) (start now new : List ℕ) (x : X)
    → IsLeft f start (map at ps) now (map at (drop i ps)) → i < length ps → p ≡ get_or ps i 0 → x ≡ at p → new ≡ now ++ f x
    → IsLeft f start (map at ps) new (map at (drop (i + 1) ps))
part_next f at ps i p start now new x h lt pe xe e =
    left_next f start (map at ps) now new (map at (drop i ps)) (map at (drop (i + 1) ps)) x h
    (ap (λ (l : List ℕ). map at l) (drop_more ps i 0 lt) ∙ ap (λ (y : _). y ∷ map at (drop (i + 1) ps)) (sym (xe ∙ ap at pe))) e

pub part_end : {X : Type 0} (f : X → List ℕ) (at : ℕ → X) (ps : List ℕ) (i : ℕ) (start now : List ℕ)
    → IsLeft f start (map at ps) now (map at (drop i ps))
    → length ps ≤ i → now ≡ start ++ flat_map f (map at ps)
part_end f at ps i start now h le = left_end f start (map at ps) now (map at (drop i ps)) h (ap (λ (l : List ℕ). map at l) (drop_all i ps le))

-- what holds at each number holds of all
pub all_at : {X : Type 0} (P : X → Type 0) (at : ℕ → X) (ps : List ℕ) → ((i : ℕ) → i < length ps → P (at (get_or ps i 0)))
    → AllByRecursion P (map at ps)
all_at P at [] h = tt
all_at P at (p ∷ ps) h = (h 0 (omega arith), all_at P at ps (λ i lt. h (suc i) (omega (arith, lt))))

-- ---- objects

pub object_found : (classes : List (List Kind)) (heap : HeapState) (n : Names) (ps : List ℕ) (k : ℕ) → AllFound classes heap n ps → k < length ps
    → AreFound n (kinds_at classes (object_at heap (get_or ps k 0)).class) (object_at heap (get_or ps k 0)).fields
object_found classes heap n [] k h lt = absurd (omega (arith, lt))
object_found classes heap n (p ∷ ps) zero h lt = h.0
object_found classes heap n (p ∷ ps) (suc k) h lt = object_found classes heap n ps k h.1 (omega (arith, lt))

pub items_count : (n : Names) (ks : List Kind) (ws : List ℕ) → AreWords ks ws → length (items_of n ks ws) ≡ length ws
items_count n [] [] h = refl
items_count n [] (w ∷ ws) h = absurd h
items_count n (k ∷ ks) [] h = absurd h
items_count n (k ∷ ks) (w ∷ ws) h = ap suc (items_count n ks ws h.1)

-- a node's beginning and then its fields
pub node_written : (classes : List (List Kind)) (heap : HeapState) (n : Names) (p class count : ℕ) (start begun new : List ℕ)
    → AreWords (kinds_at classes (object_at heap p).class) (object_at heap p).fields
    → class ≡ (object_at heap p).class → count ≡ length (object_at heap p).fields → begun ≡ start ++ (to_be_bytes w16 class ++ count ∷ [])
    → new ≡ begun ++ flat_map (item_bytes Wide) (items_of n (kinds_at classes (object_at heap p).class) (object_at heap p).fields)
    → new ≡ start ++ node_bytes Wide (node_of classes n (object_at heap p))
unfolding node_bytes
node_written classes heap n p class count start begun new words ce le be ne =
    let o = object_at heap p in
    let is = items_of n (kinds_at classes o.class) o.fields in
    let long : length is ≡ count = items_count n (kinds_at classes o.class) o.fields words ∙ sym le in
    ne ∙ ap (λ (l : List ℕ). l ++ flat_map (item_bytes Wide) is) be
    ∙ append_assoc start (to_be_bytes w16 class ++ count ∷ []) (flat_map (item_bytes Wide) is)
    ∙ ap (λ (l : List ℕ). start ++ l) (append_assoc (to_be_bytes w16 class) (count ∷ []) (flat_map (item_bytes Wide) is))
    ∙ ap (λ (c : ℕ). start ++ (to_be_bytes w16 c ++ (count ∷ flat_map (item_bytes Wide) is))) ce
    ∙ ap (λ (m : ℕ). start ++ (to_be_bytes w16 o.class ++ (m ∷ flat_map (item_bytes Wide) is))) (sym long)
