-- The tests say what they are for.
use Rattle.std.proofs.Common.{◌≡◌, ◌↔◌, ℕ, zero, suc, ◌*◌, ◌&&◌, Bool, true, false, List, [], ◌∷◌, length, map, Option, Some, None, slice_get, refl, ap, subst, ◌∙◌, inl, inr, lt-ltb, eq-eqb}
use Rattle.std.specs.Prelude.{IsTrue, if◌then◌else◌}
use Rattle.std.proofs.lemmas.Bool.{ltb-true, eqb-true, cases_eq, ne_eqb}
use Rattle.x10_kinds.specs.declared.kind.Kind.{Kind}
use Rattle.x10_kinds.specs.declared.kind.Kind.TheVariants as kind
use Rattle.x10_heap.specs.declared.export.Export.{Export}
use Rattle.x10_heap.specs.Words.{export_as, has_class}
use Rattle.x10_model.specs.declared.slot.Slot.{Slot}
use Rattle.x10_model.specs.Maps.{Pairwise}
use Rattle.x10_model.specs.Modules.{Module}
use Rattle.x10_model.specs.Places as places
use Rattle.x10_model.specs.Signatures.{HasHome, AreOfKinds}
use Rattle.x10_model.specs.Copies as copies
use Rattle.x10_model.specs.Copies.{Snapshot, IsNodeOf, IsOfKindIn}
use Rattle.x10_model.specs.Deliveries.{FitsClasses, IsExported, NamesExports}
use Rattle.x10_model.specs.Marshalling.{value_of, node_of, snapshot_of}
use Rattle.x10_model.specs.Frames.{Item, IntItem, PlaceItem, TextItem, RailItem, ObjectItem, NullItem, RefItem, Node, Graph}
use Rattle.x10_copy.specs.Fitting.{of_class, item_fits, all_fit, class_fits, nodes_fit, has_home, home_fits, have_homes, is_exported, are_exported, nodes_exported, pairs_pass, each_passes}
use Rattle.x10_copy.specs.Captured.{kinds_of}
use Rattle.x10_copy.specs.Arrived.{FitKinds, HaveHomes}

never : IsTrue false ↔ ⊥
never = (λ h. absurd cc, λ h. absurd h)

-- ---- of two in each place, and of each

and_both : (a b : Bool) → IsTrue (a && b) → IsTrue a × IsTrue b
and_both true b h = (refl, h)
and_both false b h = absurd cc

both_and : (a b : Bool) → IsTrue a → IsTrue b → IsTrue (a && b)
both_and a b g h = rw (g, h) refl

pub pairs_tell : {X Y V : Type 0} (f : X → Y → Bool) (at : Y → V) (R : V → X → Type 0) → ((x : X) (y : Y) → IsTrue (f x y) ↔ R (at y) x)
    → (xs : List X) (ys : List Y) → IsTrue (pairs_pass f xs ys) ↔ Pairwise R (map at ys) xs
pairs_tell f at R tells [] [] = (λ h. tt, λ h. refl)
pairs_tell f at R tells [] (y ∷ ys) = never
pairs_tell f at R tells (x ∷ xs) [] = never
pairs_tell f at R tells (x ∷ xs) (y ∷ ys) =
    let rest = pairs_tell f at R tells xs ys in (
      λ h. let b = and_both (f x y) (pairs_pass f xs ys) h in ((tells x y).0 b.0, rest.0 b.1),
      λ h. both_and (f x y) (pairs_pass f xs ys) ((tells x y).1 h.0)
          (rest.1 h.1),
    )

abbrev Each : {V : Type 0} → (V → Type 0) → List V → Type 0
Each {V} P vs = (k : ℕ) (v : V) → slice_get vs k ≡ Some v → P v

each_cons : {V : Type 0} (P : V → Type 0) (v : V) (vs : List V) → P v → Each P vs → Each P (v ∷ vs)
each_cons P v vs p h zero w e =
    let same : v ≡ w = cc in
    subst P same p
each_cons P v vs p h (suc k) w e = h k w e

pub each_tells : {X V : Type 0} (f : X → Bool) (at : X → V) (P : V → Type 0) → ((x : X) → IsTrue (f x) ↔ P (at x)) → (xs : List X)
    → IsTrue (each_passes f xs) ↔ Each P (map at xs)
each_tells f at P tells [] = (λ h k v e. absurd cc, λ h. refl)
each_tells f at P tells (x ∷ xs) =
    let rest = each_tells f at P tells xs in (
      λ h. let b = and_both (f x) (each_passes f xs) h in each_cons P (at x) (map at xs) ((tells x).0 b.0) (rest.0 b.1),
      λ h. both_and (f x) (each_passes f xs) ((tells x).1 (h 0 (at x) refl)) (rest.1 (λ k v e. h (suc k) v e)),
    )

-- ---- kinds

node_tells : (texts : List (List ℕ)) (nodes : List Node) (k c : ℕ)
    → IsTrue (of_class (slice_get nodes k) c) ↔ ((node : copies.Node) × (slice_get (map (node_of texts) nodes) k ≡ Some node) × (node.class ≡ c))
node_tells texts [] k c = (λ h. absurd cc, λ h. absurd (let e = h.1 in cc))
node_tells texts (n ∷ ns) zero c = (
  λ h. (node_of texts n, refl, eqb-true n.class c h),
  λ h. eq-eqb n.class c
      (let e = h.1 in let same : node_of texts n ≡ h.0 = cc in ap (λ (m : copies.Node). m.class) same ∙ h.2),
)
node_tells texts (n ∷ ns) (suc k) c = node_tells texts ns k c

item_tells : (g : Graph) (k : Kind) (i : Item) → IsTrue (item_fits g k i) ↔ IsOfKindIn (snapshot_of g) (value_of g.texts i) k
item_tells g kind.Int (IntItem z) = (λ h. tt, λ h. refl)
item_tells g kind.Int (PlaceItem p) = never
item_tells g kind.Int (TextItem i) = never
item_tells g kind.Int (RailItem i) = never
item_tells g kind.Int (ObjectItem k) = never
item_tells g kind.Int NullItem = never
item_tells g kind.Int (RefItem home id class) = never
item_tells g kind.Place (IntItem z) = never
item_tells g kind.Place (PlaceItem p) = (λ h. tt, λ h. refl)
item_tells g kind.Place (TextItem i) = never
item_tells g kind.Place (RailItem i) = never
item_tells g kind.Place (ObjectItem k) = never
item_tells g kind.Place NullItem = never
item_tells g kind.Place (RefItem home id class) = never
item_tells g kind.Text (IntItem z) = never
item_tells g kind.Text (PlaceItem p) = never
item_tells g kind.Text (TextItem i) = (λ h. tt, λ h. refl)
item_tells g kind.Text (RailItem i) = never
item_tells g kind.Text (ObjectItem k) = never
item_tells g kind.Text NullItem = never
item_tells g kind.Text (RefItem home id class) = never
item_tells g kind.Rail (IntItem z) = never
item_tells g kind.Rail (PlaceItem p) = never
item_tells g kind.Rail (TextItem i) = never
item_tells g kind.Rail (RailItem i) = (ltb-true i (length g.rails), lt-ltb i (length g.rails))
item_tells g kind.Rail (ObjectItem k) = never
item_tells g kind.Rail NullItem = never
item_tells g kind.Rail (RefItem home id class) = never
item_tells g (kind.Obj c) (IntItem z) = never
item_tells g (kind.Obj c) (PlaceItem p) = never
item_tells g (kind.Obj c) (TextItem i) = never
item_tells g (kind.Obj c) (RailItem i) = never
item_tells g (kind.Obj c) (ObjectItem k) = node_tells g.texts g.nodes k c
item_tells g (kind.Obj c) NullItem = never
item_tells g (kind.Obj c) (RefItem home id class) = never
item_tells g (kind.Opt c) (IntItem z) = never
item_tells g (kind.Opt c) (PlaceItem p) = never
item_tells g (kind.Opt c) (TextItem i) = never
item_tells g (kind.Opt c) (RailItem i) = never
item_tells g (kind.Opt c) (ObjectItem k) = node_tells g.texts g.nodes k c
item_tells g (kind.Opt c) NullItem = (λ h. tt, λ h. refl)
item_tells g (kind.Opt c) (RefItem home id class) = never
item_tells g (kind.GRef c) (IntItem z) = never
item_tells g (kind.GRef c) (PlaceItem p) = never
item_tells g (kind.GRef c) (TextItem i) = never
item_tells g (kind.GRef c) (RailItem i) = never
item_tells g (kind.GRef c) (ObjectItem k) = never
item_tells g (kind.GRef c) NullItem = never
item_tells g (kind.GRef c) (RefItem home id class) = (eqb-true class c, eq-eqb class c)

class_tells : (g : Graph) (o : Option (List Kind)) (items : List Item)
    → IsTrue (class_fits g o items) ↔ ((kinds : List Kind) × (o ≡ Some kinds)
    × AreOfKinds (IsOfKindIn (snapshot_of g)) (map (value_of g.texts) items) kinds)
class_tells g None items = (λ h. absurd cc, λ h. absurd (let e = h.1 in cc))
class_tells g (Some kinds) items =
    let all = pairs_tell (item_fits g) (value_of g.texts) (IsOfKindIn (snapshot_of g)) (item_tells g) kinds items in (
      λ h. (kinds, refl, all.0 h),
      λ h. all.1 (let e = h.1 in let same : h.0 ≡ kinds = cc in subst
          (λ (ks : List Kind). AreOfKinds (IsOfKindIn (snapshot_of g)) (map (value_of g.texts) items) ks) same h.2),
    )

pub classes_tell : (m : Module) (g : Graph) → IsTrue (nodes_fit m.classes g g.nodes) ↔ FitsClasses m (snapshot_of g)
classes_tell m g =
    each_tells (λ n. class_fits g (slice_get m.classes n.class) n.fields) (node_of g.texts)
    (λ node. (kinds : List Kind) × (slice_get m.classes node.class ≡ Some kinds) × AreOfKinds (IsOfKindIn (snapshot_of g)) node.fields kinds)
    (λ n. class_tells g (slice_get m.classes n.class) n.fields) g.nodes

pub roots_tell : (g : Graph) (kinds : List Kind) → IsTrue (all_fit g kinds g.roots)
    ↔ AreOfKinds (IsOfKindIn (snapshot_of g)) (snapshot_of g).roots kinds
roots_tell g kinds = pairs_tell (item_fits g) (value_of g.texts) (IsOfKindIn (snapshot_of g)) (item_tells g) kinds g.roots

-- ---- homes

home_is : (at : ℕ) (texts : List (List ℕ)) (i : Item) → IsTrue (has_home at i) ↔ HasHome at (value_of texts i)
home_is at texts (IntItem z) = never
home_is at texts (PlaceItem p) = never
home_is at texts (TextItem i) = never
home_is at texts (RailItem i) = never
home_is at texts (ObjectItem k) = never
home_is at texts NullItem = never
home_is at texts (RefItem home id class) = (eqb-true home at, eq-eqb home at)

home_tells : (at : ℕ) (texts : List (List ℕ)) (s : Slot) (i : Item) → IsTrue (home_fits at s i) ↔ (IsTrue s.home_here → HasHome at (value_of texts i))
home_tells at texts s i = elim s.home_here as (λ (b : Bool). IsTrue (if b then has_home at i else true) ↔ (IsTrue b → HasHome at (value_of texts i))) [
  | true ↦ (λ h _. (home_is at texts i).0 h, λ h. (home_is at texts i).1 (h refl))
  | false ↦ (λ h e. absurd cc, λ h. refl)
]

pub homes_tell : (at : ℕ) (g : Graph) (slots : List Slot) → IsTrue (have_homes at slots g.roots) ↔ HaveHomes at (snapshot_of g).roots slots
homes_tell at g slots = pairs_tell (home_fits at) (value_of g.texts) (λ v slot. IsTrue slot.home_here → HasHome at v)
    (home_tells at g.texts) slots g.roots

-- ---- exports

abbrev Named : List Export → ℕ → ℕ → Type 0
Named exports id class = (object : ℕ) × (slice_get (map export_as exports) id ≡ Some (record { class = class; object = object }))

class_is : (e : places.Export) (f : places.Export) → Some e ≡ Some f → e.class ≡ f.class
class_is e f is = let same : e ≡ f = cc in ap (λ (x : places.Export). x.class) same

pub named_tells : (exports : List Export) (id class : ℕ) → IsTrue (has_class (slice_get exports id) class) ↔ Named exports id class
named_tells [] id class = (λ h. absurd cc, λ h. absurd (let e = h.1 in cc))
named_tells (x ∷ xs) zero class = (
  λ h. (2 * x.object, ap (λ (c : ℕ). Some (record { class = c; object = 2 * x.object })) (eqb-true x.class class h)),
  λ h. eq-eqb x.class class
      (class_is (export_as x) (record { class = class; object = h.0 }) h.1),
)
named_tells (x ∷ xs) (suc id) class = named_tells xs id class

always : IsTrue true ↔ Unit {0}
always = (λ h. tt, λ h. refl)

export_tells : (here : ℕ) (exports : List Export) (texts : List (List ℕ)) (i : Item)
    → IsTrue (is_exported here exports i) ↔ IsExported here (map export_as exports) (value_of texts i)
export_tells here exports texts (IntItem z) = always
export_tells here exports texts (PlaceItem p) = always
export_tells here exports texts (TextItem i) = always
export_tells here exports texts (RailItem i) = always
export_tells here exports texts (ObjectItem k) = always
export_tells here exports texts NullItem = always
export_tells here exports texts (RefItem home id class) = elim (cases_eq home here) [
  | inl e ↦ rw (eq-eqb home here e) (λ h _. (named_tells exports id class).0 h, λ h. (named_tells exports id class).1 (h e))
  | inr n ↦ rw (ne_eqb home here n) (λ h e. absurd (n e), λ h. refl)
]

pub exports_tell : (here : ℕ) (exports : List Export) (g : Graph) → IsTrue (are_exported here exports g.roots)
    → IsTrue (nodes_exported here exports g.nodes)
    → NamesExports here (map export_as exports) (snapshot_of g)
exports_tell here exports g a b =
    let roots = each_tells (is_exported here exports) (value_of g.texts) (IsExported here (map export_as exports))
    (export_tells here exports g.texts) g.roots
    in
    let nodes = each_tells (λ n. are_exported here exports n.fields) (node_of g.texts)
    (λ node. Each (IsExported here (map export_as exports)) node.fields)
    (λ n. each_tells (is_exported here exports) (value_of g.texts) (IsExported here (map export_as exports))
    (export_tells here exports g.texts) n.fields)
    g.nodes in
    record { roots = λ v is. roots.0 a is.0 v is.1; fields = λ k node v e is. nodes.0 b k node e is.0 v is.1 }

pub told_exports : (here : ℕ) (exports : List Export) (g : Graph) → NamesExports here (map export_as exports) (snapshot_of g)
    → IsTrue (are_exported here exports g.roots) × IsTrue (nodes_exported here exports g.nodes)
told_exports here exports g h =
    let roots = each_tells (is_exported here exports) (value_of g.texts) (IsExported here (map export_as exports))
    (export_tells here exports g.texts) g.roots
    in
    let nodes = each_tells (λ n. are_exported here exports n.fields) (node_of g.texts)
    (λ node. Each (IsExported here (map export_as exports)) node.fields)
    (λ n. each_tells (is_exported here exports) (value_of g.texts) (IsExported here (map export_as exports))
    (export_tells here exports g.texts) n.fields)
    g.nodes in
    (roots.1 (λ i v e. h.roots v (i, e)), nodes.1 (λ k node e i v f. h.fields k node v e (i, f)))

-- ---- all of it

pub kinds_told : (m : Module) (g : Graph) (slots : List Slot) → IsTrue (all_fit g (kinds_of slots) g.roots) → IsTrue (nodes_fit m.classes g g.nodes)
    → FitKinds m slots (snapshot_of g)
kinds_told m g slots a b = record { roots = (roots_tell g (kinds_of slots)).0 a; classes = (classes_tell m g).0 b }

pub told_kinds : (m : Module) (g : Graph) (slots : List Slot) → FitKinds m slots (snapshot_of g)
    → IsTrue (all_fit g (kinds_of slots) g.roots) × IsTrue (nodes_fit m.classes g g.nodes)
told_kinds m g slots h = ((roots_tell g (kinds_of slots)).1 h.roots, (classes_tell m g).1 h.classes)

pairs_long : {X Y : Type 0} (f : X → Y → Bool) (xs : List X) (ys : List Y) → IsTrue (pairs_pass f xs ys) → length ys ≡ length xs
pairs_long f [] [] h = refl
pairs_long f [] (y ∷ ys) h = absurd cc
pairs_long f (x ∷ xs) [] h = absurd cc
pairs_long f (x ∷ xs) (y ∷ ys) h = ap suc (pairs_long f xs ys (and_both (f x y) (pairs_pass f xs ys) h).1)

pub roots_long : (g : Graph) (kinds : List Kind) → IsTrue (all_fit g kinds g.roots) → length g.roots ≡ length kinds
roots_long g kinds h = pairs_long (item_fits g) kinds g.roots h
