-- A graph that fits, so numbered by first use, has nothing unreached: its snapshot is whole.
use Rattle.std.proofs.Common.{◌≡◌, ℕ, zero, suc, ◌+◌, ◌<◌, ◌≤◌, max, List, [], ◌∷◌, map, Some, slice_get, refl, sym, ap, subst, ◌∙◌, inl, inr, arith}
use Rattle.std.proofs.lemmas.Bool.{cases_lt}
use Rattle.std.proofs.lemmas.List.{length-map}
use Rattle.x10_model.specs.Maps.{IsIn}
use Rattle.x10_model.specs.Values.{Value, Rail, Object}
use Rattle.x10_model.specs.Copies as copies
use Rattle.x10_model.specs.Copies.{Snapshot, IsReached, root, field, IsInside, IsWhole}
use Rattle.x10_model.specs.Marshalling.{value_of, node_of, snapshot_of}
use Rattle.x10_model.specs.declared.version.FrameVersion.TheVariants.{Wide}
use Rattle.x10_model.specs.Frames.{Item, IntItem, PlaceItem, TextItem, RailItem, ObjectItem, NullItem, RefItem, Node, Graph, Tables, tables_of, none, uses, used_after, Turn, turn, next_turn, FitsItem, FitsItems, FitsNode, FitsGraph}
use Rattle.x10_model.specs.Readers.{FitsEach, after_all}

-- what was used so far is reached
record Upto (s : Snapshot) (used : Tables) : Type 0 where
  nodes : (k : ℕ) → k < used.nodes → IsReached s (Object k)
  rails : (i : ℕ) → i < used.rails → IsReached s (Rail i)

-- one number more
one_more : (P : ℕ → Type 0) (used j : ℕ) → ((k : ℕ) → k < used → P k) → j ≤ used → P j → (k : ℕ) → k < max used (j + 1) → P k
one_more P used j h le p k lt = elim (cases_lt k used) [
  | inl old ↦ h k old
  | inr ge ↦ (let same : j ≡ k = omega (arith, lt, ge, le) in subst P same p)
]

item_reach : (s : Snapshot) (texts : List (List ℕ)) (places : ℕ) (all used : Tables) (i : Item) → FitsItem places all used i → Upto s used
    → IsReached s (value_of texts i) → Upto s (uses used i)
item_reach s texts places all used (IntItem z) f u r = u
item_reach s texts places all used (PlaceItem p) f u r = u
item_reach s texts places all used (TextItem i) f u r = record { nodes = u.nodes; rails = u.rails }
item_reach s texts places all used (RailItem i) f u r = record
    { nodes = u.nodes; rails = one_more (λ (k : ℕ). IsReached s (Rail k)) used.rails i u.rails f.order r }
item_reach s texts places all used (ObjectItem i) f u r = record
    { nodes = one_more (λ (k : ℕ). IsReached s (Object k)) used.nodes i u.nodes f.order r; rails = u.rails }
item_reach s texts places all used NullItem f u r = u
item_reach s texts places all used (RefItem home id class) f u r = u

items_reach : (s : Snapshot) (texts : List (List ℕ)) (places : ℕ) (all used : Tables) (is : List Item) → FitsItems places all used is → Upto s used
    → ((i : ℕ) (v : Value) → slice_get (map (value_of texts) is) i ≡ Some v → IsReached s v) → Upto s (used_after used is)
items_reach s texts places all used [] f u r = u
items_reach s texts places all used (i ∷ is) f u r =
    items_reach s texts places all (uses used i) is f.1 (item_reach s texts places all used i f.0 u (r 0 (value_of texts i) refl))
    (λ j v e. r (suc j) v e)

nodes_reach : (s : Snapshot) (texts : List (List ℕ)) (places : ℕ) (all : Tables) (t : Turn) (ns : List Node)
    → FitsEach (FitsNode places all) next_turn t ns
    → Upto s t.used
    → ((j : ℕ) (node : copies.Node) → slice_get (map (node_of texts) ns) j ≡ Some node → slice_get s.nodes (t.number + j) ≡ Some node)
    → Upto s (after_all next_turn t ns).used
nodes_reach s texts places all t [] f u h = u
nodes_reach s texts places all t (n ∷ ns) f u h =
    let here : t.number + 0 ≡ t.number = omega arith in
    let at : slice_get s.nodes t.number ≡ Some (node_of texts n) = ap (λ (k : ℕ). slice_get s.nodes k) (sym here) ∙ h 0 (node_of texts n) refl in
    let fields = items_reach s texts places all t.used n.fields f.0.fields u
    (λ i v e. field v t.number (node_of texts n) (u.nodes t.number f.0.used) at (i, e)) in
    nodes_reach s texts places all (next_turn t n) ns f.1 fields (λ j node e.
    let there : suc t.number + j ≡ t.number + suc j = omega arith in
    ap (λ (k : ℕ). slice_get s.nodes k) there ∙ h (suc j) node e)

-- ---- inside

item_inside : (g : Graph) (places : ℕ) (used : Tables) (i : Item) → FitsItem places (tables_of g) used i
    → IsInside (snapshot_of g) (value_of g.texts i)
item_inside g places used (IntItem z) f = tt
item_inside g places used (PlaceItem p) f = tt
item_inside g places used (TextItem i) f = tt
item_inside g places used (RailItem i) f = f.below
item_inside g places used (ObjectItem k) f = omega (arith, f.below, length-map g.nodes (node_of g.texts))
item_inside g places used NullItem f = tt
item_inside g places used (RefItem home id class) f = tt

items_inside : (g : Graph) (places : ℕ) (used : Tables) (is : List Item) → FitsItems places (tables_of g) used is → (i : ℕ) (v : Value)
    → slice_get (map (value_of g.texts) is) i ≡ Some v → IsInside (snapshot_of g) v
items_inside g places used [] f i v e = absurd cc
items_inside g places used (x ∷ is) f zero v e =
    let same : value_of g.texts x ≡ v = cc in
    subst (λ (w : Value). IsInside (snapshot_of g) w) same (item_inside g places used x f.0)
items_inside g places used (x ∷ is) f (suc i) v e = items_inside g places (uses used x) is f.1 i v e

-- the fields of node k fit
pub fields_fit : (places : ℕ) (all : Tables) (t : Turn) (ns : List Node) (k : ℕ) (n : Node) → FitsEach (FitsNode places all) next_turn t ns
    → slice_get ns k ≡ Some n → (used : Tables) × FitsItems places all used n.fields
fields_fit places all t [] k n f e = absurd cc
fields_fit places all t (m ∷ ns) zero n f e =
    let same : m ≡ n = cc in
    (t.used, subst (λ (o : Node). FitsItems places all t.used o.fields) same f.0.fields)
fields_fit places all t (m ∷ ns) (suc k) n f e = fields_fit places all (next_turn t m) ns k n f.1 e

nodes_inside : (g : Graph) (places : ℕ) (t : Turn) (ns : List Node) → FitsEach (FitsNode places (tables_of g)) next_turn t ns
    → (k : ℕ) (node : copies.Node) (v : Value) → slice_get (map (node_of g.texts) ns) k ≡ Some node → IsIn v node.fields → IsInside (snapshot_of g) v
nodes_inside g places t [] f k node v e is = absurd cc
nodes_inside g places t (n ∷ ns) f zero node v e is =
    let same : node_of g.texts n ≡ node = cc in
    items_inside g places t.used n.fields f.0.fields is.0 v (ap (λ (m : copies.Node). slice_get m.fields is.0) same ∙ is.1)
nodes_inside g places t (n ∷ ns) f (suc k) node v e is = nodes_inside g places (next_turn t n) ns f.1 k node v e is

pub whole : (places most : ℕ) (g : Graph) → FitsGraph Wide places most g → IsWhole (snapshot_of g)
whole places most g h =
    let s = snapshot_of g in
    let nothing : Upto s none = record { nodes = λ k lt. absurd (omega (arith, lt)); rails = λ i lt. absurd (omega (arith, lt)) } in
    let roots = items_reach s g.texts places (tables_of g) none g.roots h.roots nothing (λ i v e. root v (i, e)) in
    let all = nodes_reach s g.texts places (tables_of g) (turn 0 (used_after none g.roots)) g.nodes h.nodes.1 roots
    (λ j node e. (let here : 0 + j ≡ j = omega arith in ap (λ (k : ℕ). slice_get s.nodes k) here ∙ e)) in
    let end : Upto s (tables_of g) = subst (λ (t : Tables). Upto s t) h.used all in
    record {
      roots = λ v is. items_inside g places none g.roots h.roots is.0 v is.1;
      fields = nodes_inside g places (turn 0 (used_after none g.roots)) g.nodes h.nodes.1;
      nodes_reached = λ k lt. end.nodes k (omega (arith, lt, length-map g.nodes (node_of g.texts)));
      rails_reached = λ i lt. end.rails i lt;
    }
