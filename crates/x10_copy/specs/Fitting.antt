-- The tests of a frame's values, as the program makes them.
use Rattle.std.specs.Prelude.{ℕ, ◌==◌, ◌&&◌, nat_lt, Bool, true, false, List, [], ◌∷◌, length, Option, Some, None, slice_get, if◌then◌else◌}
use Rattle.x10_kinds.specs.declared.kind.Kind.{Kind}
use Rattle.x10_kinds.specs.declared.kind.Kind.TheVariants as kind
use Rattle.x10_heap.specs.declared.export.Export.{Export}
use Rattle.x10_heap.specs.Words.{has_class}
use Rattle.x10_model.specs.declared.slot.Slot.{Slot}
use Rattle.x10_model.specs.Frames.{Item, IntItem, PlaceItem, TextItem, RailItem, ObjectItem, NullItem, RefItem, Node, Graph}

abbrev pub of_class : Option Node → ℕ → Bool
of_class None c = false
of_class (Some node) c = node.class == c

abbrev pub no_slot : Slot
no_slot = record { kind = kind.Int; home_here = false }

-- a test of two in each place, with as many in both lists
abbrev pub pairs_pass : {X Y : Type 0} → (X → Y → Bool) → List X → List Y → Bool
pairs_pass f [] [] = true
pairs_pass f (x ∷ xs) (y ∷ ys) = f x y && pairs_pass f xs ys
pairs_pass f _ _ = false

-- a test of each
abbrev pub each_passes : {X : Type 0} → (X → Bool) → List X → Bool
each_passes f [] = true
each_passes f (x ∷ xs) = f x && each_passes f xs

-- the value is of the kind
abbrev pub item_fits : Graph → Kind → Item → Bool
item_fits g kind.Int (IntItem z) = true
item_fits g kind.Place (PlaceItem p) = true
item_fits g kind.Text (TextItem i) = true
item_fits g kind.Rail (RailItem i) = nat_lt i (length g.rails)
item_fits g (kind.Obj c) (ObjectItem k) = of_class (slice_get g.nodes k) c
item_fits g (kind.Opt c) (ObjectItem k) = of_class (slice_get g.nodes k) c
item_fits g (kind.Opt c) NullItem = true
item_fits g (kind.GRef c) (RefItem home id class) = class == c
item_fits g _ _ = false

-- one value for each kind, and each is of it
abbrev pub all_fit : Graph → List Kind → List Item → Bool
all_fit g kinds items = pairs_pass (item_fits g) kinds items

abbrev pub class_fits : Graph → Option (List Kind) → List Item → Bool
class_fits g None items = false
class_fits g (Some kinds) items = all_fit g kinds items

-- each node has the fields of its class
abbrev pub nodes_fit : List (List Kind) → Graph → List Node → Bool
nodes_fit classes g nodes = each_passes (λ n. class_fits g (slice_get classes n.class) n.fields)
    nodes

-- the value is a global reference with this home
abbrev pub has_home : ℕ → Item → Bool
has_home at (RefItem home id class) = home == at
has_home at _ = false

-- the same where the slot asks for it
abbrev pub home_fits : ℕ → Slot → Item → Bool
home_fits at slot item = if slot.home_here then has_home at item else true

abbrev pub have_homes : ℕ → List Slot → List Item → Bool
have_homes at slots items = pairs_pass (home_fits at) slots items

-- a global reference with its home here names an export of its class
abbrev pub is_exported : ℕ → List Export → Item → Bool
is_exported here exports (RefItem home id class) =
    if home == here then has_class (slice_get exports id) class else true
is_exported here exports _ = true

abbrev pub are_exported : ℕ → List Export → List Item → Bool
are_exported here exports items = each_passes (is_exported here exports) items

abbrev pub nodes_exported : ℕ → List Export → List Node → Bool
nodes_exported here exports nodes = each_passes (λ n. are_exported here exports n.fields) nodes

-- what two tests of the same values find: nothing where the first one fails
abbrev pub found : Bool → Bool → Option Bool
found false exported = None
found true exported = Some exported
