-- Frames: what places send one another, and the one spelling of each in each version. Numbers stand with the highest byte first.
use Rattle.std.specs.Prelude.{◌≡◌, ℕ, ℤ, suc, ◌+◌, ◌<◌, ◌≤◌, ◌^◌, max, List, [], ◌∷◌, ◌++◌, length, FitsSigned}
use Rattle.std.specs.List.{flat_map, AllByRecursion}
use Rattle.std.specs.Int.{Width, w16, w32, w64, to_be_bytes}
use Rattle.x10_model.specs.declared.limits.TheConstants.{MOST_FIELDS, MOST_PARAMETERS, MOST_NARROW, MOST_WIDE}
use Rattle.x10_model.specs.Modules.{FitsText}
use Rattle.x10_model.specs.Images.{int_bytes}
use Rattle.x10_model.specs.Readers.{IsBytes, FitsEach, after_all}
use Rattle.x10_model.specs.declared.version.FrameVersion.{FrameVersion}
use Rattle.x10_model.specs.declared.version.FrameVersion.TheVariants.{Narrow, Wide}

-- A value as a frame spells it: texts, rails and objects by their number in the frame's tables.
pub data Item : Type 0 where
  IntItem : ℤ → Item
  PlaceItem : ℕ → Item
  TextItem : ℕ → Item
  RailItem : ℕ → Item
  ObjectItem : ℕ → Item
  NullItem : Item
  -- a global reference: its home, its number there, and the class of its object
  RefItem : ℕ → ℕ → ℕ → Item

-- an object, with its fields
pub record Node : Type 0 where
  pub class : ℕ
  pub fields : List Item

-- the values that are passed, and all that they reach
pub record Graph : Type 0 where
  pub roots : List Item
  -- each in UTF-8
  pub texts : List (List ℕ)
  -- each as its bytes
  pub rails : List (List ℕ)
  pub nodes : List Node

-- which function runs, under the finish of which home and number, and its arguments
pub record Launch : Type 0 where
  pub home : ℕ
  pub number : ℕ
  pub function : ℕ
  pub graph : Graph

abbrev pub launch : (home number function : ℕ) → Graph → Launch
launch home number function graph = record {
  home = home;
  number = number;
  function = function;
  graph = graph;
}

pub data Frame : Type 0 where
  -- a new activity: from, to, the finish's home and number, the function, its arguments
  Spawn : ℕ → ℕ → ℕ → ℕ → ℕ → Graph → Frame
  -- an activity that goes on elsewhere: from, to, the waiting segment, the finish's home and number, the function, its arguments
  Shift : ℕ → ℕ → ℕ → ℕ → ℕ → ℕ → Graph → Frame
  -- its way back: from, to, the waiting segment, the result if there is one
  Back : ℕ → ℕ → ℕ → Graph → Frame
  -- counts of a finish: from, to (the finish's home), the finish's number, how many activities were sent to each place, and received from each
  Report : ℕ → ℕ → ℕ → List ℕ → List ℕ → Frame

-- ---- spelling

-- the first byte of a frame
abbrev pub byte_of : FrameVersion → ℕ
byte_of Narrow = 1
byte_of Wide = 2

-- how wide the counts and the numbers of texts, rails and nodes are
abbrev pub width_of : FrameVersion → Width
width_of Narrow = w16
width_of Wide = w32

-- the most texts, rails or nodes that a frame has
abbrev pub most_of : FrameVersion → ℕ
most_of Narrow = MOST_NARROW
most_of Wide = MOST_WIDE

abbrev pub tag_of_item : Item → ℕ
tag_of_item (IntItem z) = 1
tag_of_item (PlaceItem p) = 2
tag_of_item (TextItem i) = 3
tag_of_item (RailItem i) = 4
tag_of_item (ObjectItem i) = 5
tag_of_item NullItem = 6
tag_of_item (RefItem home id class) = 7

abbrev pub untagged : FrameVersion → Item → List ℕ
untagged v (IntItem z) = int_bytes z
untagged v (PlaceItem p) = to_be_bytes w16 p
untagged v (TextItem i) = to_be_bytes (width_of v) i
untagged v (RailItem i) = to_be_bytes (width_of v) i
untagged v (ObjectItem i) = to_be_bytes (width_of v) i
untagged v NullItem = []
untagged v (RefItem home id class) = to_be_bytes w16 home
    ++ (to_be_bytes w32 id ++ to_be_bytes w16 class)

unfoldable pub item_bytes : FrameVersion → Item → List ℕ
item_bytes v i = tag_of_item i ∷ untagged v i

-- a text or a rail
unfoldable pub blob_bytes : List ℕ → List ℕ
blob_bytes bytes = to_be_bytes w32 (length bytes) ++ bytes

unfoldable pub node_bytes : FrameVersion → Node → List ℕ
node_bytes v n = to_be_bytes w16 n.class ++ (length n.fields ∷ flat_map (item_bytes v) n.fields)

unfoldable pub graph_bytes : FrameVersion → Graph → List ℕ
graph_bytes v g =
    to_be_bytes w16 (length g.roots)
    ++ (to_be_bytes (width_of v) (length g.texts)
    ++ (to_be_bytes (width_of v) (length g.rails)
    ++ (to_be_bytes (width_of v) (length g.nodes)
    ++ (flat_map (item_bytes v) g.roots
    ++ (flat_map blob_bytes g.texts
    ++ (flat_map blob_bytes g.rails
    ++ flat_map (node_bytes v) g.nodes))))))

unfoldable pub launch_bytes : FrameVersion → Launch → List ℕ
launch_bytes v l = to_be_bytes w16 l.home
    ++ (to_be_bytes w32 l.number ++ (to_be_bytes w16 l.function ++ graph_bytes v l.graph))

abbrev pub counts_bytes : List ℕ → List ℕ
counts_bytes counts = flat_map (to_be_bytes w32) counts

abbrev pub type_of : Frame → ℕ
type_of (Spawn from to home number function graph) = 1
type_of (Shift from to waiting home number function graph) = 2
type_of (Back from to waiting graph) = 3
type_of (Report from to number sent received) = 4

abbrev pub from_of : Frame → ℕ
from_of (Spawn from to home number function graph) = from
from_of (Shift from to waiting home number function graph) = from
from_of (Back from to waiting graph) = from
from_of (Report from to number sent received) = from

abbrev pub to_of : Frame → ℕ
to_of (Spawn from to home number function graph) = to
to_of (Shift from to waiting home number function graph) = to
to_of (Back from to waiting graph) = to
to_of (Report from to number sent received) = to

abbrev pub body_bytes : FrameVersion → Frame → List ℕ
body_bytes v (Spawn from to home number function graph) =
    launch_bytes v (launch home number function graph)
body_bytes v (Shift from to waiting home number function graph) =
    to_be_bytes w32 waiting ++ launch_bytes v (launch home number function graph)
body_bytes v (Back from to waiting graph) = to_be_bytes w32 waiting ++ graph_bytes v graph
body_bytes v (Report from to number sent received) =
    to_be_bytes w32 number ++ (to_be_bytes w16 (length sent)
    ++ (counts_bytes sent ++ counts_bytes received))

unfoldable pub spelling : FrameVersion → Frame → List ℕ
spelling v f = (byte_of v ∷ type_of f ∷ [])
    ++ (to_be_bytes w16 (from_of f) ++ (to_be_bytes w16 (to_of f) ++ body_bytes v f))

-- ---- what has a spelling

-- how many texts, rails and nodes there are, or were used so far
pub record Tables : Type 0 where
  pub texts : ℕ
  pub rails : ℕ
  pub nodes : ℕ

abbrev pub tables : ℕ → ℕ → ℕ → Tables
tables texts rails nodes = record { texts = texts; rails = rails; nodes = nodes }

abbrev pub tables_of : Graph → Tables
tables_of g = tables (length g.texts) (length g.rails) (length g.nodes)

abbrev pub none : Tables
none = tables 0 0 0

-- what was used once an item was met: one used before, or the next new one
abbrev pub uses : Tables → Item → Tables
uses used (TextItem i) = tables (max used.texts (i + 1)) used.rails used.nodes
uses used (RailItem i) = tables used.texts (max used.rails (i + 1)) used.nodes
uses used (ObjectItem i) = tables used.texts used.rails (max used.nodes (i + 1))
uses used _ = used

-- an index that was used before or is the next new one, and is in its table
pub record FitsIndex (used table i : ℕ) : Type 0 where
  pub order : i ≤ used
  pub below : i < table

abbrev pub FitsItem : ℕ → Tables → Tables → Item → Type 0
FitsItem places all used (IntItem z) = FitsSigned w64 z
FitsItem places all used (PlaceItem p) = p < places
FitsItem places all used (TextItem i) = FitsIndex used.texts all.texts i
FitsItem places all used (RailItem i) = FitsIndex used.rails all.rails i
FitsItem places all used (ObjectItem i) = FitsIndex used.nodes all.nodes i
FitsItem places all used NullItem = Unit {0}
FitsItem places all used (RefItem home id class) = (home < places) × (id < 2 ^ 32)
    × (class < 2 ^ 16)

-- items are numbered by first use
abbrev pub FitsItems : ℕ → Tables → Tables → List Item → Type 0
FitsItems places all = FitsEach (FitsItem places all) uses

abbrev pub used_after : Tables → List Item → Tables
used_after = after_all uses

-- the number of the node whose turn it is, and what was used before it
pub record Turn : Type 0 where
  pub number : ℕ
  pub used : Tables

abbrev pub turn : ℕ → Tables → Turn
turn number used = record { number = number; used = used }

abbrev pub next_turn : Turn → Node → Turn
next_turn t n = turn (suc t.number) (used_after t.used n.fields)

-- a root or an earlier node has used it
pub record FitsNode (places : ℕ) (all : Tables) (t : Turn) (n : Node) : Type 0 where
  pub class : n.class < 2 ^ 16
  pub used : t.number < t.used.nodes
  pub count : length n.fields ≤ MOST_FIELDS
  pub fields : FitsItems places all t.used n.fields

pub record FitsRail (rail : List ℕ) : Type 0 where
  pub length : length rail < 2 ^ 16
  pub bytes : IsBytes rail

-- what was used once all nodes had their turn
abbrev pub used_in_all : List Item → List Node → Tables
used_in_all roots nodes = (after_all next_turn (turn 0 (used_after none roots)) nodes).used

-- texts, rails and nodes are numbered by first use, first in the roots, then in the nodes in turn; and all are used
pub record FitsGraph (v : FrameVersion) (places most : ℕ) (g : Graph) : Type 0 where
  pub count : length g.roots ≤ most
  pub roots : FitsItems places (tables_of g) none g.roots
  pub texts : (length g.texts ≤ most_of v) × AllByRecursion FitsText g.texts
  pub rails : (length g.rails ≤ most_of v) × AllByRecursion FitsRail g.rails
  pub nodes : (length g.nodes ≤ most_of v)
      × FitsEach (FitsNode places (tables_of g)) next_turn
      (turn 0 (used_after none g.roots)) g.nodes
  pub used : used_in_all g.roots g.nodes ≡ tables_of g

pub record FitsLaunch (v : FrameVersion) (places : ℕ) (l : Launch) : Type 0 where
  pub home : l.home < places
  pub number : l.number < 2 ^ 32
  pub function : l.function < 2 ^ 16
  pub graph : FitsGraph v places MOST_PARAMETERS l.graph

-- one for each place
abbrev pub FitsCounts : ℕ → List ℕ → Type 0
FitsCounts places counts = (length counts ≡ places) × AllByRecursion (λ n. n < 2 ^ 32) counts

abbrev pub FitsBody : FrameVersion → ℕ → Frame → Type 0
FitsBody v places (Spawn from to home number function graph) =
    FitsLaunch v places (launch home number function graph)
FitsBody v places (Shift from to waiting home number function graph) = (waiting < 2 ^ 32)
    × FitsLaunch v places (launch home number function graph)
FitsBody v places (Back from to waiting graph) = (waiting < 2 ^ 32) × FitsGraph v places 1 graph
FitsBody v places (Report from to number sent received) = (number < 2 ^ 32) × FitsCounts places sent
    × FitsCounts places received

-- the frames that have a spelling in a version where there are so many places
pub record FitsFrame (v : FrameVersion) (places : ℕ) (f : Frame) : Type 0 where
  pub from : from_of f < places
  pub to : to_of f < places
  pub body : FitsBody v places f

-- the bytes are the frame, in one version or the other, where there are so many places
pub record IsSpelled (places : ℕ) (f : Frame) (bytes : List ℕ) : Type 0 where
  pub version : FrameVersion
  pub fits : FitsFrame version places f
  pub is : bytes ≡ spelling version f
