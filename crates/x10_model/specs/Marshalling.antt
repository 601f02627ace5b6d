-- Which frame carries which message: a frame's graph stands for a snapshot, where texts are values and no table.
use Rattle.std.specs.Prelude.{ℕ, List, [], map, Option, Some, None, slice_get}
use Rattle.x10_model.specs.Values.{Value, Int, Place, Text, Rail, Object, Null, Ref}
use Rattle.x10_model.specs.Copies.{Node, Snapshot}
use Rattle.x10_model.specs.Places as places
use Rattle.x10_model.specs.Places.{Message}
use Rattle.x10_model.specs.Frames as frames
use Rattle.x10_model.specs.Frames.{Item, IntItem, PlaceItem, TextItem, RailItem, ObjectItem, NullItem, RefItem, Graph, Frame}

abbrev pub text_or_empty : Option (List ℕ) → List ℕ
text_or_empty None = []
text_or_empty (Some t) = t

-- the value of an item, in a frame with these texts
abbrev pub value_of : List (List ℕ) → Item → Value
value_of texts (IntItem z) = Int z
value_of texts (PlaceItem p) = Place p
value_of texts (TextItem i) = Text (text_or_empty (slice_get texts i))
value_of texts (RailItem i) = Rail i
value_of texts (ObjectItem k) = Object k
value_of texts NullItem = Null
value_of texts (RefItem home id class) = Ref home id class

abbrev pub node_of : List (List ℕ) → frames.Node → Node
node_of texts n = record { class = n.class; fields = map (value_of texts) n.fields }

abbrev pub snapshot_of : Graph → Snapshot
snapshot_of g = record {
  roots = map (value_of g.texts) g.roots;
  rails = g.rails;
  nodes = map (node_of g.texts) g.nodes;
}

-- the message that a frame carries; a report carries none
abbrev pub message_of : Frame → Option Message
message_of (frames.Spawn from to home number function graph) = Some
    (places.Spawn from to (record { home = home; number = number }) function (snapshot_of graph))
message_of (frames.Shift from to waiting home number function graph) = Some
    (places.Shift from to waiting (record { home = home; number = number }) function
    (snapshot_of graph))
message_of (frames.Back from to waiting graph) =
    Some (places.Back from to waiting (snapshot_of graph))
message_of (frames.Report from to number sent received) = None
