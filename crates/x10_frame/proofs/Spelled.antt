-- Where a frame's parts stand in its spelling, by how the spelling is put together.
use Rattle.std.proofs.Common.{◌≡◌, ℕ, ◌+◌, ◌*◌, ◌<◌, List, [], ◌++◌, length, Some, refl, sym, subst, ◌∙◌, append-nil, arith, drop, flat_map, slice_get}
use Rattle.std.specs.Int.{w16, w32, to_be_bytes}
use Rattle.x10_model.specs.declared.version.FrameVersion.{FrameVersion}
use Rattle.x10_model.specs.declared.version.FrameVersion.TheVariants.{Narrow, Wide}
use Rattle.x10_model.specs.Frames.{Item, Node, Graph, Frame, Spawn, Shift, Back, Report, item_bytes, blob_bytes, node_bytes, graph_bytes, launch_bytes, counts_bytes, spelling}
use Rattle.x10_model.proofs.ImageParts.{length-items}
use Rattle.x10_model.specs.Offsets.{StandsAt}
use Rattle.x10_model.proofs.Offsets.{later, narrow}
use Rattle.x10_bytes.proofs.Parts.{part_at, part_behind, item_here, before_it}
use Rattle.x10_frame.specs.declared.head.Head.{Head}
use Rattle.x10_frame.specs.Heads.{head_of, graph_of, sent_of, received_of}
use Rattle.x10_frame.specs.Writing.{head_bytes, sizes_bytes}
use Rattle.x10_frame.specs.Parts.{length_of_sizes, roots_from, texts_from, rails_from, nodes_from, place_of_root, place_of_text, place_of_rail, place_of_node, counts_from, place_of_sent, place_of_received}
use Rattle.x10_bytes.specs.Tables.{IsPart}

-- ---- the head, and what follows it

abbrev rest_of : FrameVersion → Frame → List ℕ
rest_of v (Spawn from to home number function graph) = graph_bytes v graph
rest_of v (Shift from to waiting home number function graph) = graph_bytes v graph
rest_of v (Back from to waiting graph) = graph_bytes v graph
rest_of v (Report from to number sent received) = to_be_bytes w16 (length sent) ++ (counts_bytes sent ++ counts_bytes received)

spelled : (v : FrameVersion) (f : Frame) → spelling v f ≡ head_bytes v (head_of f) ++ rest_of v f
unfolding spelling launch_bytes
spelled v (Spawn from to home number function graph) = refl
spelled v (Shift from to waiting home number function graph) = refl
spelled v (Back from to waiting graph) = refl
spelled v (Report from to number sent received) = refl

some_head : (v : FrameVersion) (h : Head) → 0 < length (head_bytes v h)
some_head v h = omega arith

all_of : (v : FrameVersion) (f : Frame) → StandsAt (spelling v f) 0 (head_bytes v (head_of f) ++ rest_of v f)
all_of v f = record { rest = []; is = spelled v f ∙ sym (append-nil (head_bytes v (head_of f) ++ rest_of v f)) }

after_head : (v : FrameVersion) (f : Frame) → StandsAt (spelling v f) (length (head_bytes v (head_of f))) (rest_of v f)
after_head v f = later (spelling v f) 0 (length (head_bytes v (head_of f))) (length (head_bytes v (head_of f))) (head_bytes v (head_of f))
    (rest_of v f) refl (omega arith) (all_of v f)

pub head_part : (v : FrameVersion) (f : Frame) (h : Head) → h ≡ head_of f → IsPart (spelling v f) 0 (head_bytes v h)
head_part v f h e = rw e (part_at (spelling v f) 0 (head_bytes v (head_of f)) (some_head v (head_of f))
    (narrow (spelling v f) 0 (head_bytes v (head_of f)) (rest_of v f) (all_of v f)))

-- ---- the graph

-- the parts of a graph stand from a place on, behind its sizes
record HasGraphAt (v : FrameVersion) (bytes : List ℕ) (at : ℕ) (g : Graph) : Type 0 where
  roots : StandsAt bytes (at + length_of_sizes v) (flat_map (item_bytes v) g.roots)
  texts : StandsAt bytes (at + length_of_sizes v + length (flat_map (item_bytes v) g.roots)) (flat_map blob_bytes g.texts)
  rails : StandsAt bytes (at + length_of_sizes v + length (flat_map (item_bytes v) g.roots) + length (flat_map blob_bytes g.texts))
      (flat_map blob_bytes g.rails)
  nodes : StandsAt bytes (at + length_of_sizes v + length (flat_map (item_bytes v) g.roots) + length (flat_map blob_bytes g.texts) + length
      (flat_map blob_bytes g.rails)) (flat_map (node_bytes v) g.nodes)

sizes_long : (v : FrameVersion) (roots texts rails nodes : ℕ) → length_of_sizes v ≡ length (sizes_bytes v roots texts rails nodes)
sizes_long Narrow roots texts rails nodes = refl
sizes_long Wide roots texts rails nodes = refl

-- the sizes of a graph, and what follows them
graph_is : (v : FrameVersion) (g : Graph) → graph_bytes v g ≡ sizes_bytes v (length g.roots) (length g.texts) (length g.rails) (length g.nodes)
    ++ (flat_map (item_bytes v) g.roots ++ (flat_map blob_bytes g.texts ++ (flat_map blob_bytes g.rails ++ flat_map (node_bytes v) g.nodes)))
unfolding graph_bytes
graph_is Narrow g = refl
graph_is Wide g = refl

graph_at : (v : FrameVersion) (bytes : List ℕ) (at : ℕ) (g : Graph) → StandsAt bytes at (graph_bytes v g) → HasGraphAt v bytes at g
graph_at v bytes at g s =
    let roots = flat_map (item_bytes v) g.roots in
    let texts = flat_map blob_bytes g.texts in
    let rails = flat_map blob_bytes g.rails in
    let nodes = flat_map (node_bytes v) g.nodes in
    let first = at + length_of_sizes v in
    let second = first + length roots in
    let third = second + length texts in
    let sizes = sizes_bytes v (length g.roots) (length g.texts) (length g.rails) (length g.nodes) in
    let behind = later bytes at (length_of_sizes v) first sizes (roots ++ (texts ++ (rails ++ nodes)))
    (sizes_long v (length g.roots) (length g.texts) (length g.rails) (length g.nodes)) refl (subst (StandsAt bytes at) (graph_is v g) s) in
    let from_texts = later bytes first (length roots) second roots (texts ++ (rails ++ nodes)) refl refl behind in
    let from_rails = later bytes second (length texts) third texts (rails ++ nodes) refl refl from_texts in
    record {
      roots = narrow bytes first roots (texts ++ (rails ++ nodes)) behind;
      texts = narrow bytes second texts (rails ++ nodes) from_texts;
      rails = narrow bytes third rails nodes from_rails;
      nodes = later bytes third (length rails) (third + length rails) rails nodes refl refl from_rails;
    }

nothing_at : (bytes : List ℕ) (at : ℕ) → StandsAt bytes at []
nothing_at bytes at = record { rest = drop at bytes; is = refl }

graph_stands : (v : FrameVersion) (f : Frame) → HasGraphAt v (spelling v f) (length (head_bytes v (head_of f))) (graph_of f)
graph_stands v (Spawn from to home number function graph) = graph_at v _ _ graph (after_head v (Spawn from to home number function graph))
graph_stands v (Shift from to waiting home number function graph) =
    graph_at v _ _ graph (after_head v (Shift from to waiting home number function graph))
graph_stands v (Back from to waiting graph) = graph_at v _ _ graph (after_head v (Back from to waiting graph))
graph_stands v (Report from to number sent received) = record {
  roots = nothing_at _ _;
  texts = nothing_at _ _;
  rails = nothing_at _ _;
  nodes = nothing_at _ _;
}

-- ---- the counts

counts_stand : (v : FrameVersion) (f : Frame) → StandsAt (spelling v f) (counts_from v f) (counts_bytes (sent_of f) ++ counts_bytes (received_of f))
counts_stand v (Spawn from to home number function graph) = nothing_at _ _
counts_stand v (Shift from to waiting home number function graph) = nothing_at _ _
counts_stand v (Back from to waiting graph) = nothing_at _ _
counts_stand v (Report from to number sent received) = later _ _ 2 _ (to_be_bytes w16 (length sent))
    (counts_bytes sent ++ counts_bytes received) refl refl (after_head v (Report from to number sent received))

count_part : (bytes : List ℕ) (at i n : ℕ) (counts : List ℕ) → StandsAt bytes at (counts_bytes counts) → slice_get counts i ≡ Some n
    → IsPart bytes (at + 4 * i) (to_be_bytes w32 n)
count_part bytes at i n counts s e =
    let here = item_here (to_be_bytes w32) bytes at counts i n s e in
    part_at bytes (at + 4 * i) (to_be_bytes w32 n) (omega arith)
    (subst (λ k. StandsAt bytes (at + k) (to_be_bytes w32 n)) (before_it (to_be_bytes w32) 4 (λ m. refl) counts i n e) here)

-- ---- what the accessors hand out

item_some : (v : FrameVersion) (x : Item) → 0 < length (item_bytes v x)
unfolding item_bytes
item_some v x = omega arith

node_some : (v : FrameVersion) (n : Node) → 0 < length (node_bytes v n)
unfolding node_bytes
node_some v n = omega arith

-- a text or a rail, behind its length
blob_part : (bytes : List ℕ) (at : ℕ) (blob : List ℕ) → StandsAt bytes at (blob_bytes blob) → IsPart bytes (at + 4) blob
unfolding blob_bytes
blob_part bytes at blob s = part_behind bytes at 4 (to_be_bytes w32 (length blob)) blob refl (omega arith) s

pub root_part : (v : FrameVersion) (f : Frame) (i : ℕ) (x : Item) → slice_get (graph_of f).roots i ≡ Some x
    → IsPart (spelling v f) (place_of_root v f i) (item_bytes v x)
root_part v f i x e = part_at (spelling v f) (place_of_root v f i) (item_bytes v x) (item_some v x)
    (item_here (item_bytes v) (spelling v f) (roots_from v f) (graph_of f).roots i x (graph_stands v f).roots e)

pub text_part : (v : FrameVersion) (f : Frame) (i : ℕ) (text : List ℕ) → slice_get (graph_of f).texts i ≡ Some text
    → IsPart (spelling v f) (place_of_text v f i) text
text_part v f i text e = blob_part (spelling v f) _ text (item_here blob_bytes (spelling v f) (texts_from v f) (graph_of f).texts i text
    (graph_stands v f).texts e)

pub rail_part : (v : FrameVersion) (f : Frame) (i : ℕ) (rail : List ℕ) → slice_get (graph_of f).rails i ≡ Some rail
    → IsPart (spelling v f) (place_of_rail v f i) rail
rail_part v f i rail e = blob_part (spelling v f) _ rail (item_here blob_bytes (spelling v f) (rails_from v f) (graph_of f).rails i rail
    (graph_stands v f).rails e)

pub node_part : (v : FrameVersion) (f : Frame) (i : ℕ) (n : Node) → slice_get (graph_of f).nodes i ≡ Some n
    → IsPart (spelling v f) (place_of_node v f i) (node_bytes v n)
node_part v f i n e = part_at (spelling v f) (place_of_node v f i) (node_bytes v n) (node_some v n)
    (item_here (node_bytes v) (spelling v f) (nodes_from v f) (graph_of f).nodes i n (graph_stands v f).nodes e)

pub sent_part : (v : FrameVersion) (f : Frame) (place n : ℕ) → slice_get (sent_of f) place ≡ Some n
    → IsPart (spelling v f) (place_of_sent v f place) (to_be_bytes w32 n)
sent_part v f place n e = count_part (spelling v f) (counts_from v f) place n (sent_of f)
    (narrow (spelling v f) (counts_from v f) (counts_bytes (sent_of f)) (counts_bytes (received_of f)) (counts_stand v f)) e

pub received_part : (v : FrameVersion) (f : Frame) (place n : ℕ) → slice_get (received_of f) place ≡ Some n
    → IsPart (spelling v f) (place_of_received v f place) (to_be_bytes w32 n)
received_part v f place n e =
    let long : 4 * length (sent_of f) ≡ length (counts_bytes (sent_of f)) = sym (length-items (to_be_bytes w32) 4 (λ m. refl) (sent_of f)) in
    let there = later (spelling v f) (counts_from v f) (4 * length (sent_of f)) (counts_from v f + 4 * length (sent_of f)) (counts_bytes (sent_of f))
    (counts_bytes (received_of f)) long refl (counts_stand v f) in
    count_part (spelling v f) (counts_from v f + 4 * length (sent_of f)) place n (received_of f) there e
