-- Where the parts of a frame stand in its spelling in each version.
use Rattle.std.specs.Prelude.{ℕ, ◌+◌, ◌*◌, length, take}
use Rattle.std.specs.List.{flat_map}
use Rattle.x10_model.specs.declared.version.FrameVersion.{FrameVersion}
use Rattle.x10_model.specs.declared.version.FrameVersion.TheVariants.{Narrow, Wide}
use Rattle.x10_model.specs.Frames.{Frame, item_bytes, blob_bytes, node_bytes}
use Rattle.x10_frame.specs.Heads.{head_of, graph_of, sent_of}
use Rattle.x10_frame.specs.Writing.{head_bytes}

-- how many bytes the four sizes of a graph take: two for the roots, and for the others as many as the version says
abbrev pub length_of_sizes : FrameVersion → ℕ
length_of_sizes Narrow = 8
length_of_sizes Wide = 14

-- where the roots begin: behind the head and the sizes
abbrev pub roots_from : FrameVersion → Frame → ℕ
roots_from v f = length (head_bytes v (head_of f)) + length_of_sizes v

-- where the texts, the rails and the nodes begin
abbrev pub texts_from : FrameVersion → Frame → ℕ
texts_from v f = roots_from v f + length (flat_map (item_bytes v) (graph_of f).roots)

abbrev pub rails_from : FrameVersion → Frame → ℕ
rails_from v f = texts_from v f + length (flat_map blob_bytes (graph_of f).texts)

abbrev pub nodes_from : FrameVersion → Frame → ℕ
nodes_from v f = rails_from v f + length (flat_map blob_bytes (graph_of f).rails)

-- where the bytes of root i begin
abbrev pub place_of_root : FrameVersion → Frame → ℕ → ℕ
place_of_root v f i = roots_from v f + length (flat_map (item_bytes v) (take i (graph_of f).roots))

-- where the bytes of text i begin: behind its length, in four bytes
abbrev pub place_of_text : FrameVersion → Frame → ℕ → ℕ
place_of_text v f i = texts_from v f + length (flat_map blob_bytes (take i (graph_of f).texts)) + 4

-- where the bytes of rail i begin: behind its length, in four bytes
abbrev pub place_of_rail : FrameVersion → Frame → ℕ → ℕ
place_of_rail v f i = rails_from v f + length (flat_map blob_bytes (take i (graph_of f).rails)) + 4

-- where the bytes of node i begin: its class, how many fields it has, and these
abbrev pub place_of_node : FrameVersion → Frame → ℕ → ℕ
place_of_node v f i = nodes_from v f + length (flat_map (node_bytes v) (take i (graph_of f).nodes))

-- where the counts of a report begin: behind its head and the number of places, in two bytes
abbrev pub counts_from : FrameVersion → Frame → ℕ
counts_from v f = length (head_bytes v (head_of f)) + 2

-- where the four bytes begin that say how many were sent to a place
abbrev pub place_of_sent : FrameVersion → Frame → ℕ → ℕ
place_of_sent v f place = counts_from v f + 4 * place

-- and how many were received from it: behind all of those
abbrev pub place_of_received : FrameVersion → Frame → ℕ → ℕ
place_of_received v f place = counts_from v f + 4 * length (sent_of f) + 4 * place
