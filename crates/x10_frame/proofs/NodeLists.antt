-- The objects of a frame, from where each begins in its bytes.
use Rattle.std.proofs.Common.{◌≡◌, ℕ, ◌^◌, ◌<◌, List, [], ◌∷◌, refl, map}
use Rattle.std.specs.List.{AllByRecursion}
use Rattle.x10_model.specs.declared.version.FrameVersion.{FrameVersion}
use Rattle.x10_model.specs.Frames.{Node, Frame, Tables, tables_of, Turn, turn, next_turn, none, used_after, FitsNode, node_bytes}
use Rattle.x10_model.specs.Readers.{FitsEach}
use Rattle.x10_model.specs.Offsets.{AreAt}
use Rattle.x10_model.proofs.ItemLaws.{Few}
use Rattle.x10_frame.specs.declared.head.Head.{Head}
use Rattle.x10_frame.specs.Heads.{graph_of}
use Rattle.x10_frame.specs.Nodes.{node_from, HasNode}
use Rattle.x10_frame.specs.Views.{frame_in, IsView}
use Rattle.x10_frame.proofs.Shows.{shows, graph_fits, few_of, IsNodeAt, node_at}

-- the nodes of the list begin there
pub record AreNodes (v : FrameVersion) (places : ℕ) (bytes table : List ℕ) (ns : List Node) : Type 0 where
  pub are : map (node_from v places bytes) table ≡ ns
  pub each : AllByRecursion (HasNode v places bytes) table

node_is : (v : FrameVersion) (places : ℕ) (bytes : List ℕ) (at : ℕ) (n : Node) → IsNodeAt v bytes at places n → node_from v places bytes at ≡ n
node_is v places bytes at n here = rw (here.class, here.fields) refl

pub nodes_at : (v : FrameVersion) (places : ℕ) (bytes table : List ℕ) (all : Tables) (t : Turn) (ns : List Node) → places < 2 ^ 16 → Few v all
    → FitsEach (FitsNode places all) next_turn t ns → AreAt (node_bytes v) bytes table ns → AreNodes v places bytes table ns
nodes_at v places bytes [] all t [] small few fit stand = record { are = refl; each = tt }
nodes_at v places bytes (at ∷ table) all t (n ∷ ns) small few fit stand =
    let here = node_at v bytes at places all t n small few fit.0 stand.0 in
    let later = nodes_at v places bytes table all (next_turn t n) ns small few fit.1 stand.1 in
    record {
      are = rw (node_is v places bytes at n here, later.are) refl;
      each = (record { room = here.room; there = here.there; few = rw here.fields fit.0.count }, later.each);
    }
nodes_at v places bytes [] all t (n ∷ ns) small few fit stand = absurd stand
nodes_at v places bytes (at ∷ table) all t [] small few fit stand = absurd stand

-- those of the frame that a view shows
pub nodes_in : (v : FrameVersion) (bytes : List ℕ) (places : ℕ) (head : Head) (start count : ℕ) (texts rails table : List ℕ) (f : Frame)
    → IsView v bytes places head start count texts rails table → frame_in places bytes ≡ f
    → AreNodes v places bytes table (graph_of f).nodes
nodes_in v bytes places head start count texts rails table f shown e =
    let s = shows v bytes places head start count texts rails table f shown e in
    let fit = graph_fits v places f s.fits in
    nodes_at v places bytes table (tables_of (graph_of f)) (turn 0 (used_after none (graph_of f).roots)) (graph_of f).nodes s.few
    (few_of v places (graph_of f) fit) fit.nodes.1 s.has.graph_at.nodes_at
