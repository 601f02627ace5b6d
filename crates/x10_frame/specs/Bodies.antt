-- Where the parts of a frame stand in its bytes.
use Rattle.std.specs.Prelude.{◌≡◌, ℕ, List, ◌++◌, length, Result, Ok, Err}
use Rattle.std.specs.List.{flat_map}
use Rattle.x10_model.specs.declared.version.FrameVersion.{FrameVersion}
use Rattle.x10_model.specs.Frames.{Graph, Frame, item_bytes, blob_bytes, node_bytes, counts_bytes}
use Rattle.x10_model.specs.ReadingFrames as reading
use Rattle.x10_model.specs.Offsets.{StandsAt, AreAt}
use Rattle.x10_frame.specs.declared.fault.FrameFault.{FrameFault}
use Rattle.x10_frame.specs.declared.body.Body.{Body}
use Rattle.x10_frame.specs.declared.head.Head.{Head}
use Rattle.x10_frame.specs.Faults.{named, IsFaultOrMemory}
use Rattle.x10_frame.specs.Heads.{head_of, graph_of, sent_of, received_of}

-- the parts of the graph stand there: the roots, so many, from one place on, and each text, rail and node at its own
pub record HasGraph (v : FrameVersion) (frame : List ℕ) (start count : ℕ)
    (texts rails nodes : List ℕ) (g : Graph) : Type 0 where
  pub count_is : length g.roots ≡ count
  pub roots_at : StandsAt frame start (flat_map (item_bytes v) g.roots)
  pub texts_at : AreAt blob_bytes frame texts g.texts
  pub rails_at : AreAt blob_bytes frame rails g.rails
  pub nodes_at : AreAt (node_bytes v) frame nodes g.nodes

-- what reading gives, with the places of its parts
pub record IsGraph (v : FrameVersion) (frame : List ℕ) (start count : ℕ)
    (texts rails nodes rest : List ℕ) (read : Result (Graph × List ℕ) reading.FrameFault) : Type 0
  where
    pub graph : Graph
    pub reads : read ≡ Ok (graph, rest)
    pub has : HasGraph v frame start count texts rails nodes graph

-- the places and the bytes after the graph are what reading gives, unless memory ran out
abbrev pub GivesGraph : {X : Type 0} → FrameVersion → List ℕ → (X → Body) → (X → List ℕ)
    → Result X FrameFault → Result (Graph × List ℕ) reading.FrameFault → Type 0
GivesGraph v frame body rest (Ok x) read =
    IsGraph v frame (body x).start (body x).roots (body x).texts.items (body x).rails.items
    (body x).nodes.items
    (rest x) read
GivesGraph v frame body rest (Err e) read = IsFaultOrMemory (named e) read

-- the parts of a frame stand there: those of its graph, or the counts of a report
pub record HasBody (v : FrameVersion) (frame : List ℕ) (start count : ℕ)
    (texts rails nodes : List ℕ) (f : Frame) : Type 0 where
  pub graph_at : HasGraph v frame start count texts rails nodes (graph_of f)
  pub counts_at : StandsAt frame start (counts_bytes (sent_of f) ++ counts_bytes (received_of f))

-- what reading gives, with the places of its parts
pub record IsBody (v : FrameVersion) (bytes : List ℕ) (head : Head) (start count : ℕ)
    (texts rails nodes rest : List ℕ)
    (read : Result (Frame × List ℕ) reading.FrameFault) : Type 0 where
  pub frame : Frame
  pub reads : read ≡ Ok (frame, rest)
  pub head_is : head_of frame ≡ head
  pub has : HasBody v bytes start count texts rails nodes frame

-- the places and the bytes after the frame are what reading gives, unless memory ran out
abbrev pub GivesBody : {X : Type 0} → FrameVersion → List ℕ → Head → (X → Body) → (X → List ℕ)
    → Result X FrameFault → Result (Frame × List ℕ) reading.FrameFault → Type 0
GivesBody v frame head body rest (Ok x) read =
    IsBody v frame head (body x).start (body x).roots (body x).texts.items (body x).rails.items
    (body x).nodes.items
    (rest x) read
GivesBody v frame head body rest (Err e) read = IsFaultOrMemory (named e) read
