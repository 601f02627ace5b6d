-- The nodes of a frame: where they stand in its bytes, and what was used after them.
use Rattle.std.specs.Prelude.{◌≡◌, ℕ, List, Result, Ok, Err}
use Rattle.x10_model.specs.Frames.{Node, Tables, used_after, turn, next_turn}
use Rattle.x10_model.specs.Readers.{after_all}
use Rattle.x10_model.specs.ReadingFrames as reading
use Rattle.x10_bytes.specs.Tables.{IsTable}
use Rattle.x10_frame.specs.declared.fault.FrameFault.{FrameFault}
use Rattle.x10_frame.specs.Faults.{named, IsFault, IsFaultOrMemory}

-- a table of nodes, with what was used once all had their turn
pub record IsNodeTable (used last : Tables) (spell : Node → List ℕ) (frame table rest : List ℕ)
    (read : Result (List Node × List ℕ) reading.FrameFault) : Type 0 where
  pub known : IsTable spell frame table rest read
  pub state : last ≡ (after_all next_turn (turn 0 used) known.items).used

abbrev pub GivesNodes : {X : Type 0} → Tables → (Node → List ℕ) → List ℕ → (X → List ℕ)
    → (X → Tables) → (X → List ℕ) → Result X FrameFault
    → Result (List Node × List ℕ) reading.FrameFault → Type 0
GivesNodes used spell frame table last rest (Ok x) read =
    IsNodeTable used (last x) spell frame (table x) (rest x) read
GivesNodes used spell frame table last rest (Err e) read = IsFaultOrMemory (named e) read

-- a node, what was used after it, and the bytes after it
pub record IsNode (used last : Tables) (rest : List ℕ)
    (read : Result (Node × List ℕ) reading.FrameFault) : Type 0 where
  pub node : Node
  pub reads : read ≡ Ok (node, rest)
  pub state : last ≡ used_after used node.fields

abbrev pub PassesNode : {X : Type 0} → Tables → (X → Tables) → (X → List ℕ) → Result X FrameFault
    → Result (Node × List ℕ) reading.FrameFault → Type 0
PassesNode used last rest (Ok x) read = IsNode used (last x) (rest x) read
PassesNode used last rest (Err e) read = IsFault (named e) read
