-- The objects of a frame, from where each begins in its bytes.
use Rattle.std.specs.Prelude.{ℕ, ◌+◌, ◌≤◌, List, length, drop, slice_index, slice_range}
use Rattle.std.specs.Int.{w16, from_be_bytes}
use Rattle.x10_model.specs.declared.version.FrameVersion.{FrameVersion}
use Rattle.x10_model.specs.Frames.{Node}
use Rattle.x10_frame.specs.Items.{items_in, HasItems}

-- the object that begins at a position
abbrev pub node_from : FrameVersion → (places : ℕ) → List ℕ → (at : ℕ) → Node
node_from v places bytes at = record {
  class = from_be_bytes w16 (slice_range bytes at (at + 2));
  fields = items_in v places (slice_index bytes (at + 2)) (drop (at + 3) bytes);
}

-- an object begins there, and has at most 16 fields
pub record HasNode (v : FrameVersion) (places : ℕ) (bytes : List ℕ) (at : ℕ) : Type 0 where
  pub room : at + 3 ≤ length bytes
  pub there : HasItems v places (slice_index bytes (at + 2)) (drop (at + 3) bytes)
  pub few : length (node_from v places bytes at).fields ≤ 16
