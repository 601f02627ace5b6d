-- The turns of nodes.
use Rattle.std.proofs.Common.{◌≡◌, ℕ, ◌+◌, ◌-◌, ◌≤◌, List, Result, ap, ◌∙◌, add-one}
use Rattle.x10_model.specs.Frames.{Node, Tables, Turn, used_after, turn, next_turn}
use Rattle.x10_model.specs.Readers.{Reader}
use Rattle.x10_model.specs.ReadingFrames.{FrameFault}
use Rattle.x10_bytes.proofs.Loops.{along_end}
use Rattle.x10_bytes.proofs.TableLoops.{Placed}
use Rattle.x10_frame.specs.NodeTables.{IsNodeTable}

pub next_is : (i : ℕ) (used after : Tables) (n : Node) → after ≡ used_after used n.fields → turn (i + 1) after ≡ next_turn (turn i used) n
next_is i used after n e = ap (λ (u : Tables). turn (i + 1) u) e ∙ ap (λ (k : ℕ). turn k (used_after used n.fields)) (add-one i)

pub placed_nodes : (item : Turn → Reader FrameFault Node) (spell : Node → List ℕ) (frame : List ℕ) (n i : ℕ) (used last : Tables)
    (bytes table : List ℕ) (all : Result (List Node × List ℕ) FrameFault)
    → n ≤ i → Placed item next_turn spell frame (n - i) (turn 0 used) (turn i last) bytes table all
    → IsNodeTable used last spell frame table bytes all
placed_nodes item spell frame n i used last bytes table all le p =
    record {
      known = record {
        items = p.along.front;
        reads = along_end item next_turn n i (turn 0 used) (turn i last) bytes all le p.along;
        places = p.places;
        ends = p.ends;
      };
      state = ap (λ (t : Turn). t.used) p.along.state;
    }
