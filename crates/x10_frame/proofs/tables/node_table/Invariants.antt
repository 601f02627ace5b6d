use Rattle.std.proofs.Common.{◌-◌}
use Rattle.x10_model.specs.Frames.{node_bytes, next_turn, turn}
use Rattle.x10_model.specs.Readers.{many}
use Rattle.x10_model.specs.ReadingFrames.{node_at}
use Rattle.x10_frame.specs.Items.{tables_in}
use Rattle.x10_bytes.proofs.TableLoops.{Placed}
use Rattle.x10_frame.proofs.tables.node_table.Given as goal

abbrev pub invariant-loop-number : goal.invariant-loop-number
invariant-loop-number l = Placed (node_at l.version l.places (tables_in l.all)) next_turn (node_bytes l.version) l.frame (l.count - l.number)
    (turn 0 (tables_in l.used)) (turn l.number (tables_in l.met)) l.rest l.table.items
    (many (node_at l.version l.places (tables_in l.all)) next_turn l.count (turn 0 (tables_in l.used)) l.bytes)
