use Rattle.std.proofs.Common.{ℕ, ◌-◌}
use Rattle.x10_model.specs.Frames.{blob_bytes}
use Rattle.x10_model.specs.Readers.{times}
use Rattle.x10_model.specs.ReadingFrames.{rail_at}
use Rattle.x10_bytes.proofs.TableLoops.{Placed}
use Rattle.x10_frame.proofs.tables.rail_table.Given as goal

abbrev pub invariant-loop : goal.invariant-loop
invariant-loop l = Placed (λ (_ : ℕ). rail_at) (λ s _. s) blob_bytes l.frame (l.count - l.counter) 0 0 l.rest l.table.items
    (times l.count rail_at l.bytes)
