use Rattle.std.proofs.Common.{◌-◌}
use Rattle.x10_model.specs.Frames.{uses}
use Rattle.x10_model.specs.Readers.{many}
use Rattle.x10_model.specs.ReadingFrames.{item_at}
use Rattle.x10_frame.specs.Items.{tables_in}
use Rattle.x10_bytes.proofs.Loops.{Along}
use Rattle.x10_frame.proofs.parts.past_items.Given as goal

abbrev pub invariant-loop : goal.invariant-loop
invariant-loop l = Along (item_at l.version l.places (tables_in l.all)) uses (l.count - l.counter) (tables_in l.used) (tables_in l.met) l.rest
    (many (item_at l.version l.places (tables_in l.all)) uses l.count (tables_in l.used) l.bytes)
