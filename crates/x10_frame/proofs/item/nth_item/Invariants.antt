use Rattle.std.proofs.Common.{◌-◌}
use Rattle.x10_frame.specs.Items.{items_in}
use Rattle.x10_frame.proofs.ReadAgain.{Left}
use Rattle.x10_frame.proofs.item.nth_item.Given as goal

abbrev pub invariant-loop : goal.invariant-loop
invariant-loop l = Left l.version l.places (l.count - l.counter) l.counter l.rest (items_in l.version l.places l.count l.bytes)
