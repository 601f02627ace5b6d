use Rattle.x10_hall.proofs.Alike.{AreAlike}
use Rattle.x10_hall.proofs.row.give_up.Given as goal

abbrev pub invariant-loop-frame : goal.invariant-loop-frame
invariant-loop-frame l = AreAlike l.initial.rows.items l.rows.items
