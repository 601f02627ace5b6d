use Rattle.std.specs.Prelude.{take}
use Rattle.x10_world.specs.Endings.{lines_in}
use Rattle.x10_workers.specs.Reports.{AreLinesBy}
use Rattle.x10_workers.proofs.lines.lines_by_place.Given as goal

abbrev pub invariant-loop-at : goal.invariant-loop-at
invariant-loop-at l = AreLinesBy l.places (take l.at l.log.items) (lines_in l.lists.items)
