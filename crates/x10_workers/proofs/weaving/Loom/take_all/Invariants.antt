use Rattle.std.specs.Prelude.{◌≡◌, map, take}
use Rattle.x10_hall.specs.Halls.{told}
use Rattle.x10_workers.specs.Looms.{woven}
use Rattle.x10_workers.specs.Weaves.{TakesOffEach}
use Rattle.x10_workers.proofs.weaving.Loom.take_all.Given as goal

abbrev pub invariant-loop-at : goal.invariant-loop-at
invariant-loop-at l = (l.self.cursors ≡ l.fn.self.cursors) × TakesOffEach (woven l.fn.self).flying l.place (map told (take l.at l.frames))
    (woven l.self).flying
