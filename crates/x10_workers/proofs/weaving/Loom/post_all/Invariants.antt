use Rattle.std.specs.Prelude.{◌≡◌, ◌++◌, map, take}
use Rattle.x10_hall.specs.Halls.{frame_of}
use Rattle.x10_workers.specs.Looms.{woven}
use Rattle.x10_workers.specs.Weaves.{all_flying}
use Rattle.x10_workers.proofs.weaving.Loom.post_all.Given as goal

abbrev pub invariant-loop-at : goal.invariant-loop-at
invariant-loop-at l = (l.self.cursors ≡ l.fn.self.cursors) × ((woven l.self).flying
    ≡ (woven l.fn.self).flying ++ all_flying (map frame_of (take l.at l.frames)))
