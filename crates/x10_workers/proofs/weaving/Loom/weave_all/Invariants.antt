use Rattle.std.specs.Prelude.{take}
use Rattle.x10_workers.specs.Looms.{woven}
use Rattle.x10_workers.specs.Weaves.{WeavesAll}
use Rattle.x10_workers.proofs.weaving.Loom.weave_all.Given as goal

abbrev pub invariant-loop-at : goal.invariant-loop-at
invariant-loop-at l = WeavesAll l.trails (woven l.fn.self) (take l.at l.log.items) (woven l.self)
