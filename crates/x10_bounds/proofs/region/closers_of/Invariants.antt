use Rattle.x10_bounds.specs.Regions.{AreClosersFrom}
use Rattle.x10_bounds.proofs.region.closers_of.Given as goal

abbrev pub invariant-loop-pc : goal.invariant-loop-pc
invariant-loop-pc l = AreClosersFrom l.code l.pc l.closers.items
