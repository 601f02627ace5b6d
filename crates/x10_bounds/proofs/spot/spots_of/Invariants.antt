use Rattle.x10_bounds.specs.Spots.{AreSpotsTo}
use Rattle.x10_bounds.proofs.spot.spots_of.Given as goal

abbrev pub invariant-loop-pc : goal.invariant-loop-pc
invariant-loop-pc l = AreSpotsTo l.code l.pc l.spots.items
