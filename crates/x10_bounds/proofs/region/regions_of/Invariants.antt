use Rattle.std.proofs.Common.{◌≡◌, ◌++◌, drop}
use Rattle.x10_bounds.specs.Regions.{regions_from, regions_of}
use Rattle.x10_bounds.proofs.region.regions_of.Given as goal

abbrev pub invariant-loop-pc : goal.invariant-loop-pc
invariant-loop-pc l = l.found.items ++ regions_from l.code l.pc (drop l.pc l.code) ≡ regions_of l.code
