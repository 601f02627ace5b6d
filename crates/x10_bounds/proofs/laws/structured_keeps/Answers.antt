use Rattle.x10_bounds.proofs.AtomicRegions as regions
use Rattle.x10_bounds.proofs.laws.structured_keeps.Goals as goal

pub returns : goal.returns
returns c = regions.structured_keeps
