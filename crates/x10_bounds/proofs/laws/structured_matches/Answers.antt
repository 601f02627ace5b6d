use Rattle.x10_bounds.proofs.OpenFinishes as finishes
use Rattle.x10_bounds.proofs.laws.structured_matches.Goals as goal

pub returns : goal.returns
returns c = finishes.structured_matches
