use Rattle.x10_bounds.proofs.Falls as falls
use Rattle.x10_bounds.proofs.laws.structured_falls.Goals as goal

pub returns : goal.returns
returns c = falls.structured_falls
