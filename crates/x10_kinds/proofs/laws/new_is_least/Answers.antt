use Rattle.x10_kinds.proofs.Equivalences.{alone_within}
use Rattle.x10_kinds.proofs.laws.new_is_least.Goals as goal

pub returns : goal.returns
returns c = alone_within
