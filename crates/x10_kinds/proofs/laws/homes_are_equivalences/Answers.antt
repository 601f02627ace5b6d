use Rattle.x10_kinds.proofs.Equivalences.{equations_is}
use Rattle.x10_kinds.proofs.laws.homes_are_equivalences.Goals as goal

pub returns : goal.returns
returns c = equations_is
