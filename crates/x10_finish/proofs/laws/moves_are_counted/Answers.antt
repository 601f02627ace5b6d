use Rattle.x10_finish.proofs.Counted.{moves_are_counted}
use Rattle.x10_finish.proofs.laws.moves_are_counted.Goals as goal

pub returns : goal.returns
returns c = moves_are_counted
