use Rattle.x10_finish.proofs.Counted.{opening_is_counted}
use Rattle.x10_finish.proofs.laws.opening_is_counted.Goals as goal

pub returns : goal.returns
returns c = opening_is_counted
