use Rattle.x10_finish.proofs.Counted.{deliveries_are_counted}
use Rattle.x10_finish.proofs.laws.deliveries_are_counted.Goals as goal

pub returns : goal.returns
returns c = deliveries_are_counted
