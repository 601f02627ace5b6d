use Rattle.x10_finish.proofs.WorldLemmas.{stays_are_counted}
use Rattle.x10_finish.proofs.laws.stays_are_counted.Goals as goal

pub returns : goal.returns
returns c = stays_are_counted
