use Rattle.x10_finish.proofs.Listed.{stays_are_listed}
use Rattle.x10_finish.proofs.laws.stays_are_listed.Goals as goal

pub returns : goal.returns
returns c = stays_are_listed
