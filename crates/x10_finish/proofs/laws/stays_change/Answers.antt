use Rattle.x10_finish.proofs.Stays.{stays_change}
use Rattle.x10_finish.proofs.laws.stays_change.Goals as goal

pub returns : goal.returns
returns c = stays_change
