use Rattle.x10_world.proofs.LinkDeliveries.{answered_at_opening}
use Rattle.x10_world.proofs.laws.answered_at_opening.Goals as goal

pub returns : goal.returns
returns c = answered_at_opening
