use Rattle.x10_world.proofs.LinkDeliveries.{answered_after_delivery}
use Rattle.x10_world.proofs.laws.answered_after_delivery.Goals as goal

pub returns : goal.returns
returns c = answered_after_delivery
