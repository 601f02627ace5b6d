use Rattle.x10_world.proofs.DeliveryLemmas.{delivery_leads}
use Rattle.x10_world.proofs.laws.delivery_leads.Goals as goal

pub returns : goal.returns
returns c = delivery_leads
