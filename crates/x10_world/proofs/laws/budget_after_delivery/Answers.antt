use Rattle.x10_world.proofs.BudgetDeliveries.{budget_after_delivery}
use Rattle.x10_world.proofs.laws.budget_after_delivery.Goals as goal

pub returns : goal.returns
returns c = budget_after_delivery
