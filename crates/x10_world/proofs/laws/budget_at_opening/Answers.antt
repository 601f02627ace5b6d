use Rattle.x10_world.proofs.BudgetRuns.{budget_at_opening}
use Rattle.x10_world.proofs.laws.budget_at_opening.Goals as goal

pub returns : goal.returns
returns c = budget_at_opening
