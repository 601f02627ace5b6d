use Rattle.x10_world.proofs.BudgetRuns.{budget_bounds}
use Rattle.x10_world.proofs.laws.budget_bounds.Goals as goal

pub returns : goal.returns
returns c = budget_bounds
