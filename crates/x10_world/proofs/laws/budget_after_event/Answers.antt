use Rattle.x10_world.proofs.BudgetRuns.{budget_after_event}
use Rattle.x10_world.proofs.laws.budget_after_event.Goals as goal

pub returns : goal.returns
returns c = budget_after_event
