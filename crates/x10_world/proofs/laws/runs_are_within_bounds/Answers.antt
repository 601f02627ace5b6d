use Rattle.x10_world.proofs.BudgetRuns.{runs_are_within_bounds}
use Rattle.x10_world.proofs.laws.runs_are_within_bounds.Goals as goal

pub returns : goal.returns
returns c = runs_are_within_bounds
