use Rattle.x10_world.proofs.BudgetMoves.{budget_after_move}
use Rattle.x10_world.proofs.laws.budget_after_move.Goals as goal

pub returns : goal.returns
returns c = budget_after_move
