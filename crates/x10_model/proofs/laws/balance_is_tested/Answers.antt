use Rattle.x10_model.proofs.Balance.{balance_is_tested}
use Rattle.x10_model.proofs.laws.balance_is_tested.Goals as goal

pub returns : goal.returns
returns c = balance_is_tested
