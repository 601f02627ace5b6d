use Rattle.x10_model.proofs.NotWrong.{moves_not_wrong}
use Rattle.x10_model.proofs.laws.moves_are_not_wrong.Goals as goal

pub returns : goal.returns
returns c = moves_not_wrong
