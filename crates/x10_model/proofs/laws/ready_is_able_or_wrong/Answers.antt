use Rattle.x10_model.proofs.Ready.{ready_is_able_or_wrong}
use Rattle.x10_model.proofs.laws.ready_is_able_or_wrong.Goals as goal

pub returns : goal.returns
returns c = ready_is_able_or_wrong
