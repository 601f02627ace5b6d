use Rattle.x10_model.proofs.GoingOn.{logs_go_on}
use Rattle.x10_model.proofs.laws.logs_go_on.Goals as goal

pub returns : goal.returns
returns c = logs_go_on
