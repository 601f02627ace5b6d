use Rattle.x10_model.proofs.GoingOn.{totals_go_on}
use Rattle.x10_model.proofs.laws.totals_go_on.Goals as goal

pub returns : goal.returns
returns c = totals_go_on
