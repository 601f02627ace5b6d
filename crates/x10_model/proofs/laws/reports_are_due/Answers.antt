use Rattle.x10_model.proofs.GoingOn.{reports_are_due}
use Rattle.x10_model.proofs.laws.reports_are_due.Goals as goal

pub returns : goal.returns
returns c = reports_are_due
