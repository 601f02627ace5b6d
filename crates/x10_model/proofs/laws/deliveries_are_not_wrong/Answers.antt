use Rattle.x10_model.proofs.Ready.{received_fits}
use Rattle.x10_model.proofs.laws.deliveries_are_not_wrong.Goals as goal

pub returns : goal.returns
returns c = received_fits
