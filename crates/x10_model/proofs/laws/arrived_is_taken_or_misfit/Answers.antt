use Rattle.x10_model.proofs.ArrivalDecided.{taken_or_misfit}
use Rattle.x10_model.proofs.laws.arrived_is_taken_or_misfit.Goals as goal

pub returns : goal.returns
returns c = taken_or_misfit
