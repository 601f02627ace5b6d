use Rattle.x10_model.proofs.Refusals.{shared_arrives}
use Rattle.x10_model.proofs.examples.shared_arrives.Goals as goal

pub returns : goal.returns
returns c = shared_arrives
