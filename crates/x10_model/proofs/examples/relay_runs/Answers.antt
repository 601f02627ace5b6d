use Rattle.x10_model.proofs.Relayed.{relay_runs}
use Rattle.x10_model.proofs.examples.relay_runs.Goals as goal

pub returns : goal.returns
returns c = relay_runs
