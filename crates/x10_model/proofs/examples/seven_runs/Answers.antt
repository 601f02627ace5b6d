use Rattle.x10_model.proofs.Worked.{seven_runs}
use Rattle.x10_model.proofs.examples.seven_runs.Goals as goal

pub returns : goal.returns
returns c = seven_runs
