use Rattle.x10_model.proofs.Worked.{cycle_is_copied}
use Rattle.x10_model.proofs.examples.cycle_is_copied.Goals as goal

pub returns : goal.returns
returns c = cycle_is_copied
