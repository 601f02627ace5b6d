use Rattle.x10_model.proofs.Worked.{each_group}
use Rattle.x10_model.proofs.examples.each_group_moves.Goals as goal

pub returns : goal.returns
returns c = each_group
