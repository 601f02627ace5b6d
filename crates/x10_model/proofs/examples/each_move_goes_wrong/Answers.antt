use Rattle.x10_model.proofs.Refusals.{each_move_goes_wrong}
use Rattle.x10_model.proofs.examples.each_move_goes_wrong.Goals as goal

pub returns : goal.returns
returns c = each_move_goes_wrong
