use Rattle.x10_model.proofs.Refusals.{each_message_misfits}
use Rattle.x10_model.proofs.examples.each_message_misfits.Goals as goal

pub returns : goal.returns
returns c = each_message_misfits
