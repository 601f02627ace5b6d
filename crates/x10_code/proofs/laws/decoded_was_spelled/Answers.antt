use Rattle.x10_code.proofs.Instructions.{decoded_takes}
use Rattle.x10_code.proofs.laws.decoded_was_spelled.Goals as goal

pub returns : goal.returns
returns c = record { law = decoded_takes }
