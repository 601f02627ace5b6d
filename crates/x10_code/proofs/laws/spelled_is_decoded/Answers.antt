use Rattle.x10_code.proofs.Instructions.{decoded_again}
use Rattle.x10_code.proofs.laws.spelled_is_decoded.Goals as goal

pub returns : goal.returns
returns c = record { law = decoded_again }
