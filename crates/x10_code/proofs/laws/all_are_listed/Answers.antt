use Rattle.x10_code.proofs.Operations.{all_operations}
use Rattle.x10_code.proofs.laws.all_are_listed.Goals as goal

pub returns : goal.returns
returns c = record { law = all_operations }
