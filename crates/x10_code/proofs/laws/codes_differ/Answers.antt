use Rattle.x10_code.proofs.Operations.{code_of_differs}
use Rattle.x10_code.proofs.laws.codes_differ.Goals as goal

pub returns : goal.returns
returns c = record { law = code_of_differs }
