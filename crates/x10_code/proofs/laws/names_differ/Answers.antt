use Rattle.x10_code.proofs.Operations.{name_of_differs}
use Rattle.x10_code.proofs.laws.names_differ.Goals as goal

pub returns : goal.returns
returns c = record { law = name_of_differs }
