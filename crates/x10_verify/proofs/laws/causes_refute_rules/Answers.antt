use Rattle.x10_verify.proofs.Found as found
use Rattle.x10_verify.proofs.laws.causes_refute_rules.Goals as goal

pub returns : goal.returns
returns c = found.causes_refute_rules
