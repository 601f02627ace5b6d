use Rattle.x10_verify.proofs.Found as found
use Rattle.x10_verify.proofs.laws.found_is_without.Goals as goal

pub returns : goal.returns
returns c = found.found_is_without
