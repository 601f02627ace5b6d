use Rattle.x10_finish.proofs.Listed.{over_is_quiet}
use Rattle.x10_finish.proofs.laws.over_is_quiet.Goals as goal

pub returns : goal.returns
returns c = over_is_quiet
