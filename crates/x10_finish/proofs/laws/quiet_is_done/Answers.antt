use Rattle.x10_finish.proofs.CountLemmas.{quiet_is_done}
use Rattle.x10_finish.proofs.laws.quiet_is_done.Goals as goal

pub returns : goal.returns
returns c = quiet_is_done
