use Rattle.x10_finish.proofs.WorldLemmas.{ended_is_done}
use Rattle.x10_finish.proofs.laws.ended_is_done.Goals as goal

pub returns : goal.returns
returns c = ended_is_done
