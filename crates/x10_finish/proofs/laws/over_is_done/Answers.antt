use Rattle.x10_finish.proofs.WorldLemmas.{over_is_done}
use Rattle.x10_finish.proofs.laws.over_is_done.Goals as goal

pub returns : goal.returns
returns c = over_is_done
