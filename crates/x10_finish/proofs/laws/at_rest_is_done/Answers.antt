use Rattle.x10_finish.proofs.HomeConcludes.{at_rest_is_done}
use Rattle.x10_finish.proofs.laws.at_rest_is_done.Goals as goal

pub returns : goal.returns
returns c = at_rest_is_done
