use Rattle.x10_world.proofs.WaitLemmas.{ended_is_done_here}
use Rattle.x10_world.proofs.laws.ended_is_done_here.Goals as goal

pub returns : goal.returns
returns c = ended_is_done_here
