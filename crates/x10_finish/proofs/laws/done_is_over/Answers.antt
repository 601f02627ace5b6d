use Rattle.x10_finish.proofs.WorldLemmas.{done_is_over}
use Rattle.x10_finish.proofs.laws.done_is_over.Goals as goal

pub returns : goal.returns
returns c = done_is_over
