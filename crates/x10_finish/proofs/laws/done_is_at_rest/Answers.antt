use Rattle.x10_finish.proofs.HomeConcludes.{done_is_at_rest}
use Rattle.x10_finish.proofs.laws.done_is_at_rest.Goals as goal

pub returns : goal.returns
returns c = done_is_at_rest
