use Rattle.x10_finish.proofs.CountLemmas.{done_is_quiet}
use Rattle.x10_finish.proofs.laws.done_is_quiet.Goals as goal

pub returns : goal.returns
returns c = done_is_quiet
