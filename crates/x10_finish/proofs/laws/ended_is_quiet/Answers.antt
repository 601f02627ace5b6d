use Rattle.x10_finish.proofs.QuietClosings.{ended_is_quiet}
use Rattle.x10_finish.proofs.laws.ended_is_quiet.Goals as goal

pub returns : goal.returns
returns c = ended_is_quiet
