use Rattle.x10_finish.proofs.QuietClosings.{quiet_is_ideal}
use Rattle.x10_finish.proofs.laws.quiet_is_ideal.Goals as goal

pub returns : goal.returns
returns c = quiet_is_ideal
