use Rattle.x10_finish.proofs.QuietClosings.{sound_opening}
use Rattle.x10_finish.proofs.Listed.{quiet_event_is_ideal}
use Rattle.x10_finish.proofs.laws.quiet_event_is_ideal.Goals as goal

pub returns : goal.returns
returns c = record { opening = sound_opening; event = quiet_event_is_ideal }
