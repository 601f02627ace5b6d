use Rattle.x10_world.proofs.LinkEvents.{answered_after_event}
use Rattle.x10_world.proofs.laws.answered_after_event.Goals as goal

pub returns : goal.returns
returns c = answered_after_event
