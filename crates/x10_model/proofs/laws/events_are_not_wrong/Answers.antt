use Rattle.x10_model.proofs.Events.{happens_right}
use Rattle.x10_model.proofs.laws.events_are_not_wrong.Goals as goal

pub returns : goal.returns
returns c = happens_right
