use Rattle.x10_finish.proofs.WorldLemmas.{deliveries_are_watched}
use Rattle.x10_finish.proofs.laws.deliveries_are_watched.Goals as goal

pub returns : goal.returns
returns c = deliveries_are_watched
