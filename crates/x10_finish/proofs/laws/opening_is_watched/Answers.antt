use Rattle.x10_finish.proofs.WorldLemmas.{opening_is_watched}
use Rattle.x10_finish.proofs.laws.opening_is_watched.Goals as goal

pub returns : goal.returns
returns c = opening_is_watched
