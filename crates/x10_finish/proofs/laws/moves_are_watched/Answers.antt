use Rattle.x10_finish.proofs.WorldLemmas.{moves_are_watched}
use Rattle.x10_finish.proofs.laws.moves_are_watched.Goals as goal

pub returns : goal.returns
returns c = moves_are_watched
