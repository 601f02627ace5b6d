use Rattle.x10_finish.proofs.WorldLemmas.{reports_are_watched}
use Rattle.x10_finish.proofs.laws.reports_are_watched.Goals as goal

pub returns : goal.returns
returns c = reports_are_watched
