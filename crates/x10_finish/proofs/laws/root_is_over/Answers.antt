use Rattle.x10_finish.proofs.Rooted.{root_is_over}
use Rattle.x10_finish.proofs.laws.root_is_over.Goals as goal

pub returns : goal.returns
returns c = root_is_over
