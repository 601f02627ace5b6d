use Rattle.x10_world.proofs.RefusalLemmas.{none_is_refused}
use Rattle.x10_world.proofs.laws.none_is_refused.Goals as goal

pub returns : goal.returns
returns c = none_is_refused
