use Rattle.x10_model.proofs.Finishes.{IsWithin-trans}
use Rattle.x10_model.proofs.laws.enclosing_is_transitive.Goals as goal

pub returns : goal.returns
returns c = IsWithin-trans
