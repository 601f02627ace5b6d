use Rattle.x10_kinds.proofs.KindLemmas.{Fits-refl, Fits-trans, Fits-antisym}
use Rattle.x10_kinds.proofs.laws.fitting_is_an_order.Goals as goal

pub returns-clause-reflexive : goal.returns-clause-reflexive
returns-clause-reflexive c = Fits-refl

pub returns-clause-transitive : goal.returns-clause-transitive
returns-clause-transitive c = Fits-trans

pub returns-clause-antisymmetric : goal.returns-clause-antisymmetric
returns-clause-antisymmetric c = Fits-antisym
