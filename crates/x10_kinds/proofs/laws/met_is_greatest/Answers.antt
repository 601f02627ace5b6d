use Rattle.x10_kinds.proofs.Equivalences.{met_is, met_below, met_greatest}
use Rattle.x10_kinds.proofs.laws.met_is_greatest.Goals as goal

pub returns-clause-equivalence : goal.returns-clause-equivalence
returns-clause-equivalence c = met_is

pub returns-clause-below : goal.returns-clause-below
returns-clause-below c = met_below

pub returns-clause-greatest : goal.returns-clause-greatest
returns-clause-greatest c = met_greatest
