use Rattle.x10_kinds.proofs.Equivalences.{joined_keeps, joined_equates, joined_is, joined_within}
use Rattle.x10_kinds.proofs.laws.join_is_least.Goals as goal

pub returns-clause-keeps : goal.returns-clause-keeps
returns-clause-keeps c = joined_keeps

pub returns-clause-equates : goal.returns-clause-equates
returns-clause-equates c = joined_equates

pub returns-clause-equivalence : goal.returns-clause-equivalence
returns-clause-equivalence c = joined_is

pub returns-clause-least : goal.returns-clause-least
returns-clause-least c = joined_within
