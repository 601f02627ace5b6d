use Rattle.x10_kinds.proofs.Equivalences.{joined-more, written-Some-more, written-None-more}
use Rattle.x10_kinds.proofs.laws.operations_are_monotone.Goals as goal

pub returns-clause-join : goal.returns-clause-join
returns-clause-join c = joined-more

pub returns-clause-write_of_a_term : goal.returns-clause-write_of_a_term
returns-clause-write_of_a_term c = written-Some-more

pub returns-clause-write_of_any_place : goal.returns-clause-write_of_any_place
returns-clause-write_of_any_place c = written-None-more
