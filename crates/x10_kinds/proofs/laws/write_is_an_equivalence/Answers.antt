use Rattle.x10_kinds.proofs.Equivalences.{written-Some_is, written-None_is}
use Rattle.x10_kinds.proofs.laws.write_is_an_equivalence.Goals as goal

pub returns-clause-term : goal.returns-clause-term
returns-clause-term c = written-Some_is

pub returns-clause-any_place : goal.returns-clause-any_place
returns-clause-any_place c = written-None_is
