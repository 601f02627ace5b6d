use Rattle.x10_world.proofs.TurnLemmas.{none_over}
use Rattle.x10_world.proofs.rounds.Rounds.find.Goals as goal

pub returns-clause-none : goal.returns-clause-none
returns-clause-none c = none_over c.args.world.now c.begin_turn.new.self c.in_turn-2.new.self _ c.in-Some-busy_after.place c.in_turn-2.result
    c.begin_turn.ensures c.in-Some-busy_after.ensures.some c.in_turn-2.ensures.none
