use Rattle.std.proofs.Common.{None, ap, subst}
use Rattle.x10_flights.specs.Flights.{flies_to, IsNext}
use Rattle.x10_world.specs.Living.{keys_at}
use Rattle.x10_world.specs.Rounds.{RoundsState}
use Rattle.x10_world.proofs.TurnLemmas.{by_steps, step_next, step_over}
use Rattle.x10_world.proofs.rounds.Rounds.first_in_turn.Goals as goal

pub returns-clause-some : goal.returns-clause-some
returns-clause-some c =
    let silent = subst (λ n. IsNext (flies_to c.args.world.now.flights.flying n) 0 None)
    (ap (λ (t : RoundsState). t.place) c.self.view_is) c.in_default.ensures in
    let left = by_steps c.args.world.now c.args.self.now c.begin_steps.new.self _ c.step.result c.requires silent c.in_ok-begin_steps.ensures.ok
    c.step.ensures in
    step_next c.args.world.now c.args.self.now (keys_at c.args.world.now.places c.args.self.now.place) c.step.result _ left.0 left.1

pub returns-clause-none : goal.returns-clause-none
returns-clause-none c =
    let silent = subst (λ n. IsNext (flies_to c.args.world.now.flights.flying n) 0 None)
    (ap (λ (t : RoundsState). t.place) c.self.view_is) c.in_default.ensures in
    let left = by_steps c.args.world.now c.args.self.now c.begin_steps.new.self _ c.step.result c.requires silent c.in_ok-begin_steps.ensures.ok
    c.step.ensures in
    step_over c.args.world.now c.args.self.now (keys_at c.args.world.now.places c.args.self.now.place) c.step.result _ left.0 left.1
