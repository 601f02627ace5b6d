use Rattle.x10_world.proofs.world.World.at_limit.Goals as goal

pub returns-then-closed-clause-ended : goal.returns-then-closed-clause-ended
returns-then-closed-clause-ended c = record { over = λ w stand. c.closed.ensures.ended w stand c.if-closed.true }
