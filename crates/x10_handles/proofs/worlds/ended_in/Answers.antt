use Rattle.std.proofs.Common.{subst}
use Rattle.x10_handles.specs.Worlds.{IsEnded}
use Rattle.x10_handles.proofs.worlds.ended_in.Goals as goal

pub returns-clause-ended : goal.returns-clause-ended
returns-clause-ended c = subst (λ x. IsEnded x c.closed.result) c.world.ensures.world
    (record { value = c.closed.ensures.value; ended = c.closed.ensures.ended; over = c.closed.ensures.over })
