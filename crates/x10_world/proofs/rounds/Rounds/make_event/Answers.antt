use Rattle.x10_world.proofs.RunCounts.{err_is}
use Rattle.x10_world.proofs.rounds.Rounds.make_event.Goals as goal

pub returns-in_err-moved-clause-made : goal.returns-in_err-moved-clause-made
returns-in_err-moved-clause-made c = err_is c.from_residual-in_err-moved.result c.in_err-moved.field-0.0 _ _ c.from_residual-in_err-moved.ensures.1
    (c.in_err-moved.ensures.cut c.args.left)
