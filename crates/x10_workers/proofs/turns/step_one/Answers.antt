use Rattle.std.proofs.lemmas.Result.{err_from_is_err_and}
use Rattle.x10_workers.proofs.turns.step_one.Goals as goal

pub returns-in_err-event-clause-halted : goal.returns-in_err-event-clause-halted
returns-in_err-event-clause-halted c =
    let p = err_from_is_err_and c.from_residual.result c.from_residual.ensures.1 in
    rw (p.1, p.2) (c.event.new.self, c.in_err-event.ensures.hindered c.requires)
