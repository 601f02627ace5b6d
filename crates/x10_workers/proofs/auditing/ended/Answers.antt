use Rattle.x10_workers.proofs.auditing.ended.Goals as goal

pub returns-in-Ok-clause-over : goal.returns-in-Ok-clause-over
returns-in-Ok-clause-over c w stand = c.closed.ensures.ended w stand c.if-not-closed.false
