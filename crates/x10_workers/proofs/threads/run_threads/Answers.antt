use Rattle.x10_workers.proofs.threads.run_threads.Goals as goal

pub returns-in-Ok-clause-told : goal.returns-in-Ok-clause-told
returns-in-Ok-clause-told g c = c.finished.ensures.told c.args.places c.args.turns

pub returns-in-Ok-clause-caused : goal.returns-in-Ok-clause-caused
returns-in-Ok-clause-caused g c = c.finished.ensures.caused c.args.verified.now c.args.places
