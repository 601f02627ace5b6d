use Rattle.x10_workers.specs.Workings.{WorksOn}
use Rattle.x10_workers.proofs.working.attend.Given as goal

abbrev pub invariant-loop : goal.invariant-loop
invariant-loop g l = WorksOn l.fn.worker.place l.fn.worker.kept.items l.worker.place l.worker.kept.items
