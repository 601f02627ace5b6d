use Rattle.x10_cli.specs.Answers.{places_for}
use Rattle.x10_cli.specs.Runs.{FoundIn}
use Rattle.x10_cli.proofs.runs.findings_of.Given as goal

abbrev pub invariant-loop-before : goal.invariant-loop-before
invariant-loop-before l = FoundIn l.verified (places_for l.task.places l.verified) l.task.limit l.before l.findings
