use Rattle.x10_cli.proofs.Dues.{due_reported}
use Rattle.x10_cli.proofs.checking.print_check.Goals as goal

pub returns-clause-due : goal.returns-clause-due
returns-clause-due g = λ c. λ asked. due_reported asked c.args.bytes.now c.in_ok-report.report.verified c.in_ok-report.report.refusal
    c.in-Some.refusal c.fault_of.result c.in_ok-report.ensures.why c.in-Some.is c.fault_of.ensures
