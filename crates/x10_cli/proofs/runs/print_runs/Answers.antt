use Rattle.std.proofs.lemmas.Result.{err_from_is_err_and}
use Rattle.x10_cli.proofs.runs.print_runs.Goals as goal

pub returns-in_err-verified-clause-due : goal.returns-in_err-verified-clause-due
returns-in_err-verified-clause-due w = λ c.
    let told = err_from_is_err_and c.from_residual.result c.from_residual.ensures.1 in
    rw (told.1, told.2) (c.in_err-verified.ensures.due c.args.task.now.places)

pub returns-in_err-findings-clause-due : goal.returns-in_err-findings-clause-due
returns-in_err-findings-clause-due w = λ c.
    let told = err_from_is_err_and c.from_residual-in_err-findings.result c.from_residual-in_err-findings.ensures.1 in
    rw (told.1, told.2) (c.in_err-findings.ensures.due c.args.bytes.now c.in_ok-verified.ensures.found)

pub returns-in_err-findings-clause-refused : goal.returns-in_err-findings-clause-refused
returns-in_err-findings-clause-refused w = λ c.
    let told = err_from_is_err_and c.from_residual-in_err-findings.result c.from_residual-in_err-findings.ensures.1 in
    rw (told.1, told.2) (c.in_err-findings.ensures.refused c.args.bytes.now c.in_ok-verified.ensures.found)
