use Rattle.std.proofs.lemmas.Result.{err_from_is_err_and}
use Rattle.x10_cli.proofs.audited.played_log.Goals as goal

pub returns-in_err-outputs_of-clause-due : goal.returns-in_err-outputs_of-clause-due
returns-in_err-outputs_of-clause-due c =
    let told = err_from_is_err_and c.from_residual-in_err-outputs_of.result c.from_residual-in_err-outputs_of.ensures.1 in
    rw (told.1, told.2) (c.in_err-outputs_of.ensures.due c.args.bytes.now c.args.log.now c.requires c.in_ok-read.ensures.reads)
