use Rattle.std.proofs.lemmas.Result.{err_from_is_err_and}
use Rattle.x10_cli.proofs.commands.print_verbose.Goals as goal

pub returns-in_err-image-clause-due : goal.returns-in_err-image-clause-due
returns-in_err-image-clause-due g = λ c. λ asked.
    let told = err_from_is_err_and c.from_residual.result c.from_residual.ensures.1 in
    rw (told.1, told.2) (c.in_err-image.ensures.due asked)
