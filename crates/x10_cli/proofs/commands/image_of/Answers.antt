use Rattle.std.proofs.lemmas.Result.{err_from_is_err_and}
use Rattle.x10_cli.proofs.Dues.{due_image, image_kind}
use Rattle.x10_cli.proofs.commands.image_of.Goals as goal

pub returns-in_err-read-clause-due : goal.returns-in_err-read-clause-due
returns-in_err-read-clause-due c = λ asked.
    let told = err_from_is_err_and c.from_residual.result c.from_residual.ensures.1 in
    rw told.1 (due_image asked c.args.bytes.now c.in_err-read.field-0.0 told.0 c.in_err-read.ensures.exact told.2)

pub returns-in_err-read-clause-kind : goal.returns-in_err-read-clause-kind
returns-in_err-read-clause-kind c =
    let told = err_from_is_err_and c.from_residual.result c.from_residual.ensures.1 in
    rw told.1 (image_kind c.in_err-read.field-0.0 told.0 told.2)
