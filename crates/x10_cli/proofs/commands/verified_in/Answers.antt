use Rattle.x10_cli.proofs.Dues.{due_module, verify_kind}
use Rattle.std.proofs.lemmas.Result.{err_from_is_err_and}
use Rattle.x10_cli.proofs.Answered.{not_verified}
use Rattle.x10_cli.proofs.commands.verified_in.Goals as goal

pub returns-in_err-verify-clause-refused : goal.returns-in_err-verify-clause-refused
returns-in_err-verify-clause-refused c =
    let told = err_from_is_err_and c.from_residual-in_err-verify.result c.from_residual-in_err-verify.ensures.1 in
    rw told.1 (not_verified c.args.bytes.now c.in_ok-image.image c.in_err-verify.field-0.0 told.0 c.in_ok-image.ensures.found
    c.in_err-verify.ensures.err told.2)

pub returns-in_err-image-clause-due : goal.returns-in_err-image-clause-due
returns-in_err-image-clause-due c = λ asked.
    let told = err_from_is_err_and c.from_residual.result c.from_residual.ensures.1 in
    rw (told.1, told.2) (c.in_err-image.ensures.due asked)

pub returns-in_err-verify-clause-due : goal.returns-in_err-verify-clause-due
returns-in_err-verify-clause-due c = λ asked.
    let told = err_from_is_err_and c.from_residual-in_err-verify.result c.from_residual-in_err-verify.ensures.1 in
    rw told.1 (due_module asked c.args.bytes.now c.in_ok-image.image c.in_err-verify.field-0.0 told.0 c.in_ok-image.ensures.found
    c.in_err-verify.ensures.err told.2)

pub returns-in_err-verify-clause-kind : goal.returns-in_err-verify-clause-kind
returns-in_err-verify-clause-kind c =
    let told = err_from_is_err_and c.from_residual-in_err-verify.result c.from_residual-in_err-verify.ensures.1 in
    rw told.1 (verify_kind c.in_err-verify.field-0.0 told.0 told.2)
