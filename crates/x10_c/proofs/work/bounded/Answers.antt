use Rattle.std.proofs.Common.{None}
use Rattle.std.proofs.lemmas.Result.{err_from_is_err_and}
use Rattle.x10_cli.proofs.Answered.{no_bounds}
use Rattle.x10_c.proofs.work.bounded.Goals as goal

pub returns-in_err-image-clause-due : goal.returns-in_err-image-clause-due
returns-in_err-image-clause-due c =
    let told = err_from_is_err_and c.from_residual.result c.from_residual.ensures.1 in
    rw (told.1, told.2) (c.in_err-image.ensures.due None)

pub returns-in_err-bounds-clause-refused : goal.returns-in_err-bounds-clause-refused
returns-in_err-bounds-clause-refused c =
    let told = err_from_is_err_and c.from_residual-in_err-bounds.result c.from_residual-in_err-bounds.ensures.1 in
    rw told.1 (no_bounds c.args.image.now c.in_ok-image.image c.in_err-bounds.field-0.0 told.0 c.in_ok-image.ensures.found
    c.in_err-bounds.ensures.exact told.2)
