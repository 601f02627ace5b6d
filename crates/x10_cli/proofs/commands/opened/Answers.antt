use Rattle.std.proofs.Common.{refl}
use Rattle.std.proofs.lemmas.Result.{err_from_is_err_and}
use Rattle.x10_cli.proofs.Answered.{not_open}
use Rattle.x10_cli.proofs.Dues.{due_open}
use Rattle.x10_cli.proofs.commands.opened.Goals as goal

pub returns-in_err-world-clause-due : goal.returns-in_err-world-clause-due
returns-in_err-world-clause-due c = λ bytes is.
    let told = err_from_is_err_and c.from_residual.result c.from_residual.ensures.1 in
    rw told.1 (due_open c.args.asked bytes c.args.verified.now c.places_of-places.result c.in_err-world.field-0.0 told.0 is
    (λ e. c.in_err-world.ensures.places.0 (rw e refl)) c.places_of-places.ensures told.2)

pub returns-in_err-world-clause-refused : goal.returns-in_err-world-clause-refused
returns-in_err-world-clause-refused c = λ bytes is.
    let told = err_from_is_err_and c.from_residual.result c.from_residual.ensures.1 in
    rw told.1 (not_open bytes c.args.verified.now c.args.asked c.places_of-places.result c.in_err-world.field-0.0 told.0 is
    (λ e. c.in_err-world.ensures.places.0 (rw e refl)) c.places_of-places.ensures told.2)
