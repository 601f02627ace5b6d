use Rattle.x10_image.specs.Parts.{code_at}
use Rattle.x10_bounds.proofs.Closed.{is_closed}
use Rattle.x10_bounds.proofs.InOrder.{in_function}
use Rattle.x10_bounds.proofs.functions.regions.Goals as goal

pub returns-in_err-code-clause-closed : goal.returns-in_err-code-clause-closed
returns-in_err-code-clause-closed c pc i e = is_closed (code_at c.args.image.now c.args.f) c.requires.nests pc i
    (in_function c.args.image.now c.args.f pc i e)

pub returns-clause-closed : goal.returns-clause-closed
returns-clause-closed c pc i e = is_closed (code_at c.args.image.now c.args.f) c.requires.nests pc i (in_function c.args.image.now c.args.f pc i e)
