use Rattle.x10_world.proofs.LinkMisfits.{fitting_is_no_misfit, fitting_result_is_awaited}
use Rattle.x10_world.proofs.laws.fitting_is_no_misfit.Goals as goal

pub returns : goal.returns
returns c = record { misfit = fitting_is_no_misfit; awaited = fitting_result_is_awaited }
