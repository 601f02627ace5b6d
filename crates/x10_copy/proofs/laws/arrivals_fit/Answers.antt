use Rattle.x10_copy.proofs.Lawful.{arrivals_fit, faults_are_misfits, fitting_stays}
use Rattle.x10_copy.proofs.laws.arrivals_fit.Goals as goal

pub returns : goal.returns
returns c = record { asked = arrivals_fit; faults = faults_are_misfits; stays = fitting_stays }
