use Rattle.x10_copy.proofs.Lawful.{captures_fit, fitting_is_taken}
use Rattle.x10_copy.proofs.laws.captures_arrive.Goals as goal

pub returns : goal.returns
returns c = record { fit = captures_fit; taken = fitting_is_taken }
