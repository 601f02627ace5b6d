use Rattle.x10_model.proofs.GoingOn.{frames_carry_to}
use Rattle.x10_model.proofs.laws.frames_carry_to.Goals as goal

pub returns : goal.returns
returns c = frames_carry_to
