use Rattle.x10_model.proofs.FrameLaws.{wider}
use Rattle.x10_model.proofs.frames.all_fit_the_wide_version.Goals as goal

pub returns : goal.returns
returns c = record { wider = wider }
