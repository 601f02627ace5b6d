use Rattle.x10_model.proofs.FrameLaws.{frame_takes}
use Rattle.x10_model.proofs.frames.read_is_spelled.Goals as goal

pub returns : goal.returns
returns c = record { fits_and_spelled = frame_takes }
