use Rattle.x10_model.proofs.FrameLaws.{frame_again}
use Rattle.x10_model.proofs.frames.spelled_is_read.Goals as goal

pub returns : goal.returns
returns c = record { again = frame_again }
