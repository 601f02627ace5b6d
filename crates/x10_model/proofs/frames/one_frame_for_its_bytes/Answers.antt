use Rattle.x10_model.proofs.FrameLaws.{one_frame}
use Rattle.x10_model.proofs.frames.one_frame_for_its_bytes.Goals as goal

pub returns : goal.returns
returns c = record { same = one_frame }
