use Rattle.x10_stats.proofs.FrameTypes.{by_type}
use Rattle.x10_stats.proofs.laws.frames_are_counted_by_type.Goals as goal

pub returns : goal.returns
returns c = by_type
