use Rattle.x10_place.proofs.NeverIdle.{no_stride_is_idle}
use Rattle.x10_place.proofs.laws.no_stride_is_idle.Goals as goal

pub returns : goal.returns
returns c = no_stride_is_idle
