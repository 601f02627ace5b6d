use Rattle.x10_finish.proofs.InRange.{opening_is_in_range, moves_stay_in_range, deliveries_stay_in_range}
use Rattle.x10_finish.proofs.laws.all_is_in_range.Goals as goal

pub returns : goal.returns
returns c = record { opening = opening_is_in_range; moves = moves_stay_in_range; deliveries = deliveries_stay_in_range }
