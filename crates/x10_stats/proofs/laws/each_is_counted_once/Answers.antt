use Rattle.x10_stats.proofs.EventsCounted.{counted_once}
use Rattle.x10_stats.proofs.laws.each_is_counted_once.Goals as goal

pub returns : goal.returns
returns c = λ s t x y events counts few. counted_once s x events t y counts few
