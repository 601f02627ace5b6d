use Rattle.x10_stats.proofs.KeptSteps.{kept_within}
use Rattle.x10_stats.proofs.laws.each_is_within_most.Goals as goal

pub returns : goal.returns
returns c = λ m kept x y events s counts. kept_within m kept x events s y counts
