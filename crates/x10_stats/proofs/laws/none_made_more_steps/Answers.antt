use Rattle.x10_stats.proofs.MostSteps.{most_steps}
use Rattle.x10_stats.proofs.laws.none_made_more_steps.Goals as goal

pub returns : goal.returns
returns c = λ m kept x y events s counts. most_steps m kept x events s y counts
