use Rattle.x10_model.specs.Worlds.{opening}
use Rattle.x10_world.specs.StandsForWorld.{setting_of_world}
use Rattle.x10_stats.specs.Counts.{counts_at_first}
use Rattle.x10_stats.specs.Entries.{first_entries}
use Rattle.x10_stats.proofs.EventsTied.{runs_along}
use Rattle.x10_stats.proofs.laws.machine_runs_beside.Goals as goal

pub returns : goal.returns
returns c = λ m count kept x y events s counts opened.
    let run = runs_along (opening (setting_of_world x) 0) first_entries (counts_at_first m kept x) x events s y counts opened.stands in
    (run.0, run.1, run.2)
