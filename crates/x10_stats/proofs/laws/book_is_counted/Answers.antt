use Rattle.x10_model.specs.Worlds.{opening}
use Rattle.x10_world.specs.StandsForWorld.{setting_of_world}
use Rattle.x10_stats.specs.Counts.{counts_at_first}
use Rattle.x10_stats.specs.Entries.{first_entries}
use Rattle.x10_stats.proofs.EventsTied.{tied_along}
use Rattle.x10_stats.proofs.OpeningTied.{tied_opening}
use Rattle.x10_stats.proofs.laws.book_is_counted.Goals as goal

pub returns : goal.returns
returns c = λ m count kept x y events s counts opened few w entries beside.
    let along = tied_along (opening (setting_of_world x) 0) first_entries (counts_at_first m kept x) x events s y counts w entries beside
    (tied_opening m count kept x opened) few in
    (along.tied.entered, along.tied.tally)
