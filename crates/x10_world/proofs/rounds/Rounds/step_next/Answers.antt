use Rattle.x10_world.proofs.RunCounts.{has_none}
use Rattle.x10_world.proofs.rounds.Rounds.step_next.Goals as goal

pub returns-in_default : goal.returns-in_default
returns-in_default c = record { made = has_none c.args.world.now c.args.left c.requires.going }
