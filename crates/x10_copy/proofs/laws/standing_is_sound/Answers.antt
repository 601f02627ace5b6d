use Rattle.x10_copy.proofs.Lawful.{standing_is_sound}
use Rattle.x10_copy.proofs.laws.standing_is_sound.Goals as goal

pub returns : goal.returns
returns c = standing_is_sound
