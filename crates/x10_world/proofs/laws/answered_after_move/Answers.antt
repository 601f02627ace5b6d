use Rattle.x10_world.proofs.LinkMoves.{answered_after_move}
use Rattle.x10_world.proofs.laws.answered_after_move.Goals as goal

pub returns : goal.returns
returns c = answered_after_move
