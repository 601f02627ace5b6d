-- What happens at any event keeps all answered.
use Rattle.std.proofs.Common.{sym, subst}
use Rattle.x10_model.specs.Worlds.{steps, delivers, idle}
use Rattle.x10_world.specs.Links.{AreAnswered, AnsweredAfterEvent}
use Rattle.x10_world.proofs.LinkMoves.{answered_after_move}
use Rattle.x10_world.proofs.LinkDeliveries.{answered_after_delivery}

pub answered_after_event : AnsweredAfterEvent
answered_after_event rule setting w v event sound answered (steps here key u s) =
    subst (AreAnswered setting) (sym s.net_is) (answered_after_move setting w.net here key s.number s.old s.new s.effect answered s.place_is s.moves)
answered_after_event rule setting w v event sound answered (delivers number u d) = answered_after_delivery setting w v number sound answered d
answered_after_event rule setting w v event sound answered (idle e h) = answered
