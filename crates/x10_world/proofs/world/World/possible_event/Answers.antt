use Rattle.x10_world.proofs.QueryLemmas.{event_is}
use Rattle.x10_world.proofs.world.World.possible_event.Goals as goal

pub returns-in-None : goal.returns-in-None
returns-in-None c = event_is c.args.self.now c.possible_delivery.result c.in-None.ensures c.possible_delivery.ensures
