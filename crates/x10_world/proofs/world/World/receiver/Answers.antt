use Rattle.x10_world.proofs.WorldParts.{receiver_is}
use Rattle.x10_world.proofs.world.World.receiver.Goals as goal

pub returns : goal.returns
returns c = receiver_is _ c.args.self.now c.args.event c.in-Deliver.number _ c.self.view_is c.in-Deliver.is c.in_ok-to.ensures
