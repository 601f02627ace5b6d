use Rattle.x10_world.proofs.QueryLemmas.{frames_are}
use Rattle.x10_world.proofs.world.World.frame.Goals as goal

pub returns-clause-some : goal.returns-clause-some
returns-clause-some c = frames_are _ c.args.self.now c.args.number c.get.result c.self.view_is c.get.ensures
