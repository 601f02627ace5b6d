use Rattle.x10_model.specs.Worlds as machine
use Rattle.x10_world.specs.StandsForWorld.{StandsForWorld}
use Rattle.x10_world.proofs.Courses.{stop_stands}
use Rattle.x10_world.proofs.RunCounts.{if_err}
use Rattle.x10_world.proofs.world.World.event.Goals as goal

pub returns-in_err-make_one-clause-left : goal.returns-in_err-make_one-clause-left
returns-in_err-make_one-clause-left c = if_err c.from_residual-in_err-make_one.result
    (λ e. (w : machine.World) → StandsForWorld c.args.self.now w → StandsForWorld c.make_one.new.self w)
    (λ e w stand. stop_stands c.args.self.now c.make_one.new.self c.args.event _ w c.in_err-make_one.ensures.stops stand)
