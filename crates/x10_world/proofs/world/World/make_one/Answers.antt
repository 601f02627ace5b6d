use Rattle.std.proofs.Common.{sym, subst}
use Rattle.x10_world.specs.EventAnswers.{AnswersEvent}
use Rattle.x10_world.proofs.world.World.make_one.Goals as goal

pub returns-in-Step : goal.returns-in-Step
returns-in-Step c =
    let a = subst (λ e. AnswersEvent c.args.self.now e c.step.result c.step.new.self) (sym c.in-Step.is) c.step.ensures in
    record { told = a.told; ok = a.ok; made = a.made; acts = a.acts; idle = a.idle; goes = a.goes; stops = a.stops; kept = a.kept }

pub returns-in-Deliver : goal.returns-in-Deliver
returns-in-Deliver c =
    let a = subst (λ e. AnswersEvent c.args.self.now e c.deliver.result c.deliver.new.self) (sym c.in-Deliver.is) c.deliver.ensures in
    record { told = a.told; ok = a.ok; made = a.made; acts = a.acts; idle = a.idle; goes = a.goes; stops = a.stops; kept = a.kept }
