use Rattle.std.proofs.Common.{subst}
use Rattle.std.specs.Prelude.{IfSome}
use Rattle.x10_world.specs.Runs.{Runs, IsHaltedAt}
use Rattle.x10_world.proofs.EventRuns.{through_none, through_reaches, halted_reaches}
use Rattle.x10_world.proofs.world.World.run.Goals as goal

pub returns-in_err-going-clause-some : goal.returns-in_err-going-clause-some
returns-in_err-going-clause-some c = λ w stand. (0, through_reaches c.args.self.now c.args.self.now w _ (through_none c.args.self.now w stand))

pub returns-in_default-Some-clause-some : goal.returns-in_default-Some-clause-some
returns-in_default-Some-clause-some c = λ w stand. (
  c.make.result.0,
  halted_reaches c.args.self.now c.make.new.self c.args.events.now c.make.result.0 _
      (subst (λ o. IfSome o (IsHaltedAt c.args.self.now c.args.events.now c.make.result.0 c.make.new.self)) c.in_default-Some.is-1
      c.make.ensures.halted) w stand,
)

pub returns-in_default-Some-clause-hindered : goal.returns-in_default-Some-clause-hindered
returns-in_default-Some-clause-hindered c = λ on. (
  c.make.result.0,
  subst (λ o. IfSome o (IsHaltedAt c.args.self.now c.args.events.now c.make.result.0 c.make.new.self)) c.in_default-Some.is-1 c.make.ensures.halted,
)

pub returns-in_default-None-clause-all : goal.returns-in_default-None-clause-all
returns-in_default-None-clause-all c = λ w stand. subst (λ n. Runs c.args.self.now w n c.args.events.now c.make.new.self)
    (c.make.ensures.all c.in_default-None.is-1) (c.make.ensures.runs c.in_default-None.is-1 w stand)

pub returns-in_default-None-clause-some : goal.returns-in_default-None-clause-some
returns-in_default-None-clause-some c = λ w stand. (
  c.make.result.0,
  through_reaches c.args.self.now c.make.new.self w _ (c.make.ensures.runs c.in_default-None.is-1 w stand),
)
