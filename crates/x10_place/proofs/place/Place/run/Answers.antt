use Rattle.std.proofs.Common.{refl, sym, ap, subst, inl, ◌∙◌}
use Rattle.x10_place.specs.StandsFor.{PlaceState}
use Rattle.x10_place.proofs.StepAnswers.{flagged, run_stopped, run_ran, run_all, out_idle}
use Rattle.x10_place.proofs.place.Place.run.Goals as goal
use Rattle.x10_place.specs.Stretches.{StridesTo, nowhere}

pub returns-then-self-clause-ran : goal.returns-then-self-clause-ran
returns-then-self-clause-ran c = run_stopped c.args.self.now c.args.key (ap (λ (p : PlaceState). p.stopped) (sym c.self.view_is) ∙ c.if-self.true)

pub invariant_of-self : goal.invariant_of-self
invariant_of-self c = (
  flagged c.self.inside.ground.verified.now c.run_activity-done.new.self.verified.now c.run_activity-done.ensures.verified
      c.run_activity-done.new.self.stays c.run_activity-done.new.self.store c.is_err-self-inside.result c.run_activity-done.ensures.ran.standing,
  c.run_activity-done.ensures.inside c.self.invariant.1,
)

pub returns-clause-ran : goal.returns-clause-ran
returns-clause-ran c =
    run_ran c.self.inside.ground.verified.now c.run_activity-done.new.self.verified.now c.run_activity-done.ensures.verified
    c.self.inside.ground.stays c.run_activity-done.new.self.stays c.self.inside.ground.store c.run_activity-done.new.self.store c.args.key
    c.self.inside.stopped c.is_err-self-inside.result c.args.self.now c.self.view_is c.args.most c.run_activity-done.result.0
    c.run_activity-done.result.1 c.run_activity-done.ensures.ran c.if-self.false c.is_err-self-inside.ensures.value

pub returns-clause-all : goal.returns-clause-all
returns-clause-all c =
    run_all c.self.inside.ground.verified.now c.run_activity-done.new.self.verified.now c.run_activity-done.ensures.verified
    c.self.inside.ground.stays c.run_activity-done.new.self.stays c.self.inside.ground.store c.run_activity-done.new.self.store c.args.key
    c.self.inside.stopped c.is_err-self-inside.result c.args.self.now c.self.view_is c.args.most c.run_activity-done.result.0
    c.run_activity-done.result.1 c.run_activity-done.ensures.ran c.if-self.false c.is_err-self-inside.ensures.value

pub returns-then-is_kept_out-clause-ran : goal.returns-then-is_kept_out-clause-ran
returns-then-is_kept_out-clause-ran c = subst (λ o. StridesTo c.args.key c.args.self.now 0 o c.args.self.now) (sym c.no_sent.ensures) nowhere

pub returns-then-is_kept_out-clause-all : goal.returns-then-is_kept_out-clause-all
returns-then-is_kept_out-clause-all c = λ some. inl (out_idle c.args.self.now c.args.key (c.if-is_kept_out.ensures.out refl))
