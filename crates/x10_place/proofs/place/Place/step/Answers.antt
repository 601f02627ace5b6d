use Rattle.x10_place.proofs.StepAnswers.{flagged, step_idle, step_only, step_some, step_full, out_idle}
use Rattle.x10_place.proofs.place.Place.step.Goals as goal
use Rattle.std.proofs.Common.{refl}

pub invariant_of-self : goal.invariant_of-self
invariant_of-self c = (
  flagged c.self.inside.ground.verified.now c.step-made.new.self.verified.now c.step-made.ensures.verified
      c.step-made.new.self.stays c.step-made.new.self.store c.is_err-self-inside.result c.step-made.ensures.made.standing,
  c.step-made.ensures.inside c.self.invariant.1,
)

pub returns-clause-idle : goal.returns-clause-idle
returns-clause-idle c = λ on idle.
    step_idle c.self.inside.ground.verified.now c.step-made.new.self.verified.now c.step-made.ensures.verified c.self.inside.ground.stays
    c.step-made.new.self.stays c.self.inside.ground.store c.step-made.new.self.store c.args.key c.self.inside.stopped c.is_err-self-inside.result
    c.args.self.now c.self.view_is c.step-made.result c.step-made.ensures.made c.if-self.false c.is_err-self-inside.ensures.value idle

pub returns-clause-only : goal.returns-clause-only
returns-clause-only c = λ on e.
    step_only c.self.inside.ground.verified.now c.step-made.new.self.verified.now c.step-made.ensures.verified c.self.inside.ground.stays
    c.step-made.new.self.stays c.self.inside.ground.store c.step-made.new.self.store c.args.key c.self.inside.stopped c.is_err-self-inside.result
    c.args.self.now c.self.view_is c.step-made.result c.step-made.ensures.made e

pub returns-clause-some : goal.returns-clause-some
returns-clause-some c = λ a e ready outside.
    step_some c.self.inside.ground.verified.now c.step-made.new.self.verified.now c.step-made.ensures.verified c.self.inside.ground.stays
    c.step-made.new.self.stays c.self.inside.ground.store c.step-made.new.self.store c.args.key c.self.inside.stopped c.is_err-self-inside.result
    c.args.self.now c.self.view_is c.step-made.result c.step-made.ensures.made c.if-self.false c.is_err-self-inside.ensures.value a e ready

pub returns-clause-full : goal.returns-clause-full
returns-clause-full c = λ on limit over.
    step_full c.self.inside.ground.verified.now c.step-made.new.self.verified.now c.step-made.ensures.verified c.self.inside.ground.stays
    c.step-made.new.self.stays c.self.inside.ground.store c.step-made.new.self.store c.args.key c.self.inside.stopped c.is_err-self-inside.result
    c.args.self.now c.self.view_is c.step-made.result c.step-made.ensures.made limit over

pub returns-then-is_kept_out-clause-only : goal.returns-then-is_kept_out-clause-only
returns-then-is_kept_out-clause-only c = λ on e. out_idle c.args.self.now c.args.key (c.if-is_kept_out.ensures.out refl)
