use Rattle.std.proofs.Common.{subst}
use Rattle.x10_place.specs.Receiving.{IsRefusedBytes}
use Rattle.x10_place.proofs.StepAnswers.{flagged}
use Rattle.x10_place.proofs.place.Place.receive.Goals as goal
use Rattle.x10_place.proofs.Insides.{same_insider}

pub invariant_of-self : goal.invariant_of-self
invariant_of-self c = (
  flagged c.self.inside.ground.verified.now c.receive-taken.new.self.verified.now c.receive-taken.ensures.verified
      c.receive-taken.new.self.stays c.receive-taken.new.self.store c.is_stop-self-inside.result c.receive-taken.ensures.standing,
  same_insider c.self.inside.ground.stays c.receive-taken.new.self.stays c.self.inside.inside c.receive-taken.ensures.inside c.self.invariant.1,
)

pub returns-in-Err-clause-refused : goal.returns-in-Err-clause-refused
returns-in-Err-clause-refused c = λ on. subst (λ p. IsRefusedBytes p c.args.bytes.now c.in-Err.why) c.self.view_is
    (c.in-Err.ensures.refused c.self.inside.stopped)
