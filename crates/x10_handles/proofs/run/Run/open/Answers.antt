use Rattle.std.proofs.Common.{[]}
use Rattle.x10_handles.proofs.Histories.{begun}
use Rattle.x10_handles.proofs.run.Run.open.Goals as goal

pub invariant_of-result : goal.invariant_of-result
invariant_of-result c = (
  c.args.verified.now,
  c.args.places,
  [],
  begun c.args.verified.now c.args.places c.in_ok-world.world c.certificate.ensures
      (λ forbidden. absurd (let refused = c.in_ok-world.ensures.places.1 forbidden in cc)) c.in_ok-world.ensures.opened,
)

pub returns-clause-begun : goal.returns-clause-begun
returns-clause-begun c = begun c.args.verified.now c.args.places c.in_ok-world.world c.certificate.ensures
    (λ forbidden. absurd (let refused = c.in_ok-world.ensures.places.1 forbidden in cc)) c.in_ok-world.ensures.opened
