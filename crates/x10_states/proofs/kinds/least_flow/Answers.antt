use Rattle.x10_states.proofs.Flawless.{least_of}
use Rattle.x10_states.proofs.kinds.least_flow.Goals as goal

pub returns : goal.returns
returns c = least_of c.known_flow.result c.args.verified.now.program c.image.result.now c.args.verified.now.bounds c.args.f c.image.ensures
    c.certificate.ensures.verified c.known_flow.ensures
