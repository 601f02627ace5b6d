use Rattle.std.proofs.Common.{arith}
use Rattle.x10_frame.proofs.Whole.{found, only}
use Rattle.x10_frame.proofs.view.FrameView.read.Goals as goal

pub returns-clause-found : goal.returns-clause-found
returns-clause-found c = found c.args.places c.args.bytes.now c.whole.result c.ranges.places.fits
    (λ k. omega (arith, c.type_inv.bytes k)) c.whole.ensures.exact

pub returns-clause-only : goal.returns-clause-only
returns-clause-only c f spelled = only c.args.places c.args.bytes.now c.whole.result f c.ranges.places.fits c.whole.ensures.exact spelled
