use Rattle.std.proofs.Common.{arith}
use Rattle.x10_image.proofs.Whole.{found, only}
use Rattle.x10_image.proofs.view.ImageView.read.Goals as goal

pub returns-clause-found : goal.returns-clause-found
returns-clause-found c = found c.args.bytes.now c.whole.result (λ k. omega (arith, c.type_inv.bytes k)) c.whole.ensures.exact

pub returns-clause-only : goal.returns-clause-only
returns-clause-only c m fits is = only c.args.bytes.now c.whole.result m c.whole.ensures.exact fits is
