use Rattle.std.proofs.Common.{arith}
use Rattle.x10_place.proofs.Leavings.{all_small}
use Rattle.x10_place.proofs.leaving.counts_are_small.Goals as goal

pub returns : goal.returns
returns c = all_small c.args.counts.now (λ k. omega (arith, c.type_inv.counts k))
