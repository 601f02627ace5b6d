use Rattle.std.proofs.Common.{take, arith}
use Rattle.x10_bytes.proofs.Fronts.{part_is}
use Rattle.x10_bytes.proofs.front.past.Goals as goal

pub returns : goal.returns
returns g c = rw c.split_at.ensures.back (record {
  exact = (take c.args.count c.args.bytes.now, part_is _ c.args.count c.args.bytes.now (omega arith));
})
