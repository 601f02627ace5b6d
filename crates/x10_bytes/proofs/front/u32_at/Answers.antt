use Rattle.std.proofs.Common.{arith}
use Rattle.std.specs.Int.{w32}
use Rattle.x10_model.proofs.Offsets.{number_short, number_is}
use Rattle.x10_bytes.proofs.Fronts.{fault_is}
use Rattle.x10_bytes.proofs.front.u32_at.Goals as goal

pub returns-then-bytes-lt4 : goal.returns-then-bytes-lt4
returns-then-bytes-lt4 g c = record { exact = fault_is _ _ _ c.too_short.ensures (number_short _ w32 c.args.bytes.now (omega arith)) }

pub returns : goal.returns
returns g c =
    rw c.split_at.ensures.back
    (record {
      exact = number_is _ w32 c.args.bytes.now c.read_u32.result (omega arith)
          (omega (arith, rw c.split_at.ensures.front at c.read_u32.ensures));
    })
