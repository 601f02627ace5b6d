use Rattle.std.proofs.Common.{arith, rules}
use Rattle.x10_bytes.proofs.Fronts.{fault_is, int_short, int_is, signed_is}
use Rattle.x10_bytes.proofs.front.i64_at.Goals as goal

pub returns-then-bytes-lt8 : goal.returns-then-bytes-lt8
returns-then-bytes-lt8 g c = record { exact = fault_is _ _ _ c.too_short.ensures (int_short _ c.args.bytes.now (omega arith)) }

pub returns : goal.returns
returns g c =
    rw c.split_at.ensures.back
    (record {
      exact = int_is _ c.args.bytes.now c.read_u64.result _ (omega arith) (omega (arith, rw c.split_at.ensures.front at c.read_u64.ensures))
          (signed_is c.read_u64.result c.cast_signed.result (search (rules, arith)) c.cast_signed.ensures);
    })
