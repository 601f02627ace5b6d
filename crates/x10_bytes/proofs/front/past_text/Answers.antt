use Rattle.std.proofs.Common.{take, arith}
use Rattle.x10_bytes.proofs.Fronts.{fault_is, text_is, text_bad}
use Rattle.x10_bytes.proofs.front.past_text.Goals as goal

pub returns-in-Ok : goal.returns-in-Ok
returns-in-Ok g c =
    rw c.split_at.ensures.back
    (record {
      exact = λ fault e. (
        take c.args.count c.args.bytes.now,
        text_is _ fault c.args.count c.args.bytes.now (omega arith) (rw c.split_at.ensures.front at c.in-Ok.ensures.cases.1),
      );
    })

pub returns-in-Err : goal.returns-in-Err
returns-in-Err g c = record {
  exact = λ fault e. fault_is _ fault _ e
      (text_bad _ fault c.args.count c.args.bytes.now (omega arith) (rw c.split_at.ensures.front at c.in-Err.ensures.cases.0));
}
