use Rattle.x10_log.proofs.Digits.{bytes_read, bytes_decode}
use Rattle.x10_log.proofs.item.frame_bytes.Goals as goal

pub returns-in-Ok : goal.returns-in-Ok
returns-in-Ok c = λ bytes fits e. bytes_read c.args.digits.now bytes c.in-Ok.bytes.items fits e (rw c.as_bytes.ensures.value at c.in-Ok.ensures.ok)

pub returns-in-Err : goal.returns-in-Err
returns-in-Err c = λ bytes fits e. bytes_decode c.args.digits.now bytes c.in-Err.fault c.hex_cause.result fits e
    (rw c.as_bytes.ensures.value at c.in-Err.ensures.err) c.hex_cause.ensures
