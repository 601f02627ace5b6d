use Rattle.std.proofs.Common.{arith}
use Rattle.x10_log.proofs.Digits.{number_read}
use Rattle.x10_log.proofs.item.place_of.Goals as goal

pub returns : goal.returns
returns c = λ n fits e. number_read 16 n c.args.cause c.args.digits.now c.parse.result c.ok.result c.ok_or.result c.ok_or.ensures.value
    c.ok.ensures.value
    c.parse.ensures.value.0 fits (omega arith) e
