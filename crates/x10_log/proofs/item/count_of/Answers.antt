use Rattle.x10_log.specs.declared.fault.LogCause.TheVariants as cause
use Rattle.x10_log.proofs.Digits.{number_read}
use Rattle.x10_log.proofs.item.count_of.Goals as goal

pub returns : goal.returns
returns c = λ n fits e. number_read 64 n cause.Key c.args.digits.now c.parse.result c.ok.result c.ok_or.result c.ok_or.ensures.value
    c.ok.ensures.value
    c.parse.ensures.value.0 fits fits e
