use Rattle.std.proofs.Common.{arith, refl}
use Rattle.x10_verify.proofs.Entries.{kinds_begin, kinds_go_on, kinds_done, none_in}
use Rattle.x10_verify.proofs.entry.kinds.Goals as goal

pub loop-i-init : goal.loop-i-init
loop-i-init c = kinds_begin c.args.signature.now.parameters _ refl (λ r. none_in 64 r)

pub loop-i-preserved : goal.loop-i-preserved
loop-i-preserved c = kinds_go_on c.args.signature.now.parameters c.loop-i.kinds c.loop-i.i c.encode.result c.parameter.result c.loop-i.invariant
    (omega arith) c.parameter.ensures.value c.encode.ensures

pub returns : goal.returns
returns c = kinds_done c.args.signature.now.parameters c.loop-i.kinds c.loop-i.i c.loop-i.invariant (omega arith)
