use Rattle.std.proofs.Common.{arith}
use Rattle.x10_place.proofs.Payloads.{kept_next}
use Rattle.x10_place.proofs.sending.parameters.Goals as goal

pub loop-i-preserved : goal.loop-i-preserved
loop-i-preserved c =
    kept_next 16 c.args.signature.now.parameters c.loop-i.slots c.loop-i.i c.parameter.result c.loop-i.invariant.0
    (let few = c.requires in let end = c.parameters-i-end.ensures.value in let less = c.loop-i-test.true in omega (arith, few, end, less))
    c.parameter.ensures.value c.loop-i.invariant.1
