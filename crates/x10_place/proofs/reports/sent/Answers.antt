use Rattle.std.proofs.Common.{arith}
use Rattle.x10_frame.specs.Heads.{sent_of}
use Rattle.x10_place.proofs.Payloads.{kept_next}
use Rattle.x10_place.proofs.reports.sent.Goals as goal

pub loop-place-preserved : goal.loop-place-preserved
loop-place-preserved c =
    kept_next 64 (sent_of c.args.view.now) c.loop-place.counts c.loop-place.place c.sent.result c.loop-place.invariant.0
    (let few = c.requires in let end = c.counts-place-end.ensures.sent in let less = c.loop-place-test.true in omega (arith, few, end, less))
    c.sent.ensures.value c.loop-place.invariant.1
