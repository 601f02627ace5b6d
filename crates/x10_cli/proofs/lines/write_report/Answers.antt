use Rattle.std.proofs.Common.{◌+◌, add-one, refl}
use Rattle.std.proofs.lemmas.Option.{slice_get_read}
use Rattle.x10_cli.proofs.LinesPrinted.{report_more}
use Rattle.x10_cli.proofs.lines.write_report.Goals as goal

pub loop-place-preserved : goal.loop-place-preserved
loop-place-preserved g = λ c.
    report_more c.args.json (g.O.Write.contents c.args.out.now) (g.O.Write.contents c.loop-place.out)
    (g.O.Write.contents c.write_lines.new.out) c.loop-place.place
    (c.loop-place.place + 1) c.args.outputs.now c.index-outputs-place.result c.deref.result.now (add-one c.loop-place.place)
    (slice_get_read c.args.outputs.now _ c.loop-place.place c.index-outputs-place.result refl c.loop-place-test.true c.index-outputs-place.is)
    c.deref.ensures.value c.loop-place.invariant c.in_ok-write_lines.ensures.ok
