use Rattle.std.proofs.Common.{◌+◌, ◌∙◌, Some, add-one, ap, arith, subst, sym}
use Rattle.std.proofs.lemmas.Option.{slice_get-get_or}
use Rattle.std.specs.Io.KnownBytes.{Appends}
use Rattle.x10_cli.proofs.Found.{finding_more}
use Rattle.x10_cli.proofs.runs.print_findings.Goals as goal

pub loop-finding-preserved : goal.loop-finding-preserved
loop-finding-preserved g = λ c.
    finding_more (g.O.Write.contents c.args.out.now) (g.O.Write.contents c.loop-finding.out) (g.O.Write.contents c.print_head.new.out)
    (g.O.Write.contents c.write_all.new.self) c.args.runs c.loop-finding.finding-index (c.loop-finding.finding-index + 1)
    c.list-finding-items.result.now c.finding-item.result (add-one c.loop-finding.finding-index)
    (slice_get-get_or c.list-finding-items.result.now c.loop-finding.finding-index c.finding-item.result
    (omega (arith, c.loop-finding-test.true, c.loop-finding.auto.finding-index-end)) ∙ ap Some (sym c.finding-item.is)) c.loop-finding.invariant
    c.in_ok-print_head.ensures.ok
    (subst (λ bs. Appends (g.O.Write.contents c.print_head.new.out) (g.O.Write.contents c.write_all.new.self) bs) c.deref.ensures.value
    c.in_ok-write_all.ensures.bytes)
