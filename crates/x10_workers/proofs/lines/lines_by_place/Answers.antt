use Rattle.std.proofs.Common.{subst, arith, take_all}
use Rattle.x10_world.specs.Endings.{lines_in}
use Rattle.x10_workers.specs.Reports.{AreLinesBy}
use Rattle.x10_workers.proofs.ReportLines.{lines_none, lines_more}
use Rattle.x10_workers.proofs.WorkLemmas.{take_seen}
use Rattle.x10_workers.proofs.lines.lines_by_place.Goals as goal

pub loop-at-init : goal.loop-at-init
loop-at-init c = lines_none c.args.places (lines_in c.in_ok-lists.lists.items) c.in_ok-lists.ensures

pub loop-at-preserved : goal.loop-at-preserved
loop-at-preserved c = lines_more c.args.places c.args.log.now.items c.loop-at.at c.at.result.now (lines_in c.loop-at.lists.items)
    (lines_in c.push_turn.new.lists.items) (take_seen c.args.log.now.items c.loop-at.at c.at.result.now c.at.ensures) c.loop-at.invariant
    c.in_ok-push_turn.ensures

pub returns : goal.returns
returns c = subst (λ ts. AreLinesBy c.args.places ts (lines_in c.loop-at.lists.items))
    (take_all c.loop-at.at c.args.log.now.items (omega (arith, c.loop-at-test.false, c.len-at-end.ensures))) c.loop-at.invariant
