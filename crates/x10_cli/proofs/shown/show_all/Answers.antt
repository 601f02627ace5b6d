use Rattle.std.proofs.Common.{arith}
use Rattle.std.specs.Prelude.{◌≢◌}
use Rattle.x10_cli.specs.Answers.{status_of}
use Rattle.x10_cli.specs.Showing.{manner_of}
use Rattle.x10_cli.proofs.ShowLemmas.{closed_fault, run_closed, run_closed_some}
use Rattle.x10_cli.proofs.shown.show_all.Goals as goal

pub returns-clause-shown : goal.returns-clause-shown
returns-clause-shown w = λ c.
    let skips = c.in_ok-skipped.ensures.skips in
    run_closed c.args.task.now.verb c.args.task.now.window c.args.verified.now.program (manner_of c.in_ok-show.show)
    (manner_of c.show_run-ended.new.show) c.args.world.now c.skip_events.new.world c.show_run-ended.new.world skips.0 c.in_ok-skipped.skipped
    c.show_run-ended.result c.close.result (w.O.Write.contents c.args.out.now) (w.O.Write.contents c.begin.new.out)
    (w.O.Write.contents c.show_run-ended.new.out) (w.O.Write.contents c.close.new.out) c.requires c.in_ok-show.ensures.manner skips.1 skips.2
    c.in_ok-show.ensures.front c.show_run-ended.ensures.manner c.show_run-ended.ensures.told c.close.ensures.end

pub returns-clause-some : goal.returns-clause-some
returns-clause-some w = λ c.
    let skips = c.in_ok-skipped.ensures.skips in
    run_closed_some c.args.task.now.verb c.args.task.now.window c.args.verified.now.program (manner_of c.in_ok-show.show)
    (manner_of c.show_run-ended.new.show) c.args.world.now c.skip_events.new.world c.show_run-ended.new.world skips.0 c.in_ok-skipped.skipped
    c.show_run-ended.result c.close.result (w.O.Write.contents c.args.out.now) (w.O.Write.contents c.begin.new.out)
    (w.O.Write.contents c.show_run-ended.new.out) (w.O.Write.contents c.close.new.out) c.requires c.in_ok-show.ensures.manner skips.1 skips.2
    c.in_ok-show.ensures.front c.show_run-ended.ensures.manner c.show_run-ended.ensures.told c.show_run-ended.ensures.some c.close.ensures.err

pub returns-clause-status : goal.returns-clause-status
returns-clause-status w = λ c. closed_fault (manner_of c.show_run-ended.new.show) c.show_run-ended.result c.close.result
    (w.O.Write.contents c.show_run-ended.new.out) (w.O.Write.contents c.close.new.out) (λ e. status_of e ≢ 1) (λ s. omega (arith, s))
    (λ s. omega (arith, s)) c.show_run-ended.ensures.status c.close.ensures.err
