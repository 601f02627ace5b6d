use Rattle.std.proofs.Common.{◌∙◌, arith, inl, inr, refl}
use Rattle.std.specs.Prelude.{◌≡◌, ◌≢◌, ◌⊎◌}
use Rattle.x10_workers.specs.Plays.{events_in}
use Rattle.x10_cli.specs.declared.fault.Fault.TheVariants as fault
use Rattle.x10_cli.specs.Answers.{status_of}
use Rattle.x10_cli.specs.Showing.{manner_of}
use Rattle.x10_cli.specs.Shown.{IsStoppedIn}
use Rattle.x10_cli.proofs.ShowLemmas.{closed_fault, log_closed, log_closed_some}
use Rattle.x10_cli.proofs.ShownLemmas.{why_later}
use Rattle.x10_cli.proofs.log_shown.show_log.Goals as goal

pub returns-clause-shown : goal.returns-clause-shown
returns-clause-shown w = λ c.
    let skips = c.in_ok-skipped.ensures.skips in
    log_closed c.args.task.now.verb c.args.task.now.window c.args.verified.now.program (manner_of c.in_ok-show.show)
    (manner_of c.show_turns-ended.new.show) c.args.world.now c.skip_turns.new.world c.show_turns-ended.new.world skips.0
    c.in_ok-skipped.skipped c.show_turns-ended.result c.close.result (w.O.Write.contents c.args.out.now) (w.O.Write.contents c.begin.new.out)
    (w.O.Write.contents c.show_turns-ended.new.out) (w.O.Write.contents c.close.new.out) c.requires.program c.in_ok-show.ensures.manner
    skips.1 skips.2 c.in_ok-show.ensures.front c.show_turns-ended.ensures.manner (events_in c.args.turns.now) c.skip_turns.new.events
    (skips.3 ∙ c.new-events.ensures) c.show_turns-ended.ensures.told c.close.ensures.end

pub returns-clause-some : goal.returns-clause-some
returns-clause-some w = λ c.
    let skips = c.in_ok-skipped.ensures.skips in
    log_closed_some c.args.task.now.verb c.args.task.now.window c.args.verified.now.program (manner_of c.in_ok-show.show)
    (manner_of c.show_turns-ended.new.show) c.args.world.now c.skip_turns.new.world c.show_turns-ended.new.world skips.0
    c.in_ok-skipped.skipped c.show_turns-ended.result c.close.result (w.O.Write.contents c.args.out.now) (w.O.Write.contents c.begin.new.out)
    (w.O.Write.contents c.show_turns-ended.new.out) (w.O.Write.contents c.close.new.out) c.requires.program c.in_ok-show.ensures.manner
    skips.1 skips.2 c.in_ok-show.ensures.front c.show_turns-ended.ensures.manner (events_in c.args.turns.now) c.skip_turns.new.events
    (skips.3 ∙ c.new-events.ensures) c.show_turns-ended.ensures.told c.show_turns-ended.ensures.some c.close.ensures.err

pub returns-clause-status : goal.returns-clause-status
returns-clause-status w = λ c. closed_fault (manner_of c.show_turns-ended.new.show) c.show_turns-ended.result c.close.result
    (w.O.Write.contents c.show_turns-ended.new.out) (w.O.Write.contents c.close.new.out) (λ e. status_of e ≢ 1) (λ s. omega (arith, s))
    (λ s. omega (arith, s)) c.show_turns-ended.ensures.status c.close.ensures.err

pub returns-clause-why : goal.returns-clause-why
returns-clause-why w = λ c.
    let skips = c.in_ok-skipped.ensures.skips in
    closed_fault (manner_of c.show_turns-ended.new.show) c.show_turns-ended.result c.close.result
    (w.O.Write.contents c.show_turns-ended.new.out) (w.O.Write.contents c.close.new.out)
    (λ e. (e ≡ fault.File) ⊎ (e ≡ fault.Memory) ⊎ IsStoppedIn c.args.world.now (events_in c.args.turns.now) e) (inl refl) (inr (inl refl))
    (why_later c.args.world.now c.skip_turns.new.world skips.0 c.skip_turns.new.events (events_in c.args.turns.now) c.show_turns-ended.result
    (skips.3 ∙ c.new-events.ensures) skips.1.runs c.show_turns-ended.ensures.why) c.close.ensures.err
