use Rattle.std.proofs.Common.{arith}
use Rattle.std.proofs.KnownBytes.{Keeps-trans}
use Rattle.x10_cli.specs.declared.fault.Fault.TheVariants as told
use Rattle.x10_cli.proofs.Answered.{status_told}
use Rattle.x10_cli.proofs.ShownLemmas.{some_shown_kept, shown_kept}
use Rattle.x10_cli.proofs.UndoneLemmas.{no_failure, same_status, told_status}
use Rattle.x10_cli.proofs.log_shown.show_logged.Goals as goal

pub returns-then-is_err-clause-status : goal.returns-then-is_err-clause-status
returns-then-is_err-clause-status w = λ c. status_told _ told.File c.tell.ensures.status

pub returns-in-Err-clause-status : goal.returns-in-Err-clause-status
returns-in-Err-clause-status w = λ c. status_told _ c.in-Err.fault c.refuse.ensures.status

pub returns-in-Ok-clause-done : goal.returns-in-Ok-clause-done
returns-in-Ok-clause-done w = λ c. λ e. shown_kept c.args.task.now.verb c.args.task.now.window c.args.bytes.now c.args.log.now
    (w.O.Write.contents c.args.out.now) (w.O.Write.contents c.print_log-done.new.out)
    (w.O.Write.contents c.flush.new.self) c.in-Ok.ensures.done c.flush.ensures.bytes

pub returns-in-Err-clause-left_refused : goal.returns-in-Err-clause-left_refused
returns-in-Err-clause-left_refused w = λ c. λ s.
    Keeps-trans (w.O.Write.contents c.args.out.now) (w.O.Write.contents c.print_log-done.new.out) (w.O.Write.contents c.flush.new.self)
    (c.in-Err.ensures.refused_early (same_status c.refuse.result 1 c.in-Err.fault c.refuse.ensures.status s (λ x. omega (arith, x))))
    c.flush.ensures.bytes

pub returns-in-Err-clause-left_stopped : goal.returns-in-Err-clause-left_stopped
returns-in-Err-clause-left_stopped w = λ c. λ s.
    some_shown_kept c.args.task.now.verb c.args.task.now.window c.args.bytes.now c.args.log.now
    (w.O.Write.contents c.args.out.now) (w.O.Write.contents c.print_log-done.new.out) (w.O.Write.contents c.flush.new.self)
    (c.in-Err.ensures.stopped (same_status c.refuse.result 2 c.in-Err.fault c.refuse.ensures.status s (λ x. omega (arith, x))))
    c.flush.ensures.bytes

pub returns-in-Err-clause-told : goal.returns-in-Err-clause-told
returns-in-Err-clause-told w = λ c. λ s. (
  c.in-Err.fault,
  told_status c.refuse.result c.in-Err.fault c.refuse.ensures.status s,
  c.in-Err.ensures.due,
  c.refuse.ensures.told (no_failure c.refuse.result s),
)
