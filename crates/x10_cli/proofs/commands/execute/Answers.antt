use Rattle.x10_cli.proofs.UndoneLemmas.{left_asked_kept, no_failure, same_status, stopped_kept, told_status}
use Rattle.std.proofs.Common.{arith}
use Rattle.x10_cli.specs.declared.fault.Fault.TheVariants as told
use Rattle.x10_cli.proofs.Answered.{status_told}
use Rattle.x10_cli.proofs.LinesPrinted.{asked_kept, prints_kept}
use Rattle.x10_cli.proofs.commands.execute.Goals as goal

pub returns-then-is_err-clause-status : goal.returns-then-is_err-clause-status
returns-then-is_err-clause-status w = λ c. status_told _ told.File c.tell.ensures.status

pub returns-in-Err-clause-status : goal.returns-in-Err-clause-status
returns-in-Err-clause-status w = λ c. status_told _ c.in-Err.fault c.refuse.ensures.status

pub returns-in-Ok-clause-printed : goal.returns-in-Ok-clause-printed
returns-in-Ok-clause-printed w = λ c. λ e. prints_kept c.args.task.now.verb c.args.task.now.json c.args.task.now.places c.args.bytes.now
    (w.O.Write.contents c.args.out.now) (w.O.Write.contents c.perform-done.new.out)
    (w.O.Write.contents c.flush.new.self) c.in-Ok.ensures.printed c.flush.ensures.bytes

pub returns-in-Ok-clause-shown : goal.returns-in-Ok-clause-shown
returns-in-Ok-clause-shown w = λ c. λ e. asked_kept c.args.task.now.verb c.args.task.now.window c.args.task.now.places c.args.bytes.now
    (w.O.Write.contents c.args.out.now) (w.O.Write.contents c.perform-done.new.out)
    (w.O.Write.contents c.flush.new.self) c.in-Ok.ensures.shown c.flush.ensures.bytes

pub returns-in-Err-clause-left_shown : goal.returns-in-Err-clause-left_shown
returns-in-Err-clause-left_shown w = λ c. λ s.
    left_asked_kept c.args.task.now.verb c.args.task.now.window c.args.task.now.places c.args.bytes.now
    (w.O.Write.contents c.args.out.now) (w.O.Write.contents c.perform-done.new.out) (w.O.Write.contents c.flush.new.self)
    (c.in-Err.ensures.left_shown (same_status c.refuse.result 2 c.in-Err.fault c.refuse.ensures.status s (λ x. omega (arith, x))))
    c.flush.ensures.bytes

pub returns-in-Err-clause-left_stopped : goal.returns-in-Err-clause-left_stopped
returns-in-Err-clause-left_stopped w = λ c. λ s.
    stopped_kept c.args.task.now.verb c.args.task.now.json c.args.task.now.threads c.args.task.now.places c.args.bytes.now
    (w.O.Write.contents c.args.out.now) (w.O.Write.contents c.perform-done.new.out) (w.O.Write.contents c.flush.new.self)
    (c.in-Err.ensures.left_stopped (same_status c.refuse.result 2 c.in-Err.fault c.refuse.ensures.status s (λ x. omega (arith, x))))
    c.flush.ensures.bytes

pub returns-in-Err-clause-told : goal.returns-in-Err-clause-told
returns-in-Err-clause-told w = λ c. λ s. (
  c.in-Err.fault,
  told_status c.refuse.result c.in-Err.fault c.refuse.ensures.status s,
  c.in-Err.ensures.due,
  c.refuse.ensures.told (no_failure c.refuse.result s),
)
