use Rattle.x10_cli.specs.declared.fault.Fault.TheVariants as told
use Rattle.x10_cli.proofs.Answered.{status_told}
use Rattle.x10_cli.proofs.LogLemmas.{audited_kept, left_by}
use Rattle.x10_cli.proofs.audited.audit_logged.Goals as goal

pub returns-then-is_err-clause-status : goal.returns-then-is_err-clause-status
returns-then-is_err-clause-status w = λ c. status_told _ told.File c.tell.ensures.status

pub returns-in-Err-clause-status : goal.returns-in-Err-clause-status
returns-in-Err-clause-status w = λ c. status_told _ c.in-Err.fault c.refuse.ensures.status

pub returns-in-Ok-clause-done : goal.returns-in-Ok-clause-done
returns-in-Ok-clause-done w = λ c. λ e. audited_kept c.args.task.now.json c.args.bytes.now c.args.log.now
    (w.O.Write.contents c.args.out.now) (w.O.Write.contents c.print_audited-done.new.out)
    (w.O.Write.contents c.flush.new.self) c.in-Ok.ensures.done c.flush.ensures.bytes

pub returns-in-Err-clause-left : goal.returns-in-Err-clause-left
returns-in-Err-clause-left w = λ c. λ s. left_by c.refuse.result c.in-Err.fault
    (w.O.Write.contents c.args.out.now) (w.O.Write.contents c.print_audited-done.new.out) (w.O.Write.contents c.flush.new.self)
    c.refuse.ensures.status s c.in-Err.ensures.kept c.flush.ensures.bytes
