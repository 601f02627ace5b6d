use Rattle.std.proofs.Common.{arith}
use Rattle.std.specs.Prelude.{option_map}
use Rattle.std.specs.String.{string_bytes}
use Rattle.std.proofs.KnownBytes.{Keeps-trans}
use Rattle.x10_cli.specs.declared.fault.Fault.TheVariants as told
use Rattle.x10_cli.proofs.Answered.{status_told}
use Rattle.x10_cli.proofs.LogLemmas.{ended_kept, log_kept}
use Rattle.x10_cli.proofs.UndoneLemmas.{same_status}
use Rattle.x10_cli.proofs.logged.run_logged.Goals as goal

pub returns-then-is_err-clause-status : goal.returns-then-is_err-clause-status
returns-then-is_err-clause-status w = λ c. status_told _ told.File c.tell.ensures.status

pub returns-in-Err-clause-status : goal.returns-in-Err-clause-status
returns-in-Err-clause-status w = λ c. status_told _ c.in-Err.fault c.refuse.ensures.status

pub returns-in-Ok-clause-ended : goal.returns-in-Ok-clause-ended
returns-in-Ok-clause-ended w = λ c. λ e. ended_kept c.args.task.now.places c.args.task.now.json c.args.bytes.now
    (option_map string_bytes c.print_logged-done.new.log) (w.O.Write.contents c.args.out.now)
    (w.O.Write.contents c.print_logged-done.new.out) (w.O.Write.contents c.flush.new.self) c.in-Ok.ensures.ended c.flush.ensures.bytes

pub returns-in-Err-clause-left_refused : goal.returns-in-Err-clause-left_refused
returns-in-Err-clause-left_refused w = λ c. λ s.
    let h = c.in-Err.ensures.refused_early (same_status c.refuse.result 1 c.in-Err.fault c.refuse.ensures.status s (λ x. omega (arith, x))) in (
      h.0,
      Keeps-trans (w.O.Write.contents c.args.out.now) (w.O.Write.contents c.print_logged-done.new.out) (w.O.Write.contents c.flush.new.self)
          h.1 c.flush.ensures.bytes,
    )

pub returns-in-Err-clause-left_stopped : goal.returns-in-Err-clause-left_stopped
returns-in-Err-clause-left_stopped w = λ c. λ s.
    log_kept c.args.task.now.places c.args.task.now.json c.args.bytes.now (option_map string_bytes c.print_logged-done.new.log)
    (w.O.Write.contents c.args.out.now) (w.O.Write.contents c.print_logged-done.new.out) (w.O.Write.contents c.flush.new.self)
    (c.in-Err.ensures.stopped (same_status c.refuse.result 2 c.in-Err.fault c.refuse.ensures.status s (λ x. omega (arith, x))))
    c.flush.ensures.bytes
