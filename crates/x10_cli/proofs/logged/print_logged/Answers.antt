use Rattle.std.proofs.Common.{refl}
use Rattle.std.proofs.lemmas.Result.{err_from_is_err_and}
use Rattle.std.specs.Prelude.{option_map}
use Rattle.std.specs.String.{string_bytes}
use Rattle.x10_world.specs.Endings.{lines_in}
use Rattle.x10_cli.proofs.Answered.{not_worked, work_kept}
use Rattle.x10_cli.proofs.Dues.{due_work}
use Rattle.x10_cli.proofs.LogLemmas.{log_left, no_log, run_ended}
use Rattle.x10_cli.proofs.logged.print_logged.Goals as goal

pub returns-in_err-verified-clause-due : goal.returns-in_err-verified-clause-due
returns-in_err-verified-clause-due w = λ c.
    let told = err_from_is_err_and c.from_residual.result c.from_residual.ensures.1 in
    rw (told.1, told.2) (c.in_err-verified.ensures.due c.args.task.now.places)

pub returns-in-Ok-clause-ended : goal.returns-in-Ok-clause-ended
returns-in-Ok-clause-ended w = λ c.
    run_ended c.args.task.now.json c.print_with_log.result c.args.bytes.now c.in_ok-verified.verified c.args.task.now.places
    c.places_of-places.result (option_map string_bytes c.print_with_log.new.log) c.in-Ok.report.log.items
    (lines_in c.in-Ok.report.outputs.items) (w.O.Write.contents c.args.out.now) (w.O.Write.contents c.print_with_log.new.out)
    c.in_ok-verified.ensures.found c.places_of-places.ensures c.in-Ok.ensures.ok
    (λ forbidden. absurd (let refused = c.in-Ok.ensures.places.1 forbidden in cc)) c.in-Ok.ensures.within c.print_with_log.ensures.log c.print_with_log.ensures.ok

pub returns-clause-refused : goal.returns-clause-refused
returns-clause-refused g = λ c.
    not_worked c.args.bytes.now c.in_ok-verified.verified c.args.task.now.places c.places_of-places.result c.in-Err.why c.from.result
    c.in_ok-verified.ensures.found (λ e. c.in-Err.ensures.places.0 (rw e refl)) c.places_of-places.ensures c.from.ensures

pub returns-clause-due : goal.returns-clause-due
returns-clause-due g = λ c.
    due_work c.args.task.now.places c.args.bytes.now c.in_ok-verified.verified c.places_of-places.result c.in-Err.why c.from.result
    c.in_ok-verified.ensures.found (λ e. c.in-Err.ensures.places.0 (rw e refl)) c.places_of-places.ensures c.from.ensures

pub returns-clause-refused_early : goal.returns-clause-refused_early
returns-clause-refused_early g = λ c. λ s. (
  no_log string_bytes c.args.bytes.now c.print_told_with_log.new.log c.places_of-places.result c.in-Err.why c.from.result c.from.ensures
      c.in_ok-print_told_with_log-in-Err.ensures.log s,
  work_kept c.args.task.now.json c.in-Err.why c.from.result (g.O.Write.contents c.args.out.now)
      (g.O.Write.contents c.print_told_with_log.new.out) c.from.ensures c.in_ok-print_told_with_log-in-Err.ensures.ok s,
)

pub returns-clause-stopped : goal.returns-clause-stopped
returns-clause-stopped g = λ c. λ s.
    log_left c.args.task.now.json c.args.bytes.now c.in_ok-verified.verified c.args.task.now.places c.places_of-places.result
    c.args.task.now.limit c.in-Err.why (option_map string_bytes c.print_told_with_log.new.log) (g.O.Write.contents c.args.out.now)
    (g.O.Write.contents c.print_told_with_log.new.out) c.in_ok-verified.ensures.found c.places_of-places.ensures c.in-Err.ensures.told
    c.in_ok-print_told_with_log-in-Err.ensures.log c.in_ok-print_told_with_log-in-Err.ensures.ok
