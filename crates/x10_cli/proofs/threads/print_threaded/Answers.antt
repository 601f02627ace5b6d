use Rattle.std.proofs.lemmas.Result.{err_from_is_err_and}
use Rattle.std.proofs.Common.{inl}
use Rattle.x10_cli.proofs.Answered.{work_left, work_kept}
use Rattle.x10_cli.proofs.Dues.{due_work}
use Rattle.x10_cli.proofs.UndoneLemmas.{kept_self}
use Rattle.std.proofs.Common.{refl}
use Rattle.x10_cli.proofs.Answered.{not_worked}
use Rattle.x10_cli.proofs.threads.print_threaded.Goals as goal

pub returns-clause-refused : goal.returns-clause-refused
returns-clause-refused g = λ c.
    not_worked c.args.bytes.now c.in_ok-verified.verified c.args.task.now.places c.places_of-places.result c.in-Err.why c.from.result
    c.in_ok-verified.ensures.found (λ e. c.in-Err.ensures.places.0 (rw e refl)) c.places_of-places.ensures c.from.ensures

pub returns-in_err-verified-clause-due : goal.returns-in_err-verified-clause-due
returns-in_err-verified-clause-due w = λ c.
    let told = err_from_is_err_and c.from_residual.result c.from_residual.ensures.1 in
    rw (told.1, told.2) (c.in_err-verified.ensures.due c.args.task.now.places)

pub returns-in_err-verified-clause-stopped : goal.returns-in_err-verified-clause-stopped
returns-in_err-verified-clause-stopped w = λ c.
    let told = err_from_is_err_and c.from_residual.result c.from_residual.ensures.1 in
    rw told.1 (λ s. inl (kept_self (w.O.Write.contents c.args.out.now)))

pub returns-clause-due : goal.returns-clause-due
returns-clause-due g = λ c.
    due_work c.args.task.now.places c.args.bytes.now c.in_ok-verified.verified c.places_of-places.result c.in-Err.why c.from.result
    c.in_ok-verified.ensures.found (λ e. c.in-Err.ensures.places.0 (rw e refl)) c.places_of-places.ensures c.from.ensures

pub returns-clause-refused_early : goal.returns-clause-refused_early
returns-clause-refused_early g = λ c. work_kept c.args.task.now.json c.in-Err.why c.from.result (g.O.Write.contents c.args.out.now)
    (g.O.Write.contents c.print_told.new.out) c.from.ensures c.in_ok-print_told-in-Err.ensures.ok

pub returns-clause-stopped : goal.returns-clause-stopped
returns-clause-stopped g = λ c. λ s.
    work_left c.args.task.now.json c.args.bytes.now c.in_ok-verified.verified c.args.task.now.places c.places_of-places.result c.args.task.now.limit
    c.in-Err.why (g.O.Write.contents c.args.out.now) (g.O.Write.contents c.print_told.new.out) c.in_ok-verified.ensures.found
    c.places_of-places.ensures c.in-Err.ensures.told c.in_ok-print_told-in-Err.ensures.ok
