use Rattle.std.proofs.Common.{List, inl, subst}
use Rattle.std.proofs.lemmas.Result.{err_from_is_err_and}
use Rattle.std.specs.Prelude.{◌≡◌, ◌⊎◌, IfErr, None, OnOk}
use Rattle.std.specs.Io.KnownBytes.{Keeps}
use Rattle.x10_hall.specs.declared.turn.Turn.{Turn}
use Rattle.x10_workers.specs.Plays.{events_in}
use Rattle.x10_cli.specs.declared.fault.Fault.TheVariants as fault
use Rattle.x10_cli.specs.Shown.{IsStoppedIn, ShowsAll, ShowsFirst}
use Rattle.x10_cli.proofs.LogLemmas.{due_module}
use Rattle.x10_cli.proofs.ShownLemmas.{log_shown, log_shown_some, shown_audited, shown_stopped}
use Rattle.x10_cli.proofs.UndoneLemmas.{kept_self}
use Rattle.x10_cli.proofs.log_shown.print_log.Goals as goal

pub returns-in_err-verified-clause-due : goal.returns-in_err-verified-clause-due
returns-in_err-verified-clause-due w = λ c.
    let told = err_from_is_err_and c.from_residual.result c.from_residual.ensures.1 in
    rw (told.1, told.2) (shown_audited c.args.bytes.now c.args.log.now c.in_err-verified.field-0.0
    (due_module c.args.bytes.now c.args.log.now c.in_err-verified.field-0.0 (c.in_err-verified.ensures.due None) c.in_err-verified.ensures.kind))

pub returns-in_err-read-clause-due : goal.returns-in_err-read-clause-due
returns-in_err-read-clause-due w = λ c.
    let told = err_from_is_err_and c.from_residual-in_err-read.result c.from_residual-in_err-read.ensures.1 in
    rw (told.1, told.2) (shown_audited c.args.bytes.now c.args.log.now c.in_err-read.field-0.0 c.in_err-read.ensures.due)

pub returns-in_err-world-clause-due : goal.returns-in_err-world-clause-due
returns-in_err-world-clause-due w = λ c.
    let told = err_from_is_err_and c.from_residual-in_err-world.result c.from_residual-in_err-world.ensures.1 in
    rw (told.1, told.2, c.in_err-world.ensures.err) tt

pub returns-in_err-verified-clause-stopped : goal.returns-in_err-verified-clause-stopped
returns-in_err-verified-clause-stopped w = λ c.
    let told = err_from_is_err_and c.from_residual.result c.from_residual.ensures.1 in
    rw told.1 (λ s. inl (kept_self (w.O.Write.contents c.args.out.now)))

pub returns-in_err-read-clause-stopped : goal.returns-in_err-read-clause-stopped
returns-in_err-read-clause-stopped w = λ c.
    let told = err_from_is_err_and c.from_residual-in_err-read.result c.from_residual-in_err-read.ensures.1 in
    rw told.1 (λ s. inl (kept_self (w.O.Write.contents c.args.out.now)))

pub returns-in_err-world-clause-stopped : goal.returns-in_err-world-clause-stopped
returns-in_err-world-clause-stopped w = λ c.
    let told = err_from_is_err_and c.from_residual-in_err-world.result c.from_residual-in_err-world.ensures.1 in
    rw told.1 (λ s. inl (kept_self (w.O.Write.contents c.args.out.now)))

pub returns-clause-due : goal.returns-clause-due
returns-clause-due w = λ c.
    shown_stopped c.show_log.result c.args.bytes.now c.args.log.now c.in_ok-verified.verified c.in_ok-read.read.places
    c.in_ok-read.read.turns.items c.in_ok-world.world c.in_ok-read.ensures.plays c.in_ok-world.ensures.opened
    (subst (λ (ts : List Turn). IfErr c.show_log.result (λ e. (e ≡ fault.File) ⊎ (e ≡ fault.Memory)
    ⊎ IsStoppedIn c.in_ok-world.world (events_in ts) e)) c.deref.ensures.value c.show_log.ensures.why)

pub returns-clause-done : goal.returns-clause-done
returns-clause-done w = λ c.
    log_shown c.show_log.result c.args.bytes.now c.args.log.now c.in_ok-verified.verified c.in_ok-read.read.places
    c.in_ok-read.read.turns.items c.in_ok-world.world (w.O.Write.contents c.args.out.now) (w.O.Write.contents c.show_log.new.out)
    c.in_ok-read.ensures.plays c.in_ok-world.ensures.opened c.args.task.now.verb c.args.task.now.window
    (subst (λ (ts : List Turn). OnOk c.show_log.result (ShowsAll c.args.task.now.verb c.args.task.now.window c.in_ok-world.world (events_in ts)
    (w.O.Write.contents c.args.out.now) (w.O.Write.contents c.show_log.new.out))) c.deref.ensures.value c.show_log.ensures.shown)

pub returns-clause-stopped : goal.returns-clause-stopped
returns-clause-stopped w = λ c.
    log_shown_some c.show_log.result c.args.bytes.now c.args.log.now c.in_ok-verified.verified c.in_ok-read.read.places
    c.in_ok-read.read.turns.items c.in_ok-world.world (w.O.Write.contents c.args.out.now) (w.O.Write.contents c.show_log.new.out)
    c.in_ok-read.ensures.plays c.in_ok-world.ensures.opened c.args.task.now.verb c.args.task.now.window
    (subst (λ (ts : List Turn). IfErr c.show_log.result (λ e. (e ≡ fault.File)
    ⊎ Keeps (w.O.Write.contents c.args.out.now) (w.O.Write.contents c.show_log.new.out)
    ⊎ ShowsFirst c.args.task.now.verb c.args.task.now.window c.in_ok-world.world (events_in ts) (w.O.Write.contents c.args.out.now) (w.O.Write.contents c.show_log.new.out)))
    c.deref.ensures.value c.show_log.ensures.some)
