use Rattle.std.proofs.Common.{inl}
use Rattle.std.proofs.lemmas.Result.{err_from_is_err_and}
use Rattle.x10_cli.proofs.UndoneLemmas.{kept_self}
use Rattle.x10_cli.proofs.RunLemmas.{done_by, due_unless}
use Rattle.x10_cli.proofs.ShowLemmas.{all_asked, all_printed, asked_left, can_be_run, can_be_shown, leaves_shown, some_asked, some_left}
use Rattle.x10_cli.specs.Answers.{CanBeDone}
use Rattle.x10_cli.proofs.shown.print_shown.Goals as goal

pub returns-in_err-verified-clause-due : goal.returns-in_err-verified-clause-due
returns-in_err-verified-clause-due w = λ c.
    let told = err_from_is_err_and c.from_residual.result c.from_residual.ensures.1 in
    rw (told.1, told.2) (c.in_err-verified.ensures.due c.args.task.now.places)

pub returns-in_err-verified-clause-refused : goal.returns-in_err-verified-clause-refused
returns-in_err-verified-clause-refused w = λ c.
    let told = err_from_is_err_and c.from_residual.result c.from_residual.ensures.1 in
    rw (told.1, told.2) (λ s done.
    let run = can_be_run c.args.task.now.verb c.args.task.now.places c.args.bytes.now c.requires done in
    c.in_err-verified.ensures.refused s (run.0, run.1))

pub returns-in_err-verified-clause-stopped : goal.returns-in_err-verified-clause-stopped
returns-in_err-verified-clause-stopped w = λ c.
    let told = err_from_is_err_and c.from_residual.result c.from_residual.ensures.1 in
    rw told.1 (λ s. leaves_shown c.args.task.now.verb c.args.task.now.json c.args.task.now.threads c.args.task.now.window
    c.args.task.now.places c.args.bytes.now (w.O.Write.contents c.args.out.now) (w.O.Write.contents c.args.out.now) c.requires
    (inl (kept_self (w.O.Write.contents c.args.out.now))))

pub returns-in_err-world-clause-due : goal.returns-in_err-world-clause-due
returns-in_err-world-clause-due w = λ c.
    let told = err_from_is_err_and c.from_residual-in_err-world.result c.from_residual-in_err-world.ensures.1 in
    rw (told.1, told.2) (c.in_err-world.ensures.due c.args.bytes.now c.in_ok-verified.ensures.found)

pub returns-in_err-world-clause-refused : goal.returns-in_err-world-clause-refused
returns-in_err-world-clause-refused w = λ c.
    let told = err_from_is_err_and c.from_residual-in_err-world.result c.from_residual-in_err-world.ensures.1 in
    rw (told.1, told.2) (λ s done. c.in_err-world.ensures.refused c.args.bytes.now c.in_ok-verified.ensures.found s
    (can_be_run c.args.task.now.verb c.args.task.now.places c.args.bytes.now c.requires done))

pub returns-in_err-world-clause-stopped : goal.returns-in_err-world-clause-stopped
returns-in_err-world-clause-stopped w = λ c.
    let told = err_from_is_err_and c.from_residual-in_err-world.result c.from_residual-in_err-world.ensures.1 in
    rw told.1 (λ s. leaves_shown c.args.task.now.verb c.args.task.now.json c.args.task.now.threads c.args.task.now.window
    c.args.task.now.places c.args.bytes.now (w.O.Write.contents c.args.out.now) (w.O.Write.contents c.args.out.now) c.requires
    (inl (kept_self (w.O.Write.contents c.args.out.now))))

pub returns-clause-due : goal.returns-clause-due
returns-clause-due w = λ c. due_unless c.show_all.result c.args.task.now.places c.args.bytes.now c.show_all.ensures.status

pub returns-clause-done : goal.returns-clause-done
returns-clause-done w = λ c. done_by c.show_all.result (CanBeDone c.args.task.now.verb c.args.task.now.places c.args.bytes.now)
    (can_be_shown c.args.task.now.verb c.args.task.now.places c.args.bytes.now c.requires
    (c.in_ok-verified.verified, c.in_ok-verified.ensures.found, c.in_ok-world.ensures.permitted))

pub returns-in_err-verified-clause-left : goal.returns-in_err-verified-clause-left
returns-in_err-verified-clause-left w = λ c.
    let told = err_from_is_err_and c.from_residual.result c.from_residual.ensures.1 in
    rw told.1 (λ s. asked_left c.args.task.now.verb c.args.task.now.window c.args.task.now.places c.args.bytes.now
    (w.O.Write.contents c.args.out.now) (w.O.Write.contents c.args.out.now) (inl (kept_self (w.O.Write.contents c.args.out.now))))

pub returns-in_err-world-clause-left : goal.returns-in_err-world-clause-left
returns-in_err-world-clause-left w = λ c.
    let told = err_from_is_err_and c.from_residual-in_err-world.result c.from_residual-in_err-world.ensures.1 in
    rw told.1 (λ s. asked_left c.args.task.now.verb c.args.task.now.window c.args.task.now.places c.args.bytes.now
    (w.O.Write.contents c.args.out.now) (w.O.Write.contents c.args.out.now) (inl (kept_self (w.O.Write.contents c.args.out.now))))

pub returns-clause-printed : goal.returns-clause-printed
returns-clause-printed w = λ c.
    all_printed c.show_all.result c.args.task.now.verb c.args.task.now.window c.args.task.now.places c.args.bytes.now
    c.in_ok-verified.verified c.in_ok-world.world (w.O.Write.contents c.args.out.now) (w.O.Write.contents c.show_all.new.out)
    c.in_ok-verified.ensures.found c.in_ok-world.ensures.opened c.args.task.now.json c.show_all.new.world c.requires c.show_all.ensures.shown

pub returns-clause-shown : goal.returns-clause-shown
returns-clause-shown w = λ c.
    all_asked c.show_all.result c.args.task.now.verb c.args.task.now.window c.args.task.now.places c.args.bytes.now
    c.in_ok-verified.verified c.in_ok-world.world (w.O.Write.contents c.args.out.now) (w.O.Write.contents c.show_all.new.out)
    c.in_ok-verified.ensures.found c.in_ok-world.ensures.opened c.show_all.new.world c.show_all.ensures.shown

pub returns-clause-stopped : goal.returns-clause-stopped
returns-clause-stopped w = λ c.
    some_left c.show_all.result c.args.task.now.verb c.args.task.now.window c.args.task.now.places c.args.bytes.now
    c.in_ok-verified.verified c.in_ok-world.world (w.O.Write.contents c.args.out.now) (w.O.Write.contents c.show_all.new.out)
    c.in_ok-verified.ensures.found c.in_ok-world.ensures.opened c.args.task.now.json c.args.task.now.threads c.requires c.show_all.ensures.some

pub returns-clause-left : goal.returns-clause-left
returns-clause-left w = λ c.
    some_asked c.show_all.result c.args.task.now.verb c.args.task.now.window c.args.task.now.places c.args.bytes.now
    c.in_ok-verified.verified c.in_ok-world.world (w.O.Write.contents c.args.out.now) (w.O.Write.contents c.show_all.new.out)
    c.in_ok-verified.ensures.found c.in_ok-world.ensures.opened c.show_all.ensures.some
