use Rattle.std.proofs.lemmas.Result.{err_from_is_err_and}
use Rattle.std.proofs.Common.{ap, inl}
use Rattle.std.specs.Prelude.{option_map}
use Rattle.std.specs.String.{string_bytes}
use Rattle.x10_cli.proofs.UndoneLemmas.{kept_self}
use Rattle.x10_cli.proofs.RunLemmas.{done_by, due_unless}
use Rattle.x10_cli.proofs.CountLemmas.{counts_left, stops_left, module_memory, opened_memory}
use Rattle.x10_task.specs.declared.task.Verb.TheVariants as verb
use Rattle.x10_cli.specs.Answers.{CanBeDone}
use Rattle.x10_cli.proofs.counted.print_counted.Goals as goal

pub returns-in_err-verified-clause-due : goal.returns-in_err-verified-clause-due
returns-in_err-verified-clause-due w = λ c.
    let told = err_from_is_err_and c.from_residual.result c.from_residual.ensures.1 in
    rw (told.1, told.2) (c.in_err-verified.ensures.due c.args.task.now.places)

pub returns-in_err-verified-clause-stopped : goal.returns-in_err-verified-clause-stopped
returns-in_err-verified-clause-stopped w = λ c.
    let told = err_from_is_err_and c.from_residual.result c.from_residual.ensures.1 in
    rw (told.1, told.2) (λ s. inl (
      module_memory c.in_err-verified.field-0.0 c.in_err-verified.ensures.kind s,
      ap (option_map string_bytes) c.requires,
      kept_self (w.O.Write.contents c.args.out.now),
    ))

pub returns-in_err-world-clause-due : goal.returns-in_err-world-clause-due
returns-in_err-world-clause-due w = λ c.
    let told = err_from_is_err_and c.from_residual-in_err-world.result c.from_residual-in_err-world.ensures.1 in
    rw (told.1, told.2) (c.in_err-world.ensures.due c.args.bytes.now c.in_ok-verified.ensures.found)

pub returns-in_err-world-clause-refused : goal.returns-in_err-world-clause-refused
returns-in_err-world-clause-refused w = λ c.
    let told = err_from_is_err_and c.from_residual-in_err-world.result c.from_residual-in_err-world.ensures.1 in
    rw (told.1, told.2) (c.in_err-world.ensures.refused c.args.bytes.now c.in_ok-verified.ensures.found)

pub returns-in_err-world-clause-stopped : goal.returns-in_err-world-clause-stopped
returns-in_err-world-clause-stopped w = λ c.
    let told = err_from_is_err_and c.from_residual-in_err-world.result c.from_residual-in_err-world.ensures.1 in
    rw (told.1, told.2) (λ s. inl (
      opened_memory c.in_err-world.field-0.0 c.in_err-world.ensures.kind s,
      ap (option_map string_bytes) c.requires,
      kept_self (w.O.Write.contents c.args.out.now),
    ))

pub returns-clause-due : goal.returns-clause-due
returns-clause-due w = λ c. due_unless c.print_events.result c.args.task.now.places c.args.bytes.now c.print_events.ensures.status

pub returns-clause-counted : goal.returns-clause-counted
returns-clause-counted w = λ c.
    counts_left c.print_events.result c.args.task.now.places c.args.bytes.now c.in_ok-verified.verified c.in_ok-world.world c.args.task.now.limit
    c.args.task.now.activities c.args.task.now.json (option_map string_bytes c.print_events.new.stats) (w.O.Write.contents c.args.out.now)
    (w.O.Write.contents c.print_events.new.out) c.in_ok-verified.ensures.found c.in_ok-world.ensures.opened c.print_events.ensures.ended

pub returns-clause-stopped : goal.returns-clause-stopped
returns-clause-stopped w = λ c.
    stops_left c.print_events.result c.args.task.now.places c.args.bytes.now c.in_ok-verified.verified c.in_ok-world.world c.args.task.now.limit
    c.args.task.now.activities c.args.task.now.json (option_map string_bytes c.print_events.new.stats) (w.O.Write.contents c.args.out.now)
    (w.O.Write.contents c.print_events.new.out) c.in_ok-verified.ensures.found c.in_ok-world.ensures.opened c.print_events.ensures.stopped

pub returns-clause-done : goal.returns-clause-done
returns-clause-done w = λ c. done_by c.print_events.result (CanBeDone verb.Run c.args.task.now.places c.args.bytes.now)
    (c.in_ok-verified.verified, c.in_ok-verified.ensures.found, c.in_ok-world.ensures.permitted)
