use Rattle.std.proofs.Common.{subst}
use Rattle.std.proofs.lemmas.Result.{err_from_is_err_and}
use Rattle.std.specs.Io.KnownBytes.{Appends}
use Rattle.std.specs.Prelude.{None, OnOk}
use Rattle.x10_cli.specs.Lines.{all_lines}
use Rattle.x10_world.specs.Endings.{lines_in}
use Rattle.x10_cli.proofs.LogLemmas.{audited_by, due_module, due_printed}
use Rattle.x10_cli.proofs.audited.print_audited.Goals as goal

pub returns-in_err-verified-clause-due : goal.returns-in_err-verified-clause-due
returns-in_err-verified-clause-due w = λ c.
    let told = err_from_is_err_and c.from_residual.result c.from_residual.ensures.1 in
    rw (told.1, told.2) (due_module c.args.bytes.now c.args.log.now c.in_err-verified.field-0.0 (c.in_err-verified.ensures.due None)
    c.in_err-verified.ensures.kind)

pub returns-in_err-outputs-clause-due : goal.returns-in_err-outputs-clause-due
returns-in_err-outputs-clause-due w = λ c.
    let told = err_from_is_err_and c.from_residual-in_err-outputs.result c.from_residual-in_err-outputs.ensures.1 in
    rw (told.1, told.2) (c.in_err-outputs.ensures.due c.args.bytes.now c.args.log.now c.in_ok-verified.ensures.found c.in_ok-read.ensures.reads)

pub returns-clause-done : goal.returns-clause-done
returns-clause-done w = λ c.
    audited_by c.args.task.now.json c.print_report.result c.args.bytes.now c.args.log.now c.in_ok-verified.verified c.in_ok-read.read
    (lines_in c.in_ok-outputs.outputs.items) (w.O.Write.contents c.args.out.now) (w.O.Write.contents c.print_report.new.out)
    c.in_ok-verified.ensures.found c.in_ok-read.ensures.reads c.in_ok-outputs.ensures.plays
    (subst (λ os. OnOk c.print_report.result (Appends (w.O.Write.contents c.args.out.now) (w.O.Write.contents c.print_report.new.out)
    (all_lines c.args.task.now.json 0 (lines_in os)))) c.deref.ensures.value c.print_report.ensures.ok)

pub returns-clause-due : goal.returns-clause-due
returns-clause-due w = λ c. due_printed c.print_report.result c.args.bytes.now c.args.log.now c.print_report.ensures.kind
