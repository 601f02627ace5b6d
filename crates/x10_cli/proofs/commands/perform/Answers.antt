use Rattle.x10_cli.proofs.UndoneLemmas.{run_stopped}
use Rattle.x10_task.specs.declared.task.Verb.TheVariants as verb
use Rattle.std.proofs.Common.{true, false}
use Rattle.x10_cli.proofs.commands.perform.Goals as goal

pub returns-in-Asm-clause-due : goal.returns-in-Asm-clause-due
returns-in-Asm-clause-due w = λ c. c.print_image.ensures.due c.args.task.now.places

pub returns-in-List-clause-due : goal.returns-in-List-clause-due
returns-in-List-clause-due w = λ c. c.print_listing.ensures.due c.args.task.now.places

pub returns-in-ListVerbose-clause-due : goal.returns-in-ListVerbose-clause-due
returns-in-ListVerbose-clause-due w = λ c. c.print_verbose.ensures.due c.args.task.now.places

pub returns-in-Check-clause-due : goal.returns-in-Check-clause-due
returns-in-Check-clause-due w = λ c. c.print_check.ensures.due c.args.task.now.places

pub returns-in-Verify-clause-due : goal.returns-in-Verify-clause-due
returns-in-Verify-clause-due w = λ c. c.print_verdict.ensures.due c.args.task.now.places

pub returns-in-Bounds-clause-due : goal.returns-in-Bounds-clause-due
returns-in-Bounds-clause-due w = λ c. c.print_bounds.ensures.due c.args.task.now.places

pub returns-in-Run-clause-left_stopped : goal.returns-in-Run-clause-left_stopped
returns-in-Run-clause-left_stopped w = λ c. run_stopped c.print_threaded.result c.args.task.now.verb verb.Run c.args.task.now.json
    c.args.task.now.threads true c.args.task.now.places c.args.bytes.now (w.O.Write.contents c.args.out.now)
    (w.O.Write.contents c.print_threaded.new.out) c.in-Run.is c.if-task.true c.print_threaded.ensures.stopped

pub returns-in-Run-2-clause-left_stopped : goal.returns-in-Run-2-clause-left_stopped
returns-in-Run-2-clause-left_stopped w = λ c. run_stopped c.print_run.result c.args.task.now.verb verb.Run c.args.task.now.json
    c.args.task.now.threads false c.args.task.now.places c.args.bytes.now (w.O.Write.contents c.args.out.now)
    (w.O.Write.contents c.print_run.new.out) c.in-Run.is c.if-task.false c.print_run.ensures.stopped

pub returns-in-Explain-clause-due : goal.returns-in-Explain-clause-due
returns-in-Explain-clause-due w = λ c. c.print_section.ensures.due c.args.task.now.places
