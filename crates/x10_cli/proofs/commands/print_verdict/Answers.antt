use Rattle.std.proofs.lemmas.Result.{err_from_is_err_and}
use Rattle.x10_cli.proofs.Answered.{printed_verdict}
use Rattle.x10_cli.proofs.commands.print_verdict.Goals as goal

pub returns-clause-printed : goal.returns-clause-printed
returns-clause-printed w = λ c.
    printed_verdict c.args.bytes.now c.in_ok-verified.verified c.image-image.result.now c.functions-functions.result c.entry.result c.from.result
    c.bound-bound.result (w.O.Write.contents c.args.out.now) (w.O.Write.contents c.writeln.new.self)
    c.in_ok-verified.ensures.found c.image-image.ensures c.functions-functions.ensures.value c.entry.ensures.value c.from.ensures
    c.bound-bound.ensures c.in_ok-writeln.ensures.bytes

pub returns-in_err-verified-clause-due : goal.returns-in_err-verified-clause-due
returns-in_err-verified-clause-due g = λ c. λ asked.
    let told = err_from_is_err_and c.from_residual.result c.from_residual.ensures.1 in
    rw (told.1, told.2) (c.in_err-verified.ensures.due asked)
