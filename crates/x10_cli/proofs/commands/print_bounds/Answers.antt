use Rattle.x10_cli.proofs.Dues.{due_bounds}
use Rattle.std.proofs.lemmas.Result.{err_from_is_err_and}
use Rattle.std.proofs.Common.{◌+◌, add-one, arith}
use Rattle.x10_cli.proofs.LinesPrinted.{bound_more, read_there}
use Rattle.x10_cli.proofs.Answered.{no_bounds}
use Rattle.x10_cli.proofs.commands.print_bounds.Goals as goal

pub returns-in_err-bounds-clause-refused : goal.returns-in_err-bounds-clause-refused
returns-in_err-bounds-clause-refused w = λ c.
    let told = err_from_is_err_and c.from_residual-in_err-bounds.result c.from_residual-in_err-bounds.ensures.1 in
    rw told.1 (no_bounds c.args.bytes.now c.in_ok-image.image c.in_err-bounds.field-0.0 told.0 c.in_ok-image.ensures.found
    c.in_err-bounds.ensures.exact told.2)

pub loop-f-preserved : goal.loop-f-preserved
loop-f-preserved g = λ c.
    bound_more (g.O.Write.contents c.args.out.now) (g.O.Write.contents c.loop-f.out) (g.O.Write.contents c.writeln.new.self) c.loop-f.f-counter
    (c.loop-f.f-counter + 1) c.in_ok-bounds.bounds.items c.index.result.now (add-one c.loop-f.f-counter)
    (read_there c.in_ok-bounds.bounds.items c.loop-f.f-counter c.index.result.now
    (omega (arith, c.loop-f-test.true, c.len-f-end.ensures)) c.index.ensures) c.loop-f.invariant c.in_ok-writeln.ensures.bytes

pub returns-in_err-image-clause-due : goal.returns-in_err-image-clause-due
returns-in_err-image-clause-due g = λ c. λ asked.
    let told = err_from_is_err_and c.from_residual.result c.from_residual.ensures.1 in
    rw (told.1, told.2) (c.in_err-image.ensures.due asked)

pub returns-in_err-bounds-clause-due : goal.returns-in_err-bounds-clause-due
returns-in_err-bounds-clause-due g = λ c. λ asked.
    let told = err_from_is_err_and c.from_residual-in_err-bounds.result c.from_residual-in_err-bounds.ensures.1 in
    rw told.1 (due_bounds asked c.args.bytes.now c.in_ok-image.image c.in_err-bounds.field-0.0 told.0 c.in_ok-image.ensures.found
    c.in_err-bounds.ensures.exact told.2)
