use Rattle.std.proofs.lemmas.Result.{err_from_is_err_and}
use Rattle.x10_cli.proofs.Answered.{refuses_none}
use Rattle.x10_cli.proofs.frame.lines_of.Goals as goal

pub returns-in_err-frame_lines-clause-refused : goal.returns-in_err-frame_lines-clause-refused
returns-in_err-frame_lines-clause-refused c =
    let told = err_from_is_err_and c.from_residual.result c.from_residual.ensures.1 in
    rw told.1 (λ s done. refuses_none c.in_err-frame_lines.field-0.0 told.0 told.2 (c.in_err-frame_lines.ensures.only done.0 done.1) s)
