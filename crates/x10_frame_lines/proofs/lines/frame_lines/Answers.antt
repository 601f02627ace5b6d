use Rattle.std.proofs.lemmas.Result.{err_from_is_err_and}
use Rattle.x10_frame_lines.proofs.Fronts.{only_memory}
use Rattle.x10_frame_lines.proofs.lines.frame_lines.Goals as goal

pub returns-in_err-frame-clause-only : goal.returns-in_err-frame-clause-only
returns-in_err-frame-clause-only c f spelled =
    let told = err_from_is_err_and c.from_residual.result c.from_residual.ensures.1 in
    rw (told.1, told.2) (only_memory f c.in_err-frame.field-0.0 (c.in_err-frame.ensures.only f spelled))
