use Rattle.x10_image.proofs.WrittenLaws.{passes_fits, hindered}
use Rattle.x10_image.proofs.writing.write.Goals as goal

pub returns-in_err-check-clause-only : goal.returns-in_err-check-clause-only
returns-in_err-check-clause-only c = λ fits. absurd (hindered c.args.source.now c.in_err-check.field-0.0 c.in_err-check.ensures.fault fits)

pub returns-clause-spelled : goal.returns-clause-spelled
returns-clause-spelled c = (passes_fits c.args.source.now c.in_ok-check.ensures.passes c.in_ok-spelled.ensures.fits, c.in_ok-spelled.ensures.value)
