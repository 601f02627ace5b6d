use Rattle.x10_image.proofs.WrittenLaws.{text_fits_by}
use Rattle.x10_image.proofs.fitting.text_fits.Goals as goal

pub returns : goal.returns
returns c = rw c.from.ensures (text_fits_by c.args.text.now _ c.utf8.text)
