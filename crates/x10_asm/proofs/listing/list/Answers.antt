use Rattle.std.proofs.Common.{◌∙◌, ap}
use Rattle.x10_asm.specs.Reading.{module_of}
use Rattle.x10_asm.proofs.ListingAgain.{read_again}
use Rattle.x10_asm.proofs.listing.list.Goals as goal

pub returns-clause-again : goal.returns-clause-again
returns-clause-again c = ap module_of c.in_ok-text.ensures ∙ read_again c.args.image.now c.fits.ensures
