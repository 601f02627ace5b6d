use Rattle.x10_asm.proofs.ListingAgain.{read_again}
use Rattle.x10_asm.proofs.laws.listing_is_read.Goals as goal

pub returns : goal.returns
returns c = record { law = read_again }
