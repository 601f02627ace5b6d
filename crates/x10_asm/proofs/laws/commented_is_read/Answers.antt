use Rattle.x10_asm.proofs.ListingAgain.{read_commented}
use Rattle.x10_asm.proofs.laws.commented_is_read.Goals as goal

pub returns : goal.returns
returns c = record { law = read_commented }
