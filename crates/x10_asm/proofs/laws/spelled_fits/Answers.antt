use Rattle.x10_asm.proofs.FittingSources.{spelled_fits}
use Rattle.x10_asm.proofs.laws.spelled_fits.Goals as goal

pub returns : goal.returns
returns c = record { law = spelled_fits }
