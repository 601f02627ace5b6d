use Rattle.x10_asm.proofs.ToldVersions.{version_is_told}
use Rattle.x10_asm.proofs.laws.version_is_told.Goals as goal

pub returns : goal.returns
returns c = record { law = version_is_told }
