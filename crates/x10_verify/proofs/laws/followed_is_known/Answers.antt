use Rattle.x10_verify.proofs.Found as found
use Rattle.x10_verify.proofs.laws.followed_is_known.Goals as goal

pub returns : goal.returns
returns c = found.followed_is_known
