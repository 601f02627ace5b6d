use Rattle.std.proofs.Common.{None}
use Rattle.x10_c.proofs.work.verified.Goals.{in-Ok, in-Err}
use Rattle.x10_c.proofs.work.verified.Goals as goal

pub returns-clause-due : goal.returns-clause-due
returns-clause-due c = elim c.match-verified_in.branch [ in-Ok w ↦ rw w.result-is tt | in-Err w ↦ rw w.result-is (w.in-Err.ensures.due None) ]
