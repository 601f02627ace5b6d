use Rattle.std.proofs.Common.{None}
use Rattle.x10_c.proofs.modules.module_of.Goals as goal

pub returns-in-Err-clause-due : goal.returns-in-Err-clause-due
returns-in-Err-clause-due c = c.in-Err.ensures.due None
