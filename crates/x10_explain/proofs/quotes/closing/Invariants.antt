use Rattle.std.proofs.Common.{◌-◌, length}
use Rattle.x10_explain.proofs.quotes.closing.Given as goal

abbrev pub decreases-loop-at : goal.decreases-loop-at
decreases-loop-at l = length l.bytes - l.at
