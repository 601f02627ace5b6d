use Rattle.std.proofs.Common.{◌-◌, length}
use Rattle.x10_verify.proofs.entry.+homes.Given as goal

abbrev pub decreases-homes : goal.decreases-homes
decreases-homes l = length l.signature.now.parameters - l.from
