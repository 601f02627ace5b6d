use Rattle.x10_verify.proofs.Entries.{KindsTo}
use Rattle.x10_verify.proofs.entry.kinds.Given as goal

-- the registers so far have their kinds, and the others none
abbrev pub invariant-loop-i : goal.invariant-loop-i
invariant-loop-i l = KindsTo l.signature.parameters l.kinds l.i
