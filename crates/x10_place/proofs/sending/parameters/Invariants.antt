use Rattle.std.proofs.Common.{◌≡◌, take, length}
use Rattle.x10_place.proofs.sending.parameters.Given as goal

-- the first slots are the parameters so far
abbrev pub invariant-loop-i : goal.invariant-loop-i
invariant-loop-i l = (length l.slots ≡ 16) × (take l.i l.slots ≡ take l.i l.signature.parameters)
