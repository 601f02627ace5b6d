use Rattle.std.proofs.Common.{◌-◌, drop, length, false}
use Rattle.x10_asm.proofs.QuotedBytes.{IsWithin}
use Rattle.x10_asm.proofs.literal.behind.Given as goal

abbrev pub invariant-loop-at : goal.invariant-loop-at
invariant-loop-at l = IsWithin false (drop l.at l.quoted) l.quoted

abbrev pub decreases-loop-at : goal.decreases-loop-at
decreases-loop-at l = length l.bytes - l.at
