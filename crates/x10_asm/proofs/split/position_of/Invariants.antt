use Rattle.std.proofs.Common.{◌≡◌, ◌+◌, drop}
use Rattle.x10_asm.specs.Lines.{count_before}
use Rattle.x10_asm.proofs.split.position_of.Given as goal

abbrev pub invariant-loop-at : goal.invariant-loop-at
invariant-loop-at l = count_before l.byte l.bytes ≡ l.at + count_before l.byte (drop l.at l.bytes)
