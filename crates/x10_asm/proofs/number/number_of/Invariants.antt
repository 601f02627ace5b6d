use Rattle.x10_asm.proofs.Numbers.{IsReadTo}
use Rattle.x10_asm.proofs.number.number_of.Given as goal

abbrev pub invariant-loop-at : goal.invariant-loop-at
invariant-loop-at l = IsReadTo l.word l.most l.at l.value
