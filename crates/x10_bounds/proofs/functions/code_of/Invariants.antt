use Rattle.std.proofs.Common.{◌≡◌, take}
use Rattle.x10_image.specs.Parts.{code_at}
use Rattle.x10_bounds.proofs.functions.code_of.Given as goal

abbrev pub invariant-loop-pc : goal.invariant-loop-pc
invariant-loop-pc l = l.code.items ≡ take l.pc (code_at l.image l.f)
