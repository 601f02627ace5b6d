use Rattle.std.proofs.Common.{[], ap}
use Rattle.x10_asm.specs.Kinds.{each, field_of}
use Rattle.x10_asm.proofs.flaws.past_kinds.Goals as goal

pub returns-clause-passed : goal.returns-clause-passed
returns-clause-passed c = c.loop-word.invariant.passed [] (ap (each (field_of c.args.classes)) c.in_default.ensures.words)
