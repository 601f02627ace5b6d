use Rattle.std.specs.String.{string_bytes}
use Rattle.x10_asm.proofs.Escapes.{ArePushed}
use Rattle.x10_asm.proofs.escape.push_escaped.Given as goal

abbrev pub invariant-loop-at : goal.invariant-loop-at
invariant-loop-at l = ArePushed (string_bytes l.initial.out) (string_bytes l.out) l.text l.from l.at
