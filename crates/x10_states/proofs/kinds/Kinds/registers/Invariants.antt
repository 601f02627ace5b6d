use Rattle.std.proofs.Common.{◌≡◌}
use Rattle.x10_states.specs.Kinds.{known_below, known_kind}
use Rattle.x10_states.proofs.kinds.Kinds.registers.Given as goal

abbrev pub invariant-loop-register : goal.invariant-loop-register
invariant-loop-register l = l.registers.items ≡ known_below (known_kind l.self l.function l.pc) l.register
