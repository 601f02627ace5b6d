use Rattle.x10_verify.specs.Merging.{IsWeakened}
use Rattle.x10_verify.proofs.known.Known.weaken_kinds.Given as goal

abbrev pub invariant-loop-register : goal.invariant-loop-register
invariant-loop-register l = IsWeakened l.fn.self l.other l.register l.self l.changed
