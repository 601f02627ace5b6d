use Rattle.x10_states.proofs.Flawless.{AreLeastTo}
use Rattle.x10_states.proofs.kinds.Kinds.new.Given as goal

abbrev pub invariant-loop-f : goal.invariant-loop-f
invariant-loop-f l = AreLeastTo l.verified.program l.f l.flows.items
