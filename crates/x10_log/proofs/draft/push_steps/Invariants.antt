use Rattle.x10_log.proofs.Repeats.{AreRepeated}
use Rattle.x10_log.proofs.draft.push_steps.Given as goal

abbrev pub invariant-loop : goal.invariant-loop
invariant-loop l = AreRepeated l.initial.keys.items l.keys.items l.key l.counter
