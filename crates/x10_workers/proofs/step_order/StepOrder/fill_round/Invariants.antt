use Rattle.std.specs.Prelude.{◌≤◌, length}
use Rattle.x10_workers.proofs.step_order.StepOrder.fill_round.Given as goal

abbrev pub invariant-loop : goal.invariant-loop
invariant-loop l = length l.round.items ≤ l.counter
