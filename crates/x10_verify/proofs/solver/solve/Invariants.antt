use Rattle.std.proofs.Common.{◌≡◌, ◌+◌, ◌-◌, ◌*◌, Some, length}
use Rattle.x10_model.specs.Modules.{Function}
use Rattle.x10_model.specs.Ranges.{function_at}
use Rattle.x10_verify.specs.Solving.{Solves}
use Rattle.x10_verify.specs.States.{total}
use Rattle.x10_verify.proofs.solver.solve.Given as goal

abbrev pub invariant-loop-at : goal.invariant-loop-at
invariant-loop-at l = record {
  solves : (function : Function) → function_at l.image l.f ≡ Some function → Solves l.image function l.at l.table.items;
  size : length l.table.items ≡ length l.fn.table.items;
}

abbrev pub decreases-loop-at : goal.decreases-loop-at
decreases-loop-at l = total l.table.items * (l.len + 1) + (l.len - l.at)
