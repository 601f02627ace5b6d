use Rattle.std.proofs.Common.{◌≡◌, true, false}
use Rattle.x10_kinds.specs.Labels.{IsMetTo, ContainsRow}
use Rattle.x10_kinds.proofs.labels.weaken_part.Given as goal

abbrev pub invariant-loop-at : goal.invariant-loop-at
invariant-loop-at l = record {
  done : IsMetTo l.before l.other l.at l.labels;
  kept : l.changed ≡ false → l.labels ≡ l.fn.labels;
  lacking : l.changed ≡ true → ContainsRow l.other l.before → ⊥;
}
