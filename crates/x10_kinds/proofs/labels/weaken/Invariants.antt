use Rattle.std.proofs.Common.{◌≡◌, ◌+◌, ◌*◌, true, false}
use Rattle.x10_kinds.specs.Labels.{IsMetTo, ContainsRow}
use Rattle.x10_kinds.proofs.labels.weaken.Given as goal

abbrev pub invariant-loop-part : goal.invariant-loop-part
invariant-loop-part l = record {
  done : IsMetTo l.fn.labels l.other (16 * l.part + 1) l.labels;
  kept : l.changed ≡ false → l.labels ≡ l.fn.labels;
  lacking : l.changed ≡ true → ContainsRow l.other l.fn.labels → ⊥;
}
