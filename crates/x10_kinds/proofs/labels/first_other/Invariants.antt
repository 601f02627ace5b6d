use Rattle.std.proofs.Common.{◌+◌, ◌*◌}
use Rattle.x10_kinds.specs.Labels.{AreSameIn}
use Rattle.x10_kinds.proofs.labels.first_other.Given as goal

abbrev pub invariant-loop-part : goal.invariant-loop-part
invariant-loop-part l = AreSameIn l.labels l.other 1 (16 * l.part + 1)
