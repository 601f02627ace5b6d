use Rattle.std.proofs.Common.{◌+◌, ◌-◌, ◌≤◌, length}
use Rattle.x10_model.specs.declared.limits.TheConstants.{MOST_WIDE}
use Rattle.x10_copy.specs.Captured.{kinds_of}
use Rattle.x10_copy.specs.Walks.{Walked}
use Rattle.x10_copy.proofs.mark.mark.Given as goal

abbrev pub invariant-loop-k : goal.invariant-loop-k
invariant-loop-k l = record {
  within : l.k ≤ length l.marks.objects;
  walked : Walked l.image.classes l.places l.heap (kinds_of l.slots) l.words l.k l.marks;
}

abbrev pub decreases-loop-k : goal.decreases-loop-k
decreases-loop-k l = MOST_WIDE + 1 - l.k
