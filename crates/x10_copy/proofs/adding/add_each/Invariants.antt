use Rattle.std.proofs.Common.{map}
use Rattle.x10_copy.specs.Arrived.{object_from}
use Rattle.x10_copy.proofs.Additions.{ObjectsLeft}
use Rattle.x10_copy.proofs.adding.add_each.Given as goal

abbrev pub invariant-loop-k : goal.invariant-loop-k
invariant-loop-k l = ObjectsLeft l.initial.heap l.heap (map (object_from l.bases.texts l.bases.rails l.bases.objects) l.nodes) l.k
