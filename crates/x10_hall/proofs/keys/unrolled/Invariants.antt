use Rattle.std.specs.Prelude.{◌≡◌}
use Rattle.x10_hall.specs.KeyLists.{in_rounds}
use Rattle.x10_hall.proofs.keys.unrolled.Given as goal

abbrev pub invariant-loop-at : goal.invariant-loop-at
invariant-loop-at l = l.keys.items ≡ in_rounds l.round l.at
