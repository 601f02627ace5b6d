use Rattle.std.specs.Prelude.{◌≡◌, take}
use Rattle.x10_hall.proofs.keys.Keys.is_same.Given as goal

abbrev pub invariant-loop-at : goal.invariant-loop-at
invariant-loop-at l = take l.at l.self ≡ take l.at l.other
