use Rattle.std.specs.Prelude.{◌≡◌, replicate, take}
use Rattle.x10_hall.proofs.keys.only_key.Given as goal

abbrev pub invariant-loop-at : goal.invariant-loop-at
invariant-loop-at l = take l.at l.keys ≡ replicate l.at l.key
