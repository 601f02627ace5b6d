use Rattle.std.specs.Prelude.{◌≡◌, map, take}
use Rattle.x10_workers.proofs.weaving.same_numbers.Given as goal

abbrev pub invariant-loop-at : goal.invariant-loop-at
invariant-loop-at l = map (λ f. f.number) (take l.at l.taken) ≡ take l.at l.numbers
