use Rattle.std.specs.Prelude.{◌≡◌, map, take}
use Rattle.x10_place.specs.StandsFor.{line_as}
use Rattle.x10_world.specs.Endings.{lines_in}
use Rattle.x10_workers.proofs.weaving.outputs_of.Given as goal

abbrev pub invariant-loop-at : goal.invariant-loop-at
invariant-loop-at l = lines_in l.outputs.items ≡ map (λ t. map line_as t.lines) (take l.at l.trails)
