use Rattle.std.specs.Prelude.{◌≡◌, [], replicate}
use Rattle.x10_world.specs.Endings.{lines_in}
use Rattle.x10_workers.proofs.lines.empty_lists.Given as goal

abbrev pub invariant-loop : goal.invariant-loop
invariant-loop l = lines_in l.lists.items ≡ replicate l.counter []
