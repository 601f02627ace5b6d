use Rattle.std.specs.Prelude.{◌≡◌, ◌++◌, map, take}
use Rattle.x10_place.specs.StandsFor.{line_as}
use Rattle.x10_world.proofs.lines.push_lines.Given as goal

abbrev pub invariant-loop-line : goal.invariant-loop-line
invariant-loop-line l = map line_as l.to.items ≡ map line_as l.fn.to.items ++ map line_as (take l.line-index l.lines)
