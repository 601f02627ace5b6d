use Rattle.std.specs.Prelude.{◌≡◌, take}
use Rattle.x10_world.specs.Endings.{lines_in, lines_at}
use Rattle.x10_world.proofs.lines.copied_outputs.Given as goal

abbrev pub invariant-loop-place : goal.invariant-loop-place
invariant-loop-place l = lines_in l.outputs.items ≡ lines_at (take l.place-index l.places)
