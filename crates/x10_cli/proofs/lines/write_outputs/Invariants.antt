use Rattle.std.proofs.Common.{take}
use Rattle.std.specs.Io.KnownBytes.{Appends}
use Rattle.x10_world.specs.Endings.{lines_at}
use Rattle.x10_cli.specs.Lines.{all_lines}
use Rattle.x10_cli.proofs.lines.write_outputs.Given as goal

abbrev pub invariant-loop-place : goal.invariant-loop-place
invariant-loop-place g l = Appends (g.O.Write.contents l.initial.out) (g.O.Write.contents l.out)
    (all_lines l.json 0 (take l.place (lines_at l.world.places)))
