use Rattle.std.proofs.Common.{take}
use Rattle.std.specs.Io.KnownBytes.{Appends}
use Rattle.x10_world.specs.Endings.{lines_in}
use Rattle.x10_cli.specs.Lines.{all_lines}
use Rattle.x10_cli.proofs.lines.write_report.Given as goal

abbrev pub invariant-loop-place : goal.invariant-loop-place
invariant-loop-place g l = Appends (g.O.Write.contents l.initial.out) (g.O.Write.contents l.out)
    (all_lines l.json 0 (take l.place (lines_in l.outputs)))
