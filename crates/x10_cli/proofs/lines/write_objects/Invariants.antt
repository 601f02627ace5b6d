use Rattle.std.proofs.Common.{map, take, true}
use Rattle.std.specs.Io.KnownBytes.{Appends}
use Rattle.x10_place.specs.StandsFor.{line_as}
use Rattle.x10_cli.specs.Lines.{place_lines}
use Rattle.x10_cli.proofs.lines.write_objects.Given as goal

abbrev pub invariant-loop-line : goal.invariant-loop-line
invariant-loop-line g l = Appends (g.O.Write.contents l.initial.out) (g.O.Write.contents l.out)
    (place_lines true l.place (map line_as (take l.line-index l.lines)))
