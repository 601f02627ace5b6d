use Rattle.std.proofs.Common.{take}
use Rattle.std.specs.Io.KnownBytes.{Appends}
use Rattle.x10_cli.specs.Lines.{bound_lines}
use Rattle.x10_cli.proofs.commands.print_bounds.Given as goal

abbrev pub invariant-loop-f : goal.invariant-loop-f
invariant-loop-f g l = Appends (g.O.Write.contents l.initial.out) (g.O.Write.contents l.out) (bound_lines 0 (take l.f-counter l.bounds.items))
