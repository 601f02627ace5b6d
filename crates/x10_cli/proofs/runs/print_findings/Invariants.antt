use Rattle.std.specs.List.{flat_map}
use Rattle.std.specs.Prelude.{take}
use Rattle.std.specs.Io.KnownBytes.{Appends}
use Rattle.x10_cli.specs.Runs.{finding_text}
use Rattle.x10_cli.proofs.runs.print_findings.Given as goal

abbrev pub invariant-loop-finding : goal.invariant-loop-finding
invariant-loop-finding g l = Appends (g.O.Write.contents l.initial.out) (g.O.Write.contents l.out)
    (flat_map (finding_text l.runs) (take l.finding-index l.finding-items))
