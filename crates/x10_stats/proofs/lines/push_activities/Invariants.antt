use Rattle.std.proofs.Common.{◌≡◌, ◌++◌}
use Rattle.std.specs.String.{string_bytes}
use Rattle.x10_stats.specs.Lines.{activity_lines}
use Rattle.x10_stats.proofs.lines.push_activities.Given as goal

abbrev pub invariant-loop-n : goal.invariant-loop-n
invariant-loop-n l = string_bytes l.text ≡ string_bytes l.initial.text ++ activity_lines l.tally.all l.verified l.n
