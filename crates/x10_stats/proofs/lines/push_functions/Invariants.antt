use Rattle.std.proofs.Common.{◌≡◌, ◌++◌}
use Rattle.std.specs.String.{string_bytes}
use Rattle.x10_stats.specs.Lines.{function_lines}
use Rattle.x10_stats.proofs.lines.push_functions.Given as goal

abbrev pub invariant-loop-f : goal.invariant-loop-f
invariant-loop-f l = string_bytes l.text ≡ string_bytes l.initial.text ++ function_lines l.functions l.verified.bounds l.f
