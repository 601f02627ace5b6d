use Rattle.std.proofs.Common.{◌≡◌, ◌++◌, ◌-◌}
use Rattle.std.specs.String.{string_bytes}
use Rattle.x10_trace.specs.Trace.{post_lines}
use Rattle.x10_trace.proofs.lines.push_posts.Given as goal

abbrev pub invariant-loop-number : goal.invariant-loop-number
invariant-loop-number l = string_bytes l.text ++ post_lines l.world.flights l.from l.number (l.number-end - l.number)
    ≡ string_bytes l.fn.text ++ post_lines l.world.flights l.from l.first (l.number-end - l.first)
