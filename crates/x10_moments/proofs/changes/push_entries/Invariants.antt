use Rattle.std.proofs.Common.{◌≡◌, ◌++◌}
use Rattle.std.specs.String.{string_bytes}
use Rattle.x10_moments.specs.Changes.{bytes_of, entries}
use Rattle.x10_moments.proofs.changes.push_entries.Given as goal

abbrev pub invariant-loop-i : goal.invariant-loop-i
invariant-loop-i l = string_bytes l.text ≡ string_bytes l.initial.text ++ entries (bytes_of l.old) (bytes_of l.new) l.i
