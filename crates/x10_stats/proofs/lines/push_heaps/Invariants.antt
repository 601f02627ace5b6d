use Rattle.std.proofs.Common.{◌≡◌, ◌++◌}
use Rattle.std.specs.Prelude.{take}
use Rattle.std.specs.String.{string_bytes}
use Rattle.x10_stats.specs.Lines.{all_heap_lines}
use Rattle.x10_stats.proofs.lines.push_heaps.Given as goal

abbrev pub invariant-loop-place : goal.invariant-loop-place
invariant-loop-place l = string_bytes l.text ≡ string_bytes l.initial.text ++ all_heap_lines 0 (take l.place l.world.places)
