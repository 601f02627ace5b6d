use Rattle.std.proofs.Common.{◌++◌}
use Rattle.std.specs.String.{string_bytes}
use Rattle.x10_frame.specs.Heads.{graph_of}
use Rattle.x10_frame_lines.specs.Lines.{numbered, rail_line}
use Rattle.x10_frame_lines.proofs.Numbered.{AreLeft}
use Rattle.x10_frame_lines.proofs.graph.push_rails.Given as goal

abbrev pub invariant-loop-i : goal.invariant-loop-i
invariant-loop-i l = AreLeft (λ n xs. numbered rail_line n xs)
    (string_bytes l.initial.text ++ numbered rail_line 0 (graph_of l.frame).rails) (string_bytes l.text) (graph_of l.frame).rails l.i
