use Rattle.std.proofs.Common.{◌++◌}
use Rattle.std.specs.String.{string_bytes}
use Rattle.x10_frame.specs.Heads.{graph_of}
use Rattle.x10_frame_lines.specs.Lines.{numbered, root_line}
use Rattle.x10_frame_lines.proofs.Numbered.{AreLeft}
use Rattle.x10_frame_lines.proofs.graph.push_roots.Given as goal

abbrev pub invariant-loop-i : goal.invariant-loop-i
invariant-loop-i l = AreLeft (λ n xs. numbered root_line n xs)
    (string_bytes l.initial.text ++ numbered root_line 0 (graph_of l.frame).roots) (string_bytes l.text) (graph_of l.frame).roots l.i
