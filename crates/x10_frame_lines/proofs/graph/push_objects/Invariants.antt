use Rattle.std.proofs.Common.{◌++◌}
use Rattle.std.specs.String.{string_bytes}
use Rattle.x10_frame.specs.Heads.{graph_of}
use Rattle.x10_frame_lines.specs.Lines.{numbered, object_lines}
use Rattle.x10_frame_lines.proofs.Numbered.{AreLeft}
use Rattle.x10_frame_lines.proofs.graph.push_objects.Given as goal

abbrev pub invariant-loop-i : goal.invariant-loop-i
invariant-loop-i l = AreLeft (λ n xs. numbered object_lines n xs)
    (string_bytes l.initial.text ++ numbered object_lines 0 (graph_of l.frame).nodes) (string_bytes l.text) (graph_of l.frame).nodes l.i
