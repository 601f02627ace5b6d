use Rattle.std.proofs.Common.{◌++◌}
use Rattle.std.specs.String.{string_bytes}
use Rattle.x10_frame_lines.specs.Lines.{numbered, field_line}
use Rattle.x10_frame_lines.proofs.Numbered.{AreLeft}
use Rattle.x10_frame_lines.proofs.graph.push_fields.Given as goal

abbrev pub invariant-loop-j : goal.invariant-loop-j
invariant-loop-j l = AreLeft (λ n xs. numbered (field_line l.i) n xs)
    (string_bytes l.initial.text ++ numbered (field_line l.i) 0 l.object.fields) (string_bytes l.text) l.object.fields l.j
