use Rattle.std.proofs.Common.{◌++◌}
use Rattle.std.specs.String.{string_bytes}
use Rattle.x10_frame_lines.specs.Lines.{count_words}
use Rattle.x10_frame_lines.proofs.Numbered.{AreLeft}
use Rattle.x10_frame_lines.proofs.values.push_bytes.Given as goal

abbrev pub invariant-loop-at : goal.invariant-loop-at
invariant-loop-at l = AreLeft (λ n xs. count_words xs)
    (string_bytes l.initial.text ++ count_words l.bytes) (string_bytes l.text) l.bytes l.at
