use Rattle.std.proofs.Common.{◌++◌}
use Rattle.std.specs.String.{string_bytes}
use Rattle.x10_frame.specs.Heads.{received_of}
use Rattle.x10_frame_lines.specs.Lines.{count_words}
use Rattle.x10_frame_lines.proofs.Numbered.{AreLeft}
use Rattle.x10_frame_lines.proofs.lines.push_received.Given as goal

abbrev pub invariant-loop-place : goal.invariant-loop-place
invariant-loop-place l = AreLeft (λ n xs. count_words xs)
    (string_bytes l.initial.text ++ count_words (received_of l.frame)) (string_bytes l.text) (received_of l.frame) l.place
