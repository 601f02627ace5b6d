use Rattle.std.proofs.Common.{◌++◌, map}
use Rattle.std.specs.List.{flat_map}
use Rattle.std.specs.String.{string_bytes}
use Rattle.x10_hall.specs.Halls.{frame_of}
use Rattle.x10_log.specs.Logs.{frame_word}
use Rattle.x10_log.specs.Limits.{FitsFrame}
use Rattle.x10_log.proofs.Fitting.{AreFit}
use Rattle.x10_log.proofs.Pushed.{ArePushed}
use Rattle.x10_log.proofs.pieces.push_frames.Given as goal

abbrev pub invariant-loop-at : goal.invariant-loop-at
invariant-loop-at l = ArePushed (λ xs. flat_map frame_word (map frame_of xs))
    (string_bytes l.initial.text ++ flat_map frame_word (map frame_of l.frames)) (string_bytes l.text) l.frames l.at
    × AreFit (λ x. FitsFrame (frame_of x)) l.frames l.at
