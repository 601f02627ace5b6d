use Rattle.std.proofs.Common.{◌++◌}
use Rattle.std.specs.List.{flat_map}
use Rattle.std.specs.String.{string_bytes}
use Rattle.x10_log.specs.Logs.{taken_word}
use Rattle.x10_log.proofs.Pushed.{ArePushed}
use Rattle.x10_log.proofs.pieces.push_taken.Given as goal

abbrev pub invariant-loop-at : goal.invariant-loop-at
invariant-loop-at l = ArePushed (flat_map taken_word) (string_bytes l.initial.text ++ flat_map taken_word l.taken) (string_bytes l.text) l.taken l.at
