use Rattle.std.proofs.Common.{◌++◌, map}
use Rattle.std.specs.List.{flat_map}
use Rattle.std.specs.String.{string_bytes}
use Rattle.x10_place.specs.StandsFor.{line_as}
use Rattle.x10_log.specs.Logs.{line_word}
use Rattle.x10_log.specs.Limits.{FitsLine}
use Rattle.x10_log.proofs.Fitting.{AreFit}
use Rattle.x10_log.proofs.Pushed.{ArePushed}
use Rattle.x10_log.proofs.pieces.push_lines.Given as goal

abbrev pub invariant-loop-at : goal.invariant-loop-at
invariant-loop-at l = ArePushed (λ xs. flat_map line_word (map line_as xs))
    (string_bytes l.initial.text ++ flat_map line_word (map line_as l.lines)) (string_bytes l.text) l.lines l.at
    × AreFit (λ x. FitsLine (line_as x)) l.lines l.at
