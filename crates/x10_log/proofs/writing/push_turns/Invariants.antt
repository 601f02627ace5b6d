use Rattle.std.proofs.Common.{◌++◌, map}
use Rattle.std.specs.List.{flat_map}
use Rattle.std.specs.String.{string_bytes}
use Rattle.x10_log.specs.Logs.{turn_value, ended_line}
use Rattle.x10_log.specs.Limits.{FitsTurn}
use Rattle.x10_log.proofs.Fitting.{AreFit}
use Rattle.x10_log.proofs.Pushed.{ArePushed}
use Rattle.x10_log.proofs.writing.push_turns.Given as goal

abbrev pub invariant-loop-at : goal.invariant-loop-at
invariant-loop-at l = ArePushed (λ ts. flat_map ended_line (map turn_value ts))
    (string_bytes l.initial.text ++ flat_map ended_line (map turn_value l.turns.items)) (string_bytes l.text) l.turns.items l.at
    × AreFit (λ t. FitsTurn (turn_value t)) l.turns.items l.at
