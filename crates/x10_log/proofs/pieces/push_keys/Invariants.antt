use Rattle.std.proofs.Common.{◌<◌, ◌^◌, ◌++◌}
use Rattle.std.specs.String.{string_bytes}
use Rattle.x10_log.specs.Logs.{runs}
use Rattle.x10_log.proofs.Fitting.{AreFit}
use Rattle.x10_log.proofs.KeyRuns.{run_words, AreCounted}
use Rattle.x10_log.proofs.pieces.push_keys.Given as goal

abbrev pub invariant-loop-at : goal.invariant-loop-at
invariant-loop-at l = AreCounted (string_bytes l.initial.text ++ run_words (runs l.keys)) (string_bytes l.text) l.key l.count l.keys l.at
    × AreFit (λ n. n < 2 ^ 64) l.keys l.at
