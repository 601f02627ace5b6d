use denote.Text.{Utf8}
use denote.Shadow.{shadow}
use Rattle.std.proofs.Common.{length, map}
use Rattle.x10_log.specs.Logs.{turn_value}
use Rattle.x10_log.proofs.LogLines.{AreRead}
use Rattle.x10_log.proofs.reading.turns_in.Given as goal

abbrev pub invariant-loop-line : goal.invariant-loop-line
invariant-loop-line l = shadow (Utf8 l.rest) × AreRead l.places l.text l.rest (map turn_value l.turns.items)

abbrev pub decreases-loop-line : goal.decreases-loop-line
decreases-loop-line l = length l.rest
