use Rattle.std.proofs.Common.{◌-◌, length, map}
use Rattle.std.specs.String.{string_bytes}
use Rattle.x10_states.proofs.Stayed.{AreSoFar}
use Rattle.x10_states.proofs.parts.stay_texts.Given as goal

abbrev pub invariant-loop-key : goal.invariant-loop-key
invariant-loop-key l = AreSoFar l.kinds l.place (map string_bytes l.texts.items)

abbrev pub decreases-loop-key : goal.decreases-loop-key
decreases-loop-key l = length l.place.stays.slots - length l.texts.items
