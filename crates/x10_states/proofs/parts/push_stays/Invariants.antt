use Rattle.std.proofs.Common.{◌≡◌, length, map}
use Rattle.std.specs.String.{string_bytes}
use Rattle.x10_states.specs.Stays.{AreListed}
use Rattle.x10_states.proofs.parts.push_stays.Given as goal

abbrev pub invariant-loop-key : goal.invariant-loop-key
invariant-loop-key l = (length l.texts.items ≡ l.key)
    × (AreListed l.kinds l.place (map string_bytes l.fn.texts.items) → AreListed l.kinds l.place (map string_bytes l.texts.items))
