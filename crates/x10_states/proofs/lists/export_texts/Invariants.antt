use Rattle.std.proofs.Common.{◌≡◌, map, take}
use Rattle.std.specs.String.{string_bytes}
use Rattle.x10_states.specs.Objects.{export_text}
use Rattle.x10_states.proofs.lists.export_texts.Given as goal

abbrev pub invariant-loop-i : goal.invariant-loop-i
invariant-loop-i l = map string_bytes l.texts.items ≡ map export_text (take l.i l.heap.exports)
