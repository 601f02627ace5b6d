use Rattle.std.proofs.Common.{◌≡◌, map, take}
use Rattle.std.specs.String.{string_bytes}
use Rattle.x10_states.specs.Json.{json}
use Rattle.x10_states.proofs.lists.text_texts.Given as goal

abbrev pub invariant-loop-i : goal.invariant-loop-i
invariant-loop-i l = map string_bytes l.texts.items ≡ map json (take l.i l.heap.texts)
