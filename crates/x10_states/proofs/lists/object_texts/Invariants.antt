use Rattle.std.proofs.Common.{◌≡◌, map, take}
use Rattle.std.specs.String.{string_bytes}
use Rattle.x10_states.specs.Objects.{object_text}
use Rattle.x10_states.proofs.lists.object_texts.Given as goal

abbrev pub invariant-loop-i : goal.invariant-loop-i
invariant-loop-i l = map string_bytes l.texts.items ≡ map (object_text l.image.classes l.heap) (take l.i l.heap.objects)
