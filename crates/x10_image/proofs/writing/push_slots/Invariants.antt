use Rattle.std.proofs.Common.{◌≡◌, ◌++◌, take, flat_map}
use Rattle.x10_model.specs.Images.{slot_bytes}
use Rattle.x10_image.proofs.writing.push_slots.Given as goal

abbrev pub invariant-loop-slot : goal.invariant-loop-slot
invariant-loop-slot l = l.out.items ≡ l.initial.out.items ++ flat_map slot_bytes (take l.slot-index l.slots)
