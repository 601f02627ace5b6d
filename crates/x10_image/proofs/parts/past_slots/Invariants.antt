use Rattle.std.proofs.Common.{ℕ, ◌-◌}
use Rattle.x10_model.specs.Readers.{times}
use Rattle.x10_model.specs.ReadingImages.{slot_at}
use Rattle.x10_bytes.proofs.Loops.{Along}
use Rattle.x10_image.proofs.parts.past_slots.Given as goal

abbrev pub invariant-loop-parameter : goal.invariant-loop-parameter
invariant-loop-parameter l = Along (λ (_ : ℕ). slot_at l.classes) (λ s _. s) (l.count - l.parameter) 0 0 l.rest
    (times l.count (slot_at l.classes) l.bytes)
