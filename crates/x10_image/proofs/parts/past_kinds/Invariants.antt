use Rattle.std.proofs.Common.{ℕ, ◌-◌}
use Rattle.x10_model.specs.Readers.{times}
use Rattle.x10_model.specs.ReadingImages.{kind_at}
use Rattle.x10_bytes.proofs.Loops.{Along}
use Rattle.x10_image.proofs.parts.past_kinds.Given as goal

abbrev pub invariant-loop-field : goal.invariant-loop-field
invariant-loop-field l = Along (λ (_ : ℕ). kind_at l.classes) (λ s _. s) (l.count - l.field) 0 0 l.rest (times l.count (kind_at l.classes) l.bytes)
