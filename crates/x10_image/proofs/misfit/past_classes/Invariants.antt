use Rattle.std.proofs.Common.{ℕ, ◌-◌}
use Rattle.x10_model.specs.Readers.{times}
use Rattle.x10_model.specs.ReadingImages.{class_at}
use Rattle.x10_bytes.proofs.Loops.{Along}
use Rattle.x10_image.proofs.misfit.past_classes.Given as goal

abbrev pub invariant-loop-class : goal.invariant-loop-class
invariant-loop-class l = Along (λ (_ : ℕ). class_at l.count) (λ s _. s) (l.count - l.class) 0 0 l.rest (times l.count (class_at l.count) l.bytes)
