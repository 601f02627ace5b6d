use Rattle.std.proofs.Common.{ℕ, ◌-◌}
use Rattle.x10_model.specs.Readers.{times}
use Rattle.x10_model.specs.ReadingImages.{text_at}
use Rattle.x10_bytes.proofs.Loops.{Along}
use Rattle.x10_image.proofs.misfit.past_texts.Given as goal

abbrev pub invariant-loop-text : goal.invariant-loop-text
invariant-loop-text l = Along (λ (_ : ℕ). text_at) (λ s _. s) (l.count - l.text) 0 0 l.rest (times l.count text_at l.bytes)
