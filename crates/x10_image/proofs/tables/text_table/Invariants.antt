use Rattle.std.proofs.Common.{ℕ, ◌-◌}
use Rattle.x10_model.specs.Images.{text_bytes}
use Rattle.x10_model.specs.Readers.{times}
use Rattle.x10_model.specs.ReadingImages.{text_at}
use Rattle.x10_bytes.proofs.TableLoops.{Placed}
use Rattle.x10_image.proofs.tables.text_table.Given as goal

abbrev pub invariant-loop : goal.invariant-loop
invariant-loop l = Placed (λ (_ : ℕ). text_at) (λ s _. s) text_bytes l.image (l.count - l.counter) 0 0 l.rest l.table.items
    (times l.count text_at l.bytes)
